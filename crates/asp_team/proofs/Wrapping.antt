-- Layer round layer: the last of the levels for which no one answers yet gets its layer.
use Rattle.std.proofs.Common.{◌≡◌, refl, sym, ap, ◌∙◌, subst, ℕ, zero, suc, ◌+◌, ◌-◌, ◌≤◌, ◌<◌, Option, None, Some, option_to_list, List, [], ◌∷◌, ◌++◌, length, arith}
use Rattle.asp_defs.specs.declared.ground.Game.{Game}
use Rattle.asp_defs.specs.Games.{IsValid, level_count, most_levels}
use Rattle.asp_game.specs.State.{MovesState}
use Rattle.asp_answers.specs.AnswersState.{unasked}
use Rattle.asp_node.specs.Children.{ChildState}
use Rattle.asp_team.specs.States.{first_levels, layer_state, over, AreWrapped, IsFresh, IsLayered, IsOver, IsUnfinished}
use Rattle.asp_team.proofs.Layering.{fresh-layer, fresh-layered}

longer : (xs : List MovesState) (x : MovesState) → length (xs ++ x ∷ []) ≡ suc (length xs)
longer [] x = refl
longer (y ∷ ys) x = ap suc (longer ys x)

no-more : (xs : List MovesState) → xs ++ [] ≡ xs
no-more [] = refl
no-more (x ∷ xs) = ap (λ ys. x ∷ ys) (no-more xs)

abbrev head-of : MovesState → List MovesState → MovesState
head-of x [] = x
head-of x (y ∷ ys) = y

abbrev tail-of : List MovesState → List MovesState
tail-of [] = []
tail-of (y ∷ ys) = ys

-- lists that end with one element each are equal in what is before it, and in it
same-first : (xs ys : List MovesState) (x y : MovesState) → xs ++ x ∷ [] ≡ ys ++ y ∷ [] → xs ≡ ys
same-first [] [] x y same = refl
same-first [] (b ∷ bs) x y same = absurd (omega (arith, ap length (ap tail-of same), longer bs y))
same-first (a ∷ xs) [] x y same = absurd (omega (arith, ap length (ap tail-of same), longer xs x))
same-first (a ∷ xs) (b ∷ bs) x y same = ap (λ c. c ∷ xs) (ap (head-of a) same) ∙ ap (λ cs. b ∷ cs) (same-first xs bs x y (ap tail-of same))

same-last : (xs ys : List MovesState) (x y : MovesState) → xs ++ x ∷ [] ≡ ys ++ y ∷ [] → x ≡ y
same-last [] [] x y same = ap (head-of x) same
same-last [] (b ∷ bs) x y same = absurd (omega (arith, ap length (ap tail-of same), longer bs y))
same-last (a ∷ xs) [] x y same = absurd (omega (arith, ap length (ap tail-of same), longer xs x))
same-last (a ∷ xs) (b ∷ bs) x y same = same-last xs bs x y (ap tail-of same)

pub one-more : (g : Game) (most count : ℕ) (ms : List MovesState) (m : MovesState) → ms ≡ first_levels g most count → m ≡ unasked g (count + 1) most
    → ms ++ m ∷ [] ≡ first_levels g most (count + 1)
one-more g most count ms m same is =
    let next : count + 1 ≡ suc count = omega arith in
    ap (λ xs. xs ++ m ∷ []) same ∙ (ap (λ x. first_levels g most count ++ x ∷ []) (is ∙ ap (λ k. unasked g k most) next)
    ∙ sym (ap (first_levels g most) next))

-- ---- a level's layer

taken : (old new : List MovesState) (m : MovesState) (c : ChildState) → IsUnfinished old c → old ≡ new ++ m ∷ []
    → (new ≡ first_levels c.game c.budget (length new)) × (m ≡ unasked c.game (suc (length new)) c.budget)
taken old new m c u parts =
    let size : length old ≡ suc (length new) = ap length parts ∙ longer new m in
    let whole : new ++ m ∷ [] ≡ first_levels c.game c.budget (length new) ++ unasked c.game (suc (length new)) c.budget ∷ [] =
    sym parts ∙ (u.first ∙ ap (first_levels c.game c.budget) size) in (
      same-first new (first_levels c.game c.budget (length new)) m (unasked c.game (suc (length new)) c.budget) whole,
      same-last new (first_levels c.game c.budget (length new)) m (unasked c.game (suc (length new)) c.budget) whole,
    )

behind : (g : Game) (most k j : ℕ) (c : ChildState) → k ≡ suc j → IsFresh g (k + 1) most c → IsFresh g (suc j + 1) most c
behind g most k j c same f = subst (λ (i : ℕ). IsFresh g (i + 1) most c) same f

fits-below : (k j n : ℕ) → k ≡ suc j → k ≤ n → suc j ≤ n
fits-below k j n same low = omega (arith, same, low)

own-layered : (old new : List MovesState) (m : MovesState) (c : ChildState) → IsUnfinished old c → old ≡ new ++ m ∷ [] → IsLayered m c
own-layered old new m c u parts =
    let size : length old ≡ suc (length new) = ap length parts ∙ longer new m in
    let is = (taken old new m c u parts).1 in
    let first : 1 ≤ suc (length new) = omega arith in
    fresh-layered m c c.game (suc (length new)) c.budget u.valid first (fits-below (length old) (length new) (level_count c.game) size u.few)
    (ap (λ (s : MovesState). s.game) is) (ap (λ (s : MovesState). s.level) is) (ap (λ (s : MovesState). s.budget) is)
    (behind c.game c.budget (length old) (length new) c size u.fresh)

pub wrapped-invariant : (old new : List MovesState) (own : Option MovesState) (c : ChildState) → IsUnfinished old c → old ≡ new ++ option_to_list own → IsOver own c
wrapped-invariant old new None c u parts = _
wrapped-invariant old new (Some m) c u parts = own-layered old new m c u parts

less-one : (k j : ℕ) → k ≡ suc j → j ≡ k - 1
less-one k j same = omega (arith, same)

pub wrapped : (old new : List MovesState) (own : Option MovesState) (c : ChildState) → IsUnfinished old c → old ≡ new ++ option_to_list own → (own ≡ None → length old ≡ 0)
    → AreWrapped 1 old c new (over own c)
wrapped old new None c u parts empty =
    let same : old ≡ new = parts ∙ no-more new in
    record {
      game = refl;
      budget = refl;
      left = ap length (sym same) ∙ (empty refl ∙ sym (ap (λ k. k - 1) (empty refl)));
      rest = subst (λ (xs : List MovesState). IsUnfinished xs c) same u;
    }
wrapped old new (Some m) c u parts empty =
    let size : length old ≡ suc (length new) = ap length parts ∙ longer new m in
    let both = taken old new m c u parts in
    let is = both.1 in
    let of_game : m.game ≡ c.game = ap (λ (s : MovesState). s.game) is in
    let most : m.budget ≡ c.budget = ap (λ (s : MovesState). s.budget) is in
    record {
      game = of_game;
      budget = most;
      left = less-one (length old) (length new) size;
      rest = record {
        valid = subst (λ (g : Game). IsValid g) (sym of_game) u.valid;
        few = subst (λ (g : Game). length new ≤ level_count g) (sym of_game) (omega (arith, size, u.few));
        first = both.0 ∙ (ap (λ g. first_levels g c.budget (length new)) (sym of_game) ∙ ap (λ k. first_levels m.game k (length new)) (sym most));
        fresh = subst (λ (g : Game). IsFresh g (length new + 1) m.budget (layer_state m c)) (sym of_game)
            (subst (λ (k : ℕ). IsFresh c.game (length new + 1) k (layer_state m c)) (sym most) own-fresh);
      };
    }
  where
    own-fresh : IsFresh c.game (length new + 1) c.budget (layer_state m c)
    own-fresh =
        let size : length old ≡ suc (length new) = ap length parts ∙ longer new m in
        let is = (taken old new m c u parts).1 in
        let at : suc (length new) ≡ length new + 1 = omega arith in
        subst (λ (k : ℕ). IsFresh c.game k c.budget (layer_state m c)) at
        (fresh-layer m c c.game (suc (length new)) c.budget (ap (λ (s : MovesState). s.game) is) (ap (λ (s : MovesState). s.level) is) (ap (λ (s : MovesState). s.budget) is)
        (ap (λ (s : MovesState). s.kept) is) (ap (λ (s : MovesState). s.searches) is) (ap (λ (s : MovesState). s.checks) is)
        (behind c.game c.budget (length old) (length new) c size u.fresh))

pub wrapped-then : (i j : ℕ) (old mid new : List MovesState) (c d e : ChildState) → AreWrapped i old c mid d → AreWrapped j mid d new e → AreWrapped (i + j) old c new e
wrapped-then i j old mid new c d e one two = record {
  game = two.game ∙ one.game;
  budget = two.budget ∙ one.budget;
  left = omega (arith, one.left, two.left);
  rest = two.rest;
}

-- ---- all levels of a game

levels-length : (g : Game) (most count : ℕ) → length (first_levels g most count) ≡ count
levels-length g most zero = refl
levels-length g most (suc count) = longer (first_levels g most count) (unasked g (suc count) most) ∙ ap suc (levels-length g most count)

pub unfinished-all : (g : Game) (most : ℕ) (ms : List MovesState) (c : ChildState) → IsValid g → ms ≡ first_levels g most (level_count g) → IsFresh g (level_count g + 1) most c
    → IsUnfinished ms c
unfinished-all g most ms c valid all f =
    let size : length ms ≡ level_count g = ap length all ∙ levels-length g most (level_count g) in
    record {
      valid = subst (λ (h : Game). IsValid h) (sym f.game) valid;
      few = subst (λ (h : Game). length ms ≤ level_count h) (sym f.game) (omega (arith, size));
      first = all ∙ (ap (λ h. first_levels h most (level_count g)) (sym f.game)
          ∙ (ap (λ k. first_levels c.game k (level_count g)) (sym f.budget) ∙ ap (λ k. first_levels c.game c.budget k) (sym size)));
      fresh = subst (λ (h : Game). IsFresh h (length ms + 1) c.budget c) (sym f.game)
          (subst (λ (k : ℕ). IsFresh g (length ms + 1) k c) (sym f.budget) (subst (λ (k : ℕ). IsFresh g (k + 1) most c) (sym size) f));
    }

none-left : (before n left : ℕ) → before ≡ n → n ≤ 16 → left ≡ before - 8 - 8 → left + 1 ≡ 1
none-left before n left same few rest = omega (arith, same, few, rest)

pub all-wrapped : (g : Game) (most : ℕ) (old mid new : List MovesState) (c d e : ChildState) → IsValid g → old ≡ first_levels g most (level_count g) → c.game ≡ g → c.budget ≡ most
    → AreWrapped 8 old c mid d → AreWrapped 8 mid d new e → IsFresh g 1 most e
all-wrapped g most old mid new c d e valid all game budget one two =
    let size : length old ≡ level_count g = ap length all ∙ levels-length g most (level_count g) in
    let left : length new ≡ length old - 8 - 8 = two.left ∙ ap (λ k. k - 8) one.left in
    subst (λ (k : ℕ). IsFresh g k most e) (none-left (length old) (level_count g) (length new) size valid.few_levels left)
    (subst (λ (h : Game). IsFresh h (length new + 1) most e) (two.game ∙ (one.game ∙ game))
    (subst (λ (k : ℕ). IsFresh e.game (length new + 1) k e) (two.budget ∙ (one.budget ∙ budget)) two.rest.fresh))
