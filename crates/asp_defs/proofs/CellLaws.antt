-- The cells of a legal history are bounded: its entries of one level have distinct seeds, so there are at most as many as
-- the base below the level has subsets, and each costs at most one cell and two for each atom of that base.
use Rattle.std.proofs.Common.{ℕ, zero, suc, ◌+◌, ◌-◌, ◌*◌, ◌^◌, ◌<◌, ◌≤◌, ◌≡◌, ◌≢◌, refl, sym, ◌∙◌, ap, subst, inl, inr, Bool, true, false, ◌&&◌, cond, List, [], ◌∷◌, ◌++◌, map, length, get_or, arith, nat_le, length-append}
use Rattle.std.specs.Prelude.{◌==◌}
use Rattle.std.specs.List.{list_all, filter, sum_by}
use Rattle.std.proofs.lemmas.Bool.{eqb-true, eqb-false, eq-eqb, leb-true}
use Rattle.std.proofs.lemmas.List.{length-map}
use Rattle.std.proofs.lemmas.List.Sums.{sum_by-cons}
use Rattle.std.proofs.Math.Nat.{mul-le-mul_right, two-pow-succ}
use Rattle.asp_defs.specs.declared.ground.Game.{Game}
use Rattle.asp_defs.specs.Lists.{IsIn}
use Rattle.asp_defs.specs.Interpretations.{holds, subsets}
use Rattle.asp_defs.specs.Lists.{numbers_from}
use Rattle.asp_defs.specs.Games.{level_count, base, base_size, ascends, within, is_subset, IsValid}
use Rattle.asp_defs.specs.Entries.{Entry, cube_holds, stands_from, is_entry, cost}
use Rattle.asp_defs.specs.History.{is_held, may_follow, is_legal, cells}
use Rattle.asp_defs.specs.Unknowns.{level_cells}
use Rattle.asp_defs.specs.Laws.{CellsAreBounded}
use Rattle.asp_defs.proofs.Lists.{both, and_true, not_true, all_at, any_from, filter_at, append_at, append_left, append_right, map_at, map_from}
use Rattle.asp_defs.proofs.Subsets.{true_is_not_false, holds_at, subset_at, ascends-tail, ascends-member}
use Rattle.asp_defs.proofs.HistoryLaws.{follows_at}

-- ---- lists without repeats

abbrev Distinct : {A : Type 0} → List A → Type 0
Distinct [] = Unit {0}
Distinct (x ∷ xs) = (IsIn x xs → ⊥) × Distinct xs

pub record Split {A : Type 0} (x : A) (ys : List A) : Type 0 where
  pub front : List A
  pub back : List A
  pub whole : ys ≡ front ++ (x ∷ back)

pub split : {A : Type 0} (x : A) (ys : List A) → IsIn x ys → Split x ys
split x [] i = absurd i
split {A} x (y ∷ ys) (inl e) = record { front = []; back = ys; whole = ap (λ (z : A). z ∷ ys) (sym e) }
split {A} x (y ∷ ys) (inr i) =
    let s = split x ys i in record { front = y ∷ s.front; back = s.back; whole = ap (λ (zs : List A). y ∷ zs) s.whole }

-- a list without repeats is no longer than one that has all its members
pub pigeonhole : {A : Type 0} (xs ys : List A) → Distinct xs → ((x : A) → IsIn x xs → IsIn x ys) → length xs ≤ length ys
pigeonhole [] ys d h = omega arith
pigeonhole {A} (x ∷ xs) ys d h =
    let s = split x ys (h x (inl refl)) in
    let shorter : length xs ≤ length (s.front ++ s.back) = pigeonhole xs (s.front ++ s.back) d.1 (λ z i.
    elim (append_at s.front (x ∷ s.back) z (subst (λ (zs : List A). IsIn z zs) s.whole (h z (inr i)))) [
      | inl before ↦ append_left s.front s.back z before
      | inr after ↦ elim after [
        | inl same ↦ absurd (d.0 (subst (λ (w : A). IsIn w xs) same i))
        | inr behind ↦ append_right s.front s.back z behind
      ]
    ]) in
    let parts : length (s.front ++ s.back) ≡ length s.front + length s.back = length-append s.front s.back in
    let all : length (s.front ++ (x ∷ s.back)) ≡ length s.front + length (x ∷ s.back) = length-append s.front (x ∷ s.back) in
    let same : length ys ≡ length (s.front ++ (x ∷ s.back)) = ap length s.whole in
    omega arith

-- ---- subsets

pub empty-subset : (B : List ℕ) → IsIn [] (subsets B)
empty-subset [] = inl refl
empty-subset (b ∷ B) = append_left (subsets B) (map (λ J. b ∷ J) (subsets B)) [] (empty-subset B)

-- an ascending list within an ascending base is one of its subsets
pub subset_from : (B I : List ℕ) → ascends B ≡ true → ascends I ≡ true → ((a : ℕ) → IsIn a I → IsIn a B) → IsIn I (subsets B)
subset_from B [] up upI h = empty-subset B
subset_from [] (a ∷ I) up upI h = absurd (h a (inl refl))
subset_from (b ∷ B) (a ∷ I) up upI h = elim (h a (inl refl)) [
  | inl e ↦
      append_right (subsets B) (map (λ J. b ∷ J) (subsets B)) (a ∷ I)
      (subst (λ (c : ℕ). IsIn (c ∷ I) (map (λ J. b ∷ J) (subsets B))) (sym e)
      (map_from (λ J. b ∷ J) (subsets B) I
      (subset_from B I (ascends-tail b B up) (ascends-tail a I upI) (λ c i.
      elim (h c (inr i)) [
        | inl same ↦ let above : a < c = ascends-member a I c upI i in absurd (omega arith)
        | inr member ↦ member
      ]))))
  | inr later ↦
      append_left (subsets B) (map (λ J. b ∷ J) (subsets B)) (a ∷ I)
      (subset_from B (a ∷ I) (ascends-tail b B up) upI (λ c i.
      let below : b < a = ascends-member b B a up later in
      elim i [
        | inl e ↦ subst (λ (d : ℕ). IsIn d B) (sym e) later
        | inr more ↦ elim (h c (inr more)) [
          | inl same ↦ let above : a < c = ascends-member a I c upI more in absurd (omega arith)
          | inr member ↦ member
        ]
      ]))
]

-- a subset is no longer than its base, and a base has two to the power of its size subsets
pub length-subset : (B J : List ℕ) → IsIn J (subsets B) → length J ≤ length B
length-subset [] J (inl e) = let none : length J ≡ length {A = ℕ} [] = ap length e in omega arith
length-subset [] J (inr i) = absurd i
length-subset (b ∷ B) J i = elim (subset_at b B J i) [
  | inl inside ↦ let below : length J ≤ length B = length-subset B J inside in omega arith
  | inr begins ↦
      let below : length begins.0 ≤ length B = length-subset B begins.0 begins.1 in
      let one : length J ≡ length (b ∷ begins.0) = ap length begins.2 in
      omega arith
]

pub length-subsets : (B : List ℕ) → length (subsets B) ≡ 2 ^ length B
length-subsets [] = refl
length-subsets (b ∷ B) =
    let parts : length (subsets (b ∷ B)) ≡ length (subsets B) + length (map (λ J. b ∷ J) (subsets B)) = length-append (subsets B) (map (λ J. b ∷ J) (subsets B)) in
    let mapped : length (map (λ J. b ∷ J) (subsets B)) ≡ length (subsets B) = length-map (subsets B) (λ J. b ∷ J) in
    let rest : length (subsets B) ≡ 2 ^ length B = length-subsets B in
    let double : 2 ^ suc (length B) ≡ 2 ^ length B + 2 ^ length B = two-pow-succ (length B) in
    omega arith

-- ---- formed entries of a valid game

pub valid-base : (lists : List (List ℕ)) (i : ℕ) → list_all ascends lists ≡ true → ascends (get_or lists i []) ≡ true
valid-base [] i h = refl
valid-base (B ∷ lists) zero h = (both (ascends B) (list_all ascends lists) h).0
valid-base (B ∷ lists) (suc i) h = valid-base lists i ((both (ascends B) (list_all ascends lists) h).1)

-- the parts of a formed entry that count
pub record Formed (g : Game) (e : Entry) : Type 0 where
  pub first : 1 ≤ e.level
  pub last : e.level ≤ level_count g + 1
  pub cube : IsIn (map (λ l. l.atom) e.cube) (subsets (base g (e.level - 1)))
  pub seed : IsIn e.seed (subsets (base g (e.level - 1)))
  pub holds_seed : cube_holds e.cube e.seed ≡ true

subset_of_base : (B I : List ℕ) → ascends B ≡ true → is_subset I B ≡ true → IsIn I (subsets B)
subset_of_base B I up h =
    let parts = both (ascends I) (within I B) h in
    subset_from B I up parts.0 (λ a i. holds_at B a (all_at (holds B) I a parts.1 i))

formed : (g : Game) (e : Entry) → IsValid g → is_entry g e ≡ true → Formed g e
formed g e valid h =
    let B = base g (e.level - 1) in
    let up : ascends B ≡ true = valid-base g.bases.members (e.level - 1) valid.ordered_bases in
    let one = both (nat_le 1 e.level && nat_le e.level (level_count g + 1)) ((is_subset (map (λ l. l.atom) e.cube) B && list_all (λ l. stands_from g e.level l.atom) e.cube) && (is_subset e.seed B && cube_holds e.cube e.seed)) h in
    let levels = both (nat_le 1 e.level) (nat_le e.level (level_count g + 1)) one.0 in
    let two = both (is_subset (map (λ l. l.atom) e.cube) B && list_all (λ l. stands_from g e.level l.atom) e.cube) (is_subset e.seed B && cube_holds e.cube e.seed) one.1 in
    let cubes = both (is_subset (map (λ l. l.atom) e.cube) B) (list_all (λ l. stands_from g e.level l.atom) e.cube) two.0 in
    let seeds = both (is_subset e.seed B) (cube_holds e.cube e.seed) two.1 in
    record {
      first = leb-true 1 e.level levels.0;
      last = leb-true e.level (level_count g + 1) levels.1;
      cube = subset_of_base B (map (λ l. l.atom) e.cube) up cubes.0;
      seed = subset_of_base B e.seed up seeds.0;
      holds_seed = seeds.1;
    }

-- the most cells of one entry of a level
abbrev fullest : Game → ℕ → ℕ
fullest g level = 1 + 2 * base_size g (level - 1)

cost-formed : (g : Game) (e : Entry) → Formed g e → cost e ≤ fullest g e.level
cost-formed g e f =
    let cube : length (map (λ l. l.atom) e.cube) ≤ base_size g (e.level - 1) = length-subset (base g (e.level - 1)) (map (λ l. l.atom) e.cube) f.cube in
    let same : length (map (λ l. l.atom) e.cube) ≡ length e.cube = length-map e.cube (λ l. l.atom) in
    let seed : length e.seed ≤ base_size g (e.level - 1) = length-subset (base g (e.level - 1)) e.seed f.seed in
    omega arith

-- ---- seeds of one level

abbrev of_level : ℕ → List Entry → List Entry
of_level level H = filter (λ e. e.level == level) H

abbrev seeds : ℕ → List Entry → List (List ℕ)
seeds level H = map (λ e. e.seed) (of_level level H)

pub follow-formed : (g : Game) (before more : List Entry) → IsValid g → may_follow g before more ≡ true → (e : Entry) → IsIn e more → Formed g e
follow-formed g before [] valid h e i = absurd i
follow-formed g before (d ∷ more) valid h e (inl same) =
    subst (λ (x : Entry). Formed g x) (sym same) (formed g d valid ((follows_at g before d more h).formed))
follow-formed g before (d ∷ more) valid h e (inr i) =
    follow-formed g (before ++ (d ∷ [])) more valid ((follows_at g before d more h).rest) e i

-- an entry that follows has no seed that an earlier one of its level holds
follow-fresh : (g : Game) (before more : List Entry) (e d : Entry) → may_follow g before more ≡ true → IsIn e before → IsIn d more → cube_holds e.cube e.seed ≡ true → e.level ≡ d.level → e.seed ≡ d.seed → ⊥
follow-fresh g before [] e d h earlier i holds level seed = absurd i
follow-fresh g before (x ∷ more) e d h earlier (inl same) holds level seed =
    let f = follows_at g before x more h in
    let at_level : e.level ≡ x.level = level ∙ ap (λ y. y.level) same in
    let at_seed : e.seed ≡ x.seed = seed ∙ ap (λ y. y.seed) same in
    let held : is_held before x.level x.seed ≡ true =
    any_from (λ y. (y.level == x.level) && cube_holds y.cube x.seed) before e earlier
    (and_true (e.level == x.level) (cube_holds e.cube x.seed) (eq-eqb e.level x.level at_level) (subst (λ (M : List ℕ). cube_holds e.cube M ≡ true) at_seed holds))
    in true_is_not_false _ held (not_true _ f.fresh)
follow-fresh g before (x ∷ more) e d h earlier (inr i) holds level seed =
    follow-fresh g (before ++ (x ∷ [])) more e d ((follows_at g before x more h).rest) (append_left before (x ∷ []) e earlier) i holds level seed

seed_at : (level : ℕ) (H : List Entry) (M : List ℕ) → IsIn M (seeds level H) → (e : Entry) × IsIn e H × (e.level ≡ level) × (M ≡ e.seed)
seed_at level H M i =
    let found = map_at (λ e. e.seed) (of_level level H) M i in
    let member = filter_at (λ e. e.level == level) H found.0 found.1 in
    (found.0, member.0, eqb-true found.0.level level member.1, found.2)

seeds-distinct_step : (g : Game) (level : ℕ) (before : List Entry) (e : Entry) (more : List Entry) → IsValid g → may_follow g before (e ∷ more) ≡ true → Distinct (seeds level more) → (here : Bool) → (e.level == level) ≡ here → Distinct (map (λ x. x.seed) (cond here (e ∷ of_level level more) (of_level level more)))
seeds-distinct_step g level before e more valid h later false other = later
seeds-distinct_step g level before e more valid h later true same = (
  λ again.
      let found = seed_at level more e.seed again in
      let f = formed g e valid ((follows_at g before e more h).formed) in
      follow-fresh g (before ++ (e ∷ [])) more e found.0 ((follows_at g before e more h).rest) (append_right before (e ∷ []) e (inl refl)) found.1 f.holds_seed
      (eqb-true e.level level same ∙ sym found.2) found.3,
  later,
)

seeds-distinct : (g : Game) (level : ℕ) (before more : List Entry) → IsValid g → may_follow g before more ≡ true → Distinct (seeds level more)
seeds-distinct g level before [] valid h = tt
seeds-distinct g level before (e ∷ more) valid h =
    seeds-distinct_step g level before e more valid h (seeds-distinct g level (before ++ (e ∷ [])) more valid ((follows_at g before e more h).rest)) (e.level == level) refl

-- how many entries of a level a history has
abbrev count_of : List Entry → ℕ → ℕ
count_of H level = length (of_level level H)

count-legal : (g : Game) (H : List Entry) (level : ℕ) → IsValid g → is_legal g H ≡ true → count_of H level ≤ 2 ^ base_size g (level - 1)
count-legal g H level valid h =
    let below : length (seeds level H) ≤ length (subsets (base g (level - 1))) =
    pigeonhole (seeds level H) (subsets (base g (level - 1))) (seeds-distinct g level [] H valid h) (λ M i.
    let found = seed_at level H M i in
    let f = follow-formed g [] H valid h found.0 found.1 in
    subst (λ (N : List ℕ). IsIn N (subsets (base g (level - 1)))) (sym found.3)
    (subst (λ (l : ℕ). IsIn found.0.seed (subsets (base g (l - 1)))) found.2 f.seed)) in
    let as_many : length (seeds level H) ≡ count_of H level = length-map (of_level level H) (λ e. e.seed) in
    let power : length (subsets (base g (level - 1))) ≡ 2 ^ base_size g (level - 1) = length-subsets (base g (level - 1)) in
    omega arith

-- ---- sums over the levels

sum_by-mono : (f f' : ℕ → ℕ) (ls : List ℕ) → ((l : ℕ) → f l ≤ f' l) → sum_by f ls ≤ sum_by f' ls
sum_by-mono f f' [] h = omega arith
sum_by-mono f f' (l ∷ ls) h =
    let here : f l ≤ f' l = h l in
    let more : sum_by f ls ≤ sum_by f' ls = sum_by-mono f f' ls h in
    omega (arith, sum_by-cons f l ls, sum_by-cons f' l ls)

sum_by-one_more : (c c' w : ℕ → ℕ) (k : ℕ) (ls : List ℕ) → ((l : ℕ) → c l ≤ c' l) → c' k ≡ c k + 1 → IsIn k ls → w k + sum_by (λ l. c l * w l) ls ≤ sum_by (λ l. c' l * w l) ls
sum_by-one_more c c' w k [] h e i = absurd i
sum_by-one_more c c' w k (l ∷ ls) h e (inl same) =
    let more : sum_by (λ l. c l * w l) ls ≤ sum_by (λ l. c' l * w l) ls = sum_by-mono (λ l. c l * w l) (λ l. c' l * w l) ls (λ m. mul-le-mul_right (w m) (h m)) in
    let here : c' k * w k ≡ (c k + 1) * w k = ap (λ (n : ℕ). n * w k) e in
    let old : c l * w l ≡ c k * w k = ap (λ (n : ℕ). c n * w n) (sym same) in
    let new : c' l * w l ≡ c' k * w k = ap (λ (n : ℕ). c' n * w n) (sym same) in
    omega (arith, sum_by-cons (λ l. c l * w l) l ls, sum_by-cons (λ l. c' l * w l) l ls)
sum_by-one_more c c' w k (l ∷ ls) h e (inr i) =
    let more : w k + sum_by (λ l. c l * w l) ls ≤ sum_by (λ l. c' l * w l) ls = sum_by-one_more c c' w k ls h e i in
    let here : c l * w l ≤ c' l * w l = mul-le-mul_right (w l) (h l) in
    omega (arith, sum_by-cons (λ l. c l * w l) l ls, sum_by-cons (λ l. c' l * w l) l ls)

count-more : (e : Entry) (H : List Entry) (level : ℕ) → count_of H level ≤ count_of (e ∷ H) level
count-more e H level = go (e.level == level)
  where
    go : (here : Bool) → count_of H level ≤ length (cond here (e ∷ of_level level H) (of_level level H))
    go true = omega arith
    go false = omega arith

count-here : (e : Entry) (H : List Entry) → count_of (e ∷ H) e.level ≡ count_of H e.level + 1
count-here e H = go (e.level == e.level) (eq-eqb e.level e.level refl)
  where
    go : (here : Bool) → here ≡ true → length (cond here (e ∷ of_level e.level H) (of_level e.level H)) ≡ count_of H e.level + 1
    go true same = omega arith
    go false other = absurd (cc)

cells-by_level : (w : ℕ → ℕ) (ls : List ℕ) (H : List Entry) → ((e : Entry) → IsIn e H → (cost e ≤ w e.level) × IsIn e.level ls) → cells H ≤ sum_by (λ l. count_of H l * w l) ls
cells-by_level w ls [] h = omega arith
cells-by_level w ls (e ∷ H) h =
    let here = h e (inl refl) in
    let price : cost e ≤ w e.level = here.0 in
    let more : cells H ≤ sum_by (λ l. count_of H l * w l) ls = cells-by_level w ls H (λ x i. h x (inr i)) in
    let step : w e.level + sum_by (λ l. count_of H l * w l) ls ≤ sum_by (λ l. count_of (e ∷ H) l * w l) ls = sum_by-one_more (count_of H) (count_of (e ∷ H)) w e.level ls (count-more e H) (count-here e H) here.1 in
    omega (arith, sum_by-cons cost e H)

number-member_step : (first count k : ℕ) → (suc first ≤ k → IsIn k (numbers_from (suc first) count)) → first ≤ k → (here : Bool) → (k == first) ≡ here → IsIn k (numbers_from first (suc count))
number-member_step first count k behind low true same = inl (eqb-true k first same)
number-member_step first count k behind low false other =
    let apart : k ≢ first = eqb-false k first other in inr (behind (omega arith))

number-member : (first count k : ℕ) → first ≤ k → k < first + count → IsIn k (numbers_from first count)
number-member first zero k low high = absurd (omega arith)
number-member first (suc count) k low high =
    number-member_step first count k (λ behind. number-member (suc first) count k behind (omega arith)) low (k == first) refl

pub cells_are_bounded : CellsAreBounded
cells_are_bounded g H valid h =
    let levels = numbers_from 1 (level_count g + 1) in
    let by_level : cells H ≤ sum_by (λ l. count_of H l * fullest g l) levels =
    cells-by_level (fullest g) levels H (λ e i.
    let f = follow-formed g [] H valid h e i in
    let first : 1 ≤ e.level = f.first in
    let last : e.level ≤ level_count g + 1 = f.last in
    (cost-formed g e f, number-member 1 (level_count g + 1) e.level first (omega arith))) in
    let bound : sum_by (λ l. count_of H l * fullest g l) levels ≤ sum_by (level_cells g) levels =
    sum_by-mono (λ l. count_of H l * fullest g l) (level_cells g) levels (λ l. mul-le-mul_right (fullest g l) (count-legal g H l valid h)) in
    omega arith
