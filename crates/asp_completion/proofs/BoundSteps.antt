-- The steps by which clauses of bounds are added: what each clause says, and what loops over bounds and their atoms keep.
use Rattle.std.proofs.Common.{◌≡◌, ℕ, ◌+◌, ◌-◌, ◌^◌, ◌<◌, min, Bool, true, false, not, ◌||◌, List, [], ◌∷◌, ◌++◌, map, length, get_or, take, drop, refl, sym, ap, ◌∙◌, subst, inl, inr, arith}
use Rattle.std.specs.Prelude.{◌==◌, ◌⊎◌}
use Rattle.std.specs.List.{list_any, flat_map}
use Rattle.std.proofs.lemmas.List.{take_more, take-append-drop}
use Rattle.asp_defs.specs.declared.ground.Bound.{Bound}
use Rattle.asp_defs.specs.declared.ground.Counted.{Counted}
use Rattle.asp_defs.specs.declared.ground.Lit.{Lit}
use Rattle.asp_defs.specs.Lists.{IsIn}
use Rattle.asp_defs.specs.Interpretations.{holds}
use Rattle.asp_defs.specs.Truth.{literals_true}
use Rattle.asp_defs.specs.Bounds.{meets, term_atoms, bound_atoms}
use Rattle.asp_defs.specs.Games.{rules_of, within}
use Rattle.asp_defs.specs.Entries.{stands_in_rules, stands_in_bounds, stands_at}
use Rattle.asp_defs.proofs.Lists.{or_left, or_right, either, true_or_false, not_true, not_false, all_at, any_from, append_at, append_left, append_right, map_at, map_from, flat_map_from}
use Rattle.asp_defs.proofs.Subsets.{true_is_not_false, holds_from}
use Rattle.asp_search.specs.State.{SearchState}
use Rattle.asp_completion.specs.declared.level.Level.{Level}
use Rattle.asp_completion.specs.Codes.{literal, codes, is_met}
use Rattle.asp_completion.specs.Levels.{game_at, upper, bounds_at, IsLevel}
use Rattle.asp_completion.specs.Meanings.{IsSoundClause, AddsTo}
use Rattle.asp_completion.specs.Completions.{HasRules, Completes}
use Rattle.asp_completion.specs.AtOnce.{atoms_of, wants_one, wants_no_two, body_denial, HasOne, AreNotBoth, NoneOfBoth, HasNoTwo, pairs, pairs_of}
use Rattle.asp_completion.proofs.Saying.{in_more, in_before, in_last}
use Rattle.asp_completion.proofs.Moves.{move_at}
use Rattle.asp_completion.proofs.LevelFacts.{bounds-in}
use Rattle.asp_completion.proofs.Headed.{completes-clause}
use Rattle.asp_completion.proofs.AtOnceLemmas.{has-one, no-two, denial-from, denial-at}

-- ---- literals of a bound's atoms

term-atom : (terms : List Counted) (a : ℕ) → IsIn a (atoms_of terms) → IsIn a (flat_map term_atoms terms)
term-atom terms a i =
    let t = map_at (λ (c : Counted). c.atom) terms a i in
    flat_map_from term_atoms terms t.0 a t.1 (inl t.2)

denial-atom : (b : Bound) (rest : List Lit) → ((x : Lit) → IsIn x rest → IsIn x.atom (atoms_of b.counted)) → (x : Lit)
    → IsIn x (body_denial b ++ rest) → IsIn x.atom (bound_atoms b)
denial-atom b rest counted x i =
    let others : List ℕ = flat_map term_atoms b.counted in
    elim (append_at (body_denial b) rest x i) [
      | inl denied ↦ elim (append_at (map (literal false) b.pos) (map (literal true) b.neg) x denied) [
        | inl h ↦
            let a = map_at (literal false) b.pos x h in
            append_left b.pos (b.neg ++ others) x.atom (subst (λ (y : Lit). IsIn y.atom b.pos) (sym a.2) a.1)
        | inr h ↦
            let a = map_at (literal true) b.neg x h in
            append_right b.pos (b.neg ++ others) x.atom
            (append_left b.neg others x.atom (subst (λ (y : Lit). IsIn y.atom b.neg) (sym a.2) a.1))
      ]
      | inr h ↦
          append_right b.pos (b.neg ++ others) x.atom (append_right b.neg others x.atom (term-atom b.counted x.atom (counted x h)))
    ]

-- a bound of the level, and literals of its atoms, one of which is true where it is met and its body is true
module _ (l : Level) (ready : IsLevel l) (b : Bound) (member : IsIn b (bounds_at l)) (rest : List Lit)
    (counted : (x : Lit) → IsIn x rest → IsIn x.atom (atoms_of b.counted)) where
  pub denial-inside : (x : Lit) → IsIn x (body_denial b ++ rest) → holds (upper l) x.atom ≡ true
  denial-inside x i =
      all_at (holds (upper l)) (bound_atoms b) x.atom
      (all_at (λ q. within (bound_atoms q) (upper l)) (bounds_at l) b (bounds-in l ready) member) (denial-atom b rest counted x i)

  denial-sound : ((N : List ℕ) → meets N b ≡ true → literals_true N b.pos b.neg ≡ true → is_met N rest ≡ true)
      → IsSoundClause (game_at l) l.number [] (body_denial b ++ rest)
  denial-sound says = record {
    met = λ M N outer move out.
        denial-from N b rest (says N (all_at (meets N) (bounds_at l) b ((move_at (game_at l) l.number M N outer move).met) member));
    atoms = denial-inside;
    named = λ x i low.
        or_left (stands_at (game_at l) l.number x.atom) (list_any (λ (cube : List Lit). list_any (λ (y : Lit). y.atom == x.atom) cube) [])
        (or_right (stands_in_rules x.atom (rules_of (game_at l) l.number)) (stands_in_bounds x.atom (bounds_at l))
        (any_from (λ q. holds (bound_atoms q) x.atom) (bounds_at l) b member
        (holds_from (bound_atoms b) x.atom (denial-atom b rest counted x i))));
  }

  pub denial-added : (P : List ℕ → Type 0) (old new : SearchState) (lits : List Lit)
      → ((N : List ℕ) → meets N b ≡ true → literals_true N b.pos b.neg ≡ true → is_met N rest ≡ true)
      → ((N : List ℕ) → (literals_true N b.pos b.neg ≡ true → is_met N rest ≡ true) → P N)
      → ((N : List ℕ) → P N → literals_true N b.pos b.neg ≡ true → is_met N rest ≡ true)
      → lits ≡ body_denial b ++ rest → HasRules l old → AddsTo old new (codes (upper l) lits) → Completes l P old new
  denial-added P old new lits says there back is has adds =
      completes-clause l P old new (body_denial b ++ rest) has (denial-sound says)
      (λ N met. there N (denial-at N b rest met)) (λ N p. denial-from N b rest (back N p))
      (subst (λ (xs : List Lit). AddsTo old new (codes (upper l) xs)) is adds)

-- ---- one of the atoms

abbrev pub one_of : Bound → List Lit
one_of b = map (λ c. literal true c.atom) b.counted

one-met : (N : List ℕ) (terms : List Counted) → is_met N (map (λ c. literal true c.atom) terms) ≡ list_any (holds N) (atoms_of terms)
one-met N [] = refl
one-met N (c ∷ cs) = ap (λ (r : Bool). holds N c.atom || r) (one-met N cs)

pub one-counted : (b : Bound) (x : Lit) → IsIn x (one_of b) → IsIn x.atom (atoms_of b.counted)
one-counted b x i =
    let t = map_at (λ (c : Counted). literal true c.atom) b.counted x i in
    subst (λ (y : Lit). IsIn y.atom (atoms_of b.counted)) (sym t.2) (map_from (λ (c : Counted). c.atom) b.counted t.0 t.1)

pub one-added : (l : Level) (ready : IsLevel l) (b : Bound) (member : IsIn b (bounds_at l)) (old new : SearchState) (lits : List Lit)
    → wants_one b ≡ true → lits ≡ body_denial b ++ one_of b → HasRules l old → AddsTo old new (codes (upper l) lits)
    → Completes l (HasOne b) old new
one-added l ready b member old new lits wanted is has adds =
    denial-added l ready b member (one_of b) (one-counted b) (HasOne b) old new lits
    (λ N met body. one-met N b.counted ∙ has-one N b wanted met body)
    (λ N one body. sym (one-met N b.counted) ∙ one body)
    (λ N one body. one-met N b.counted ∙ one body) is has adds

-- ---- two atoms

abbrev pub pair_of : ℕ → ℕ → List Lit
pair_of c d = literal false c ∷ literal false d ∷ []

pair-met : (N : List ℕ) (c d : ℕ) → (c ≡ d → ⊥) → (holds N c ≡ true → holds N d ≡ true → c ≡ d) → is_met N (pair_of c d) ≡ true
pair-met N c d differ same =
    let two : Bool = not (holds N d) || false in
    elim (true_or_false (holds N c)) [
      | inr out ↦ or_left (not (holds N c)) two (not_false (holds N c) out)
      | inl first ↦ elim (true_or_false (holds N d)) [
        | inr out ↦ or_right (not (holds N c)) two (or_left (not (holds N d)) false (not_false (holds N d) out))
        | inl second ↦ absurd (differ (same first second))
      ]
    ]

pair-at : (N : List ℕ) (c d : ℕ) → is_met N (pair_of c d) ≡ true → holds N c ≡ true → holds N d ≡ true → c ≡ d
pair-at N c d met first second =
    let two : Bool = not (holds N d) || false in
    elim (either (not (holds N c)) two met) [
      | inl out ↦ absurd (true_is_not_false (holds N c) first (not_true (holds N c) out))
      | inr more ↦ elim (either (not (holds N d)) false more) [
        | inl out ↦ absurd (true_is_not_false (holds N d) second (not_true (holds N d) out))
        | inr never ↦ absurd (let none : false ≡ true = never in cc)
      ]
    ]

pub pair-counted : (b : Bound) (c d : ℕ) → IsIn c (atoms_of b.counted) → IsIn d (atoms_of b.counted) → (x : Lit) → IsIn x (pair_of c d)
    → IsIn x.atom (atoms_of b.counted)
pair-counted b c d one two x (inl e) = subst (λ (y : Lit). IsIn y.atom (atoms_of b.counted)) (sym e) one
pair-counted b c d one two x (inr (inl e)) = subst (λ (y : Lit). IsIn y.atom (atoms_of b.counted)) (sym e) two
pair-counted b c d one two x (inr (inr none)) = absurd none

pub pair-added : (l : Level) (ready : IsLevel l) (b : Bound) (member : IsIn b (bounds_at l)) (c d : ℕ) (old new : SearchState)
    (lits : List Lit) → wants_no_two b ≡ true → IsIn c (atoms_of b.counted) → IsIn d (atoms_of b.counted) → (c ≡ d → ⊥)
    → lits ≡ body_denial b ++ pair_of c d → HasRules l old → AddsTo old new (codes (upper l) lits) → Completes l (AreNotBoth b c d) old new
pair-added l ready b member c d old new lits wanted one two differ is has adds =
    denial-added l ready b member (pair_of c d) (pair-counted b c d one two) (AreNotBoth b c d) old new lits
    (λ N met body. pair-met N c d differ (no-two N b c d wanted met one two body))
    (λ N says body first second. pair-at N c d (says body) first second)
    (λ N apart body. pair-met N c d differ (apart body)) is has adds

-- ---- loops

-- one item more has a property
module _ {A : Type 0} (P : A → Type 0) (xs : List A) (k : ℕ) (d : A) (h : k < length xs) (is : d ≡ get_or xs k d) where
  pub more-forth : ((x : A) → IsIn x (take k xs) → P x) → P d → (x : A) → IsIn x (take (k + 1) xs) → P x
  more-forth before here x i = elim (in_more xs k d x h i) [
    | inl low ↦ before x low
    | inr e ↦ subst P (is ∙ sym e) here
  ]

  pub more-back : ((x : A) → IsIn x (take (k + 1) xs) → P x) → ((x : A) → IsIn x (take k xs) → P x) × P d
  more-back all = (λ x i. all x (in_before xs k d x h i), subst P (sym is) (all (get_or xs k d) (in_last xs k d h)))

-- the atoms of the first terms are atoms of all
pub atoms-before : (terms : List Counted) (k a : ℕ) → IsIn a (atoms_of (take k terms)) → IsIn a (atoms_of terms)
atoms-before terms k a i =
    let found = map_at (λ (c : Counted). c.atom) (take k terms) a i in
    subst (λ (x : ℕ). IsIn x (atoms_of terms)) (sym found.2)
    (map_from (λ (c : Counted). c.atom) terms found.0
    (subst (λ (xs : List Counted). IsIn found.0 xs) (take-append-drop k terms) (append_left (take k terms) (drop k terms) found.0 found.1)))

-- the atoms of one term more
module _ (terms : List Counted) (k : ℕ) (t : Counted) (h : k < length terms) (is : t ≡ get_or terms k t) where
  atom-more : (a : ℕ) → IsIn a (atoms_of (take (k + 1) terms)) → IsIn a (atoms_of (take k terms)) ⊎ (a ≡ t.atom)
  atom-more a i =
      let found = map_at (λ (c : Counted). c.atom) (take (k + 1) terms) a i in
      elim (in_more terms k t found.0 h found.1) [
        | inl low ↦
            inl (subst (λ (x : ℕ). IsIn x (atoms_of (take k terms))) (sym found.2) (map_from (λ (c : Counted). c.atom) (take k terms) found.0 low))
        | inr e ↦ inr (found.2 ∙ ap (λ (c : Counted). c.atom) (e ∙ sym is))
      ]

  atom-before : (a : ℕ) → IsIn a (atoms_of (take k terms)) → IsIn a (atoms_of (take (k + 1) terms))
  atom-before a i =
      let found = map_at (λ (c : Counted). c.atom) (take k terms) a i in
      subst (λ (x : ℕ). IsIn x (atoms_of (take (k + 1) terms))) (sym found.2)
      (map_from (λ (c : Counted). c.atom) (take (k + 1) terms) found.0 (in_before terms k t found.0 h found.1))

  atom-last : IsIn t.atom (atoms_of (take (k + 1) terms))
  atom-last =
      map_from (λ (c : Counted). c.atom) (take (k + 1) terms) t
      (subst (λ (c : Counted). IsIn c (take (k + 1) terms)) (sym is) (in_last terms k t h))

  pub none-forth : (b : Bound) (c : ℕ) (N : List ℕ) → NoneOfBoth b c (atoms_of (take k terms)) N → AreNotBoth b c t.atom N
      → NoneOfBoth b c (atoms_of (take (k + 1) terms)) N
  none-forth b c N before here a i = elim (atom-more a i) [
    | inl low ↦ before a low
    | inr e ↦ subst (λ (x : ℕ). AreNotBoth b c x N) (sym e) here
  ]

  pub none-back : (b : Bound) (c : ℕ) (N : List ℕ) → NoneOfBoth b c (atoms_of (take (k + 1) terms)) N
      → NoneOfBoth b c (atoms_of (take k terms)) N × AreNotBoth b c t.atom N
  none-back b c N all = (λ a i. all a (atom-before a i), all t.atom atom-last)

  pub two-forth : (b : Bound) (N : List ℕ) → HasNoTwo b (atoms_of (take k terms)) N → NoneOfBoth b t.atom (atoms_of (take k terms)) N
      → HasNoTwo b (atoms_of (take (k + 1) terms)) N
  two-forth b N before here c d i j = elim (atom-more c i) [
    | inl low ↦ elim (atom-more d j) [
      | inl lower ↦ before c d low lower
      | inr e ↦ λ body one two. sym (e ∙ here c low body (subst (λ (x : ℕ). holds N x ≡ true) e two) one)
    ]
    | inr e ↦ elim (atom-more d j) [
      | inl lower ↦ λ body one two. e ∙ here d lower body (subst (λ (x : ℕ). holds N x ≡ true) e one) two
      | inr f ↦ λ body one two. e ∙ sym f
    ]
  ]

  pub two-back : (b : Bound) (N : List ℕ) → HasNoTwo b (atoms_of (take (k + 1) terms)) N
      → HasNoTwo b (atoms_of (take k terms)) N × NoneOfBoth b t.atom (atoms_of (take k terms)) N
  two-back b N all = (λ c d i j. all c d (atom-before c i) (atom-before d j), λ d j. all t.atom d atom-last (atom-before d j))

-- ---- how many pairs

pairs-append : (bs : List Bound) (b : Bound) → pairs (bs ++ b ∷ []) ≡ pairs bs + pairs_of b
pairs-append [] b = none (pairs_of b)
  where
    none : (n : ℕ) → n + 0 ≡ 0 + n
    none n = omega arith
pairs-append (x ∷ xs) b = moved (pairs_of x) (pairs (xs ++ b ∷ [])) (pairs xs) (pairs_of b) (pairs-append xs b)
  where
    moved : (m n p q : ℕ) → n ≡ p + q → m + n ≡ m + p + q
    moved m n p q e = omega (arith, e)

pub pairs-more : (bounds : List Bound) (k : ℕ) (b : Bound) → k < length bounds → b ≡ get_or bounds k b
    → pairs (take (k + 1) bounds) ≡ pairs (take k bounds) + pairs_of b
pairs-more bounds k b h is =
    ap pairs (take_more bounds k b h ∙ ap (λ (x : Bound). take k bounds ++ x ∷ []) (sym is)) ∙ pairs-append (take k bounds) b

-- numbers that are cut off behind the most
pub few-more : (p q s count counted sum now : ℕ) → count ≡ min 20001 p → counted ≡ min 20001 q → s ≡ p + q
    → sum ≡ min (counted + count) (2 ^ 64 - 1) → now ≡ min sum 20001 → now ≡ min 20001 s
few-more p q s count counted sum now e f g h i = omega (arith, e, f, g, h, i)
