-- Bases of a valid game as bases of a level, and lists that ascend.
use Rattle.std.proofs.Common.{◌≡◌, ℕ, zero, suc, ◌+◌, ◌-◌, ◌<◌, ◌≤◌, true, nat_lt, List, [], ◌∷◌, length, get_or, set, refl, sym, ap, ◌∙◌, subst, inl, inr, arith}
use Rattle.std.specs.Prelude.{IsTrue}
use Rattle.std.specs.List.{list_all}
use Rattle.std.proofs.lemmas.List.{get_or-set_same, get_or-set_other, get_or_read}
use Rattle.std.proofs.lemmas.Bool.{ltb-true, lt-ltb, cases_eq}
use Rattle.asp_defs.specs.declared.ground.Game.{Game}
use Rattle.asp_defs.specs.Lists.{IsIn}
use Rattle.asp_defs.specs.Interpretations.{holds, subsets}
use Rattle.asp_defs.specs.Bounds.{bound_atoms}
use Rattle.asp_defs.specs.Games.{ascends, within, nested, is_subset, base, rules_of, bounds_of, rule_atoms, level_count, IsValid}
use Rattle.asp_defs.proofs.Lists.{both, all_at, all_from}
use Rattle.asp_defs.proofs.Subsets.{holds_at, holds_from, ascends-tail, ascends-member}
use Rattle.asp_defs.proofs.CellLaws.{subset_from}
use Rattle.asp_completion.proofs.Places.{in_at, rank-within, get_or-rank}
use Rattle.asp_completion.specs.Codes.{rank}
use Rattle.asp_completion.specs.Levels.{AreRanks}

-- the base of a level and the base below it
pub record AreBases (B L : List ℕ) : Type 0 where
  pub upper : ascends B ≡ true
  pub lower : ascends L ≡ true
  pub nested : (a : ℕ) → holds L a ≡ true → holds B a ≡ true

-- ---- places of an ascending list

pub ascends-places : (B : List ℕ) (k i : ℕ) → ascends B ≡ true → k < i → i < length B → get_or B k 0 < get_or B i 0
ascends-places [] k i up less h = absurd (omega arith)
ascends-places (b ∷ B) k zero up less h = absurd (omega arith)
ascends-places (b ∷ B) zero (suc i) up less h = ascends-member b B (get_or B i 0) up (in_at B i (omega arith))
ascends-places (b ∷ B) (suc k) (suc i) up less h = ascends-places B k i (ascends-tail b B up) (omega arith) (omega arith)

-- one more atom is written into a table of places
pub ranks-step : (B table : List ℕ) (i : ℕ) → ascends B ≡ true → i < length B → get_or B i 0 < length table
    → ((k : ℕ) → k < i → get_or table (get_or B k 0) 0 ≡ k)
    → (k : ℕ) → k < i + 1 → get_or (set table (get_or B i 0) i) (get_or B k 0) 0 ≡ k
ranks-step B table i up h fits before k less = elim (cases_eq k i) [
  | inl same ↦
      ap (λ n. get_or (set table (get_or B i 0) i) (get_or B n 0) 0) same
      ∙ (get_or-set_same table (get_or B i 0) i 0 fits ∙ sym same)
  | inr other ↦
      let earlier : k < i = omega arith in
      let below : get_or B k 0 < get_or B i 0 = ascends-places B k i up earlier h in
      get_or-set_other table (get_or B i 0) (get_or B k 0) i 0 (λ e. omega arith) ∙ before k earlier
]

-- a table with all places
pub ranks-all : (B table : List ℕ) (atoms : ℕ) → length table ≡ atoms
    → ((k : ℕ) → k < length B → get_or table (get_or B k 0) 0 ≡ k) → AreRanks B atoms table
ranks-all B table atoms size places = record {
  size = size;
  places = λ a h.
      let i : IsIn a B = holds_at B a h in
      ap (λ b. get_or table b 0) (sym (get_or-rank B a i)) ∙ places (rank B a) (rank-within B a i);
}

-- ---- bases of a valid game

ascends-at : (lists : List (List ℕ)) (i : ℕ) → list_all ascends lists ≡ true → ascends (get_or lists i []) ≡ true
ascends-at [] i h = refl
ascends-at (B ∷ lists) zero h = (both (ascends B) (list_all ascends lists) h).0
ascends-at (B ∷ lists) (suc i) h = ascends-at lists i ((both (ascends B) (list_all ascends lists) h).1)

nested-at : (lists : List (List ℕ)) (i : ℕ) → nested lists ≡ true → i + 1 < length lists
    → within (get_or lists i []) (get_or lists (i + 1) []) ≡ true
nested-at [] i h less = absurd (omega arith)
nested-at (B ∷ []) i h less = absurd (omega arith)
nested-at (B ∷ C ∷ lists) zero h less = (both (within B C) (nested (C ∷ lists)) h).0
nested-at (B ∷ C ∷ lists) (suc i) h less =
    let e : suc i + 1 ≡ suc (i + 1) = omega arith in
    subst (λ (k : ℕ). within (get_or (C ∷ lists) i []) (get_or (B ∷ C ∷ lists) k []) ≡ true) (sym e)
    (nested-at (C ∷ lists) i ((both (within B C) (nested (C ∷ lists)) h).1) (omega arith))

-- a valid game and one of its quantified levels
module _ (g : Game) (i : ℕ) (valid : IsValid g) (first : 1 ≤ i) (last : i ≤ level_count g) where
  pub base-ascends : (j : ℕ) → ascends (base g j) ≡ true
  base-ascends j = ascends-at g.bases.members j valid.ordered_bases

  lower_in_upper : (j k : ℕ) → j + 1 ≡ k → k < length g.bases.members → within (base g j) (base g k) ≡ true
  lower_in_upper j k e h =
      subst (λ (n : ℕ). within (base g j) (base g n) ≡ true) e (nested-at g.bases.members j valid.nested_bases (omega arith))

  pub bases-of : AreBases (base g i) (base g (i - 1))
  bases-of = record {
    upper = base-ascends i;
    lower = base-ascends (i - 1);
    nested = λ a h.
        all_at (holds (base g i)) (base g (i - 1)) a
        (lower_in_upper (i - 1) i (omega arith) (omega (arith, valid.base_lists)))
        (holds_at (base g (i - 1)) a h);
  }

  -- each atom of a base is one of the last base
  in_last : (more j a : ℕ) → j + more + 1 ≡ length g.bases.members → holds (base g j) a ≡ true
      → holds (base g (level_count g + 1)) a ≡ true
  in_last zero j a at h =
      subst (λ k. holds (base g k) a ≡ true) (let e : j ≡ level_count g + 1 = omega (arith, valid.base_lists) in e) h
  in_last (suc more) j a at h =
      in_last more (j + 1) a (omega arith)
      (all_at (holds (base g (j + 1))) (base g j) a (lower_in_upper j (j + 1) refl (omega arith)) (holds_at (base g j) a h))

  pub atom-below : (a : ℕ) → holds (base g i) a ≡ true → a < length g.bases.atoms
  atom-below a h =
      ltb-true a (length g.bases.atoms)
      (all_at (λ b. nat_lt b (length g.bases.atoms)) (base g (level_count g + 1)) a valid.last_within
      (holds_at (base g (level_count g + 1)) a
      (in_last (length g.bases.members - 1 - i) i a (omega (arith, valid.base_lists)) h)))

  pub rules-inside : list_all (λ r. within (rule_atoms r) (base g i)) (rules_of g i) ≡ true
  rules-inside = valid.rules_within i first (omega arith)

  pub bounds-inside : list_all (λ b. within (bound_atoms b) (base g i)) (bounds_of g i) ≡ true
  bounds-inside = valid.bounds_within i first (omega arith)

  pub outer-subset : (M : List ℕ) → is_subset M (base g (i - 1)) ≡ true → IsIn M (subsets (base g (i - 1)))
  outer-subset M h =
      let parts = both (ascends M) (within M (base g (i - 1))) h in
      subset_from (base g (i - 1)) M (base-ascends (i - 1)) parts.0
      (λ a m. holds_at (base g (i - 1)) a (all_at (holds (base g (i - 1))) M a parts.1 m))

-- ---- bases as they were read

-- a base of a game, and the bounds on it
pub read-list : (members lists : List (List ℕ)) (i : ℕ) (x xs : List ℕ) → lists ≡ members → i < length lists
    → x ≡ get_or lists i x → xs ≡ x → xs ≡ get_or members i []
read-list members lists i x xs same h is copied =
    copied ∙ (get_or_read lists i x h is [] ∙ ap (λ (ls : List (List ℕ)). get_or ls i []) same)

pub read-below : (g : Game) (i : ℕ) (xs : List ℕ) (n : ℕ) → IsValid g → 1 ≤ i → i ≤ level_count g → xs ≡ base g i
    → n ≡ length g.bases.atoms → IsTrue (list_all (λ a. nat_lt a n) xs)
read-below g i xs n valid first last same size =
    subst (λ (ys : List ℕ). IsTrue (list_all (λ a. nat_lt a n) ys)) (sym same)
    (all_from (λ a. nat_lt a n) (base g i) (λ a m.
    let h : a < length g.bases.atoms = atom-below g i valid first last a (holds_from (base g i) a m) in
    lt-ltb a n (omega arith)))
