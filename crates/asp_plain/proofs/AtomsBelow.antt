-- Atoms of valid games of few atoms, and of bounds.
use Rattle.std.proofs.Common.{◌≡◌, ◌+◌, ◌-◌, ◌≤◌, ◌<◌, ℕ, zero, suc, true, List, nat_lt, [], ◌∷◌, ◌++◌, length, get_or, refl, sym, subst, inl, inr, arith}
use Rattle.std.specs.Prelude.{IsTrue}
use Rattle.std.specs.List.{list_all, flat_map}
use Rattle.std.proofs.lemmas.Bool.{ltb-true, lt-ltb}
use Rattle.asp_defs.specs.declared.ground.Game.{Game}
use Rattle.asp_defs.specs.declared.ground.Counted.{Counted}
use Rattle.asp_defs.specs.declared.ground.Bound.{Bound}
use Rattle.asp_defs.specs.Lists.{IsIn}
use Rattle.asp_defs.specs.Interpretations.{holds}
use Rattle.asp_defs.specs.Bounds.{term_atoms, bound_atoms}
use Rattle.asp_defs.specs.Games.{base, rule_atoms, within, level_count, IsValid}
use Rattle.asp_defs.proofs.Lists.{all_at, all_from, append_right, flat_map_from}
use Rattle.asp_defs.proofs.Subsets.{holds_at, holds_from}
use Rattle.asp_reduct.specs.Bounds.{are_below, is_rule_below, is_term_below, is_bound_below}
use Rattle.asp_plain.proofs.Coherence.{HasBases-valid}

-- ---- bounds

read_in : {X : Type 0} (xs : List X) (k : ℕ) (x : X) → k < length xs → IsIn (get_or xs k x) xs
read_in [] k x h = absurd (omega arith)
read_in (y ∷ xs) zero x h = inl refl
read_in (y ∷ xs) (suc k) x h = inr (read_in xs k x (omega arith))

-- the atoms of a bound's counted term that was read are below a count, where the bound's are
pub term-below : (count : ℕ) (b : Bound) (items : List Counted) (k : ℕ) (c : Counted) → items ≡ b.counted → k < length items
    → c ≡ get_or items k c → is_bound_below count b ≡ true → is_term_below count c ≡ true
term-below count b items k c same within is below =
    let member : IsIn c b.counted =
    subst (IsIn c) same (subst (λ (d : Counted). IsIn d items) (sym is) (read_in items k c within)) in
    all_from (λ a. nat_lt a count) (term_atoms c) (λ a i.
    all_at (λ a. nat_lt a count) (bound_atoms b) a below
    (append_right b.pos (b.neg ++ flat_map term_atoms b.counted) a
    (append_right b.neg (flat_map term_atoms b.counted) a (flat_map_from term_atoms b.counted c a member i))))

-- ---- valid games

module _ (g : Game) (valid : IsValid g) (count : ℕ) (few : length g.bases.atoms ≤ count) where
  -- an atom of a base is one of the last base
  in_last : (more j a : ℕ) → j + more + 1 ≡ length g.bases.members → holds (base g j) a ≡ true
      → holds (base g (level_count g + 1)) a ≡ true
  in_last zero j a at h =
      subst (λ k. holds (base g k) a ≡ true) (let e : j ≡ level_count g + 1 = omega (arith, valid.base_lists) in e) h
  in_last (suc more) j a at h =
      in_last more (j + 1) a (omega arith) ((HasBases-valid g valid).nested j a (omega arith) h)

  pub atom-below : (j a : ℕ) → j < length g.bases.members → holds (base g j) a ≡ true → a < count
  atom-below j a l h =
      let last = in_last (length g.bases.members - 1 - j) j a (omega arith) h in
      let below : a < length g.bases.atoms =
      ltb-true a (length g.bases.atoms)
      (all_at (λ b. nat_lt b (length g.bases.atoms)) (base g (level_count g + 1)) a valid.last_within
      (holds_at (base g (level_count g + 1)) a last)) in
      omega arith

  -- the atoms of the bases and of the rules are below the count
  pub base-below : (j : ℕ) → j < length g.bases.members → IsTrue (are_below count (base g j))
  base-below j l =
      all_from (λ a. nat_lt a count) (base g j) (λ a i. lt-ltb a count (atom-below j a l (holds_from (base g j) a i)))

  atoms-below : (j : ℕ) (atoms : List ℕ) → j < length g.bases.members → within atoms (base g j) ≡ true
      → IsTrue (are_below count atoms)
  atoms-below j atoms l inside =
      all_from (λ a. nat_lt a count) atoms (λ a i.
      lt-ltb a count (atom-below j a l (all_at (holds (base g j)) atoms a inside i)))

  pub rules-below : (j : ℕ) → j < length g.rules → IsTrue (list_all (is_rule_below count) (get_or g.rules j []))
  rules-below j l =
      let e : j + 1 - 1 ≡ j = omega arith in
      let inside : list_all (λ r. within (rule_atoms r) (base g (j + 1))) (get_or g.rules j []) ≡ true =
      subst (λ k. list_all (λ r. within (rule_atoms r) (base g (j + 1))) (get_or g.rules k []) ≡ true) e
      (valid.rules_within (j + 1) (omega arith) (omega (arith, valid.rule_lists))) in
      all_from (is_rule_below count) (get_or g.rules j []) (λ r i.
      atoms-below (j + 1) (rule_atoms r) (omega (arith, valid.rule_lists, valid.base_lists))
      (all_at (λ q. within (rule_atoms q) (base g (j + 1))) (get_or g.rules j []) r inside i))

  pub bounds-below : (j : ℕ) → j < length g.bounds → IsTrue (list_all (is_bound_below count) (get_or g.bounds j []))
  bounds-below j l =
      let e : j + 1 - 1 ≡ j = omega arith in
      let inside : list_all (λ b. within (bound_atoms b) (base g (j + 1))) (get_or g.bounds j []) ≡ true =
      subst (λ k. list_all (λ b. within (bound_atoms b) (base g (j + 1))) (get_or g.bounds k []) ≡ true) e
      (valid.bounds_within (j + 1) (omega arith) (omega (arith, valid.bound_lists))) in
      all_from (is_bound_below count) (get_or g.bounds j []) (λ b i.
      atoms-below (j + 1) (bound_atoms b) (omega (arith, valid.bound_lists, valid.base_lists))
      (all_at (λ b. within (bound_atoms b) (base g (j + 1))) (get_or g.bounds j []) b inside i))
