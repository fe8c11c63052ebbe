-- What a candidate gives: a move, or literals that every move meets and the candidate doesn't.
use Rattle.std.proofs.Common.{◌≡◌, ℕ, ◌-◌, ◌<◌, true, false, not, ◌||◌, List, [], ◌∷◌, length, get_or, inl, inr, arith}
use Rattle.std.specs.Prelude.{◌==◌}
use Rattle.std.specs.List.{list_all, list_any}
use Rattle.asp_defs.specs.declared.ground.Game.{Game}
use Rattle.asp_defs.specs.declared.ground.GroundRule.{GroundRule}
use Rattle.asp_defs.specs.declared.ground.Lit.{Lit}
use Rattle.asp_defs.specs.Lists.{IsIn, is_empty}
use Rattle.asp_defs.specs.Interpretations.{holds, subsets}
use Rattle.asp_defs.specs.Entries.{stands_at, stands_in_rules, stands_in_bounds}
use Rattle.asp_defs.specs.Games.{base, rules_of, bounds_of, rule_atoms, within, ascends}
use Rattle.asp_defs.proofs.Lists.{either, or_left, or_right, not_true, all_at, any_at}
use Rattle.asp_defs.proofs.Subsets.{true_is_not_false, holds_at, holds_from, subset-holds}
use Rattle.asp_reduct.proofs.Truths.{get_or-member}
use Rattle.asp_defs.specs.Bounds.{bound_atoms}
use Rattle.asp_minimal.specs.Choices.{Refutes}
use Rattle.asp_minimal.specs.Nogoods.{IsNogood, stands_in}
use Rattle.asp_completion.specs.Meanings.{IsSoundClause}
use Rattle.asp_bounds.specs.Denials.{IsBoundsClause}
use Rattle.asp_bounds.proofs.Denying.{bounds-clause-true, bounds-clause-atoms}
use Rattle.asp_completion.proofs.Moves.{move_at, subset-ascends}

-- the first of some atoms
pub some-first : (atoms : List ℕ) → is_empty atoms ≡ false → 0 < length atoms
some-first [] h = absurd (cc)
some-first (a ∷ atoms) h = omega arith

pub first-holds : (atoms : List ℕ) (d : ℕ) → is_empty atoms ≡ false → holds atoms (get_or atoms 0 d) ≡ true
first-holds atoms d h = holds_from atoms (get_or atoms 0 d) (get_or-member atoms 0 d (some-first atoms h))

-- a nogood of a candidate is sound
pub nogood-sound : (g : Game) (i : ℕ) (blocked : List (List Lit)) (N U : List ℕ) (clause : List Lit)
    → list_all (λ r. within (rule_atoms r) (base g i)) (rules_of g i) ≡ true → IsIn N (subsets (base g i))
    → Refutes (rules_of g i) (base g (i - 1)) N U → IsNogood (rules_of g i) N U clause → IsSoundClause g i blocked clause
nogood-sound g i blocked N U clause rules inside refutes nogood =
    let G : List GroundRule = rules_of g i in
    let L : List ℕ = base g (i - 1) in
    record {
      met = λ M K outer move out. nogood.true_there L K refutes.bound ((move_at g i M K outer move).chosen);
      atoms = λ l member.
          elim (either (holds U l.atom) (stands_in G l.atom) (all_at (λ m. holds U m.atom || stands_in G m.atom) clause l nogood.atoms member)) [
            | inl unfounded ↦
                subset-holds (base g i) N l.atom inside (all_at (holds N) U l.atom refutes.inside (holds_at U l.atom unfounded))
            | inr stands ↦
                let found = any_at (λ r. holds (rule_atoms r) l.atom) G stands in
                all_at (holds (base g i)) (rule_atoms found.0) l.atom
                (all_at (λ r. within (rule_atoms r) (base g i)) G found.0 rules found.1) (holds_at (rule_atoms found.0) l.atom found.2)
          ];
      named = λ l member low.
          elim (either (holds U l.atom) (stands_in G l.atom) (all_at (λ m. holds U m.atom || stands_in G m.atom) clause l nogood.atoms member)) [
            | inl unfounded ↦
                absurd (true_is_not_false (holds L l.atom) low
                (not_true (holds L l.atom) (all_at (λ a. not (holds L a)) U l.atom refutes.bound (holds_at U l.atom unfounded))))
            | inr stands ↦
                or_left (stands_at g i l.atom) (list_any (λ cube. list_any (λ m. m.atom == l.atom) cube) blocked)
                (or_left (stands_in G l.atom) (stands_in_bounds l.atom (bounds_of g i)) stands)
          ];
    }

-- the clause of a bound that a candidate doesn't meet is sound
pub bound-sound : (g : Game) (i : ℕ) (blocked : List (List Lit)) (N : List ℕ) (clause : List Lit) → ascends (base g i) ≡ true
    → list_all (λ b. within (bound_atoms b) (base g i)) (bounds_of g i) ≡ true → IsBoundsClause (bounds_of g i) N clause
    → IsSoundClause g i blocked clause
bound-sound g i blocked N clause up inside c = record {
  met = λ M K outer move out.
      let is = move_at g i M K outer move in
      bounds-clause-true (bounds_of g i) N clause c K (subset-ascends (base g i) K up is.inside) is.met;
  atoms = λ l member.
      let found = any_at (λ b. holds (bound_atoms b) l.atom) (bounds_of g i)
      (all_at (λ m. stands_in_bounds m.atom (bounds_of g i)) clause l (bounds-clause-atoms (bounds_of g i) N clause c) member) in
      all_at (holds (base g i)) (bound_atoms found.0) l.atom
      (all_at (λ b. within (bound_atoms b) (base g i)) (bounds_of g i) found.0 inside found.1)
      (holds_at (bound_atoms found.0) l.atom found.2);
  named = λ l member low.
      or_left (stands_at g i l.atom) (list_any (λ cube. list_any (λ m. m.atom == l.atom) cube) blocked)
      (or_right (stands_in_rules l.atom (rules_of g i)) (stands_in_bounds l.atom (bounds_of g i))
      (all_at (λ m. stands_in_bounds m.atom (bounds_of g i)) clause l (bounds-clause-atoms (bounds_of g i) N clause c) member));
}
