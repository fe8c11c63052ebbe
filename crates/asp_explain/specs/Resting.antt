-- On which outer atoms a move rests. An interpretation N is the ascending list of its true atoms; B has the outer atoms, and
-- C those of them that a cube fixes. All definitions are transparent.
use Rattle.std.specs.Prelude.{ℕ, ◌≡◌, Bool, true, false, not, ◌&&◌, ◌||◌, List, [], ◌∷◌}
use Rattle.std.specs.List.{list_any, list_all}
use Rattle.asp_defs.specs.declared.ground.GroundRule.{GroundRule}
use Rattle.asp_defs.specs.declared.ground.Bound.{Bound}
use Rattle.asp_defs.specs.declared.ground.Lit.{Lit}
use Rattle.asp_defs.specs.Lists.{IsIn}
use Rattle.asp_defs.specs.Interpretations.{holds, subsets}
use Rattle.asp_defs.specs.Truth.{body_true}
use Rattle.asp_defs.specs.Bounds.{bound_atoms}
use Rattle.asp_defs.specs.Unfounded.{supports}
use Rattle.asp_defs.specs.Games.{rule_atoms}
use Rattle.asp_defs.specs.History.{agrees}

-- whether an atom's truth is known: it is the level's own, or fixed
abbrev pub is_known : List ℕ → List ℕ → ℕ → Bool
is_known B C a = not (holds B a) || holds C a

-- whether the truth of each of the atoms is
abbrev pub are_known : List ℕ → List ℕ → List ℕ → Bool
are_known B C atoms = list_all (is_known B C) atoms

-- whether one of the atoms is known and has this truth
abbrev pub has_known : List ℕ → List ℕ → List ℕ → Bool → List ℕ → Bool
has_known B C N truth atoms = list_any (λ a. agrees truth (holds N a) && is_known B C a) atoms

-- whether a body is known to be false
abbrev pub is_blocked : List ℕ → List ℕ → List ℕ → List ℕ → List ℕ → Bool
is_blocked B C N pos neg = has_known B C N false pos || has_known B C N true neg

-- whether a rule is known to be satisfied: it is a choice, or a head atom is known to be true, or the body to be false
abbrev pub is_safe : List ℕ → List ℕ → List ℕ → GroundRule → Bool
is_safe B C N r = r.choice || (has_known B C N true r.head || is_blocked B C N r.pos r.neg)

-- whether a bound is known to be met: its body is known to be false, or all its atoms are known
abbrev pub is_kept : List ℕ → List ℕ → List ℕ → Bound → Bool
is_kept B C N b = is_blocked B C N b.pos b.neg || are_known B C (bound_atoms b)

-- whether a rule may support atoms outside D: its body is true, and so is some head atom, but none of D
abbrev pub may_support : List ℕ → List ℕ → GroundRule → Bool
may_support D N r =
    (body_true N r && list_any (λ a. holds N a && not (holds D a)) r.head) && not (list_any (λ a. holds N a && holds D a) r.head)

-- whether a rule's atoms are known where it may support atoms outside D
abbrev pub is_settled : List ℕ → List ℕ → List ℕ → List ℕ → GroundRule → Bool
is_settled B D C N r = not (may_support D N r) || are_known B C (rule_atoms r)

-- whether an atom is one of some literals
abbrev pub stands_in_literals : ℕ → List Lit → Bool
stands_in_literals a lits = list_any (λ l. holds (l.atom ∷ []) a) lits

-- a rule that supports a set of atoms, and whose atoms are known
pub record Supporter (G : List GroundRule) (B C N U : List ℕ) : Type 0 where
  pub rule : GroundRule
  pub member : IsIn rule G
  pub supports_it : supports N U rule ≡ true
  pub known : are_known B C (rule_atoms rule) ≡ true

-- a move N with the literals `won` rests on the atoms C: with them alone fixed it satisfies the rules, meets the bounds, has a
-- supporter of each set of its own atoms, and has the literals
pub record RestsOn (G : List GroundRule) (bounds : List Bound) (won : List Lit) (B C N : List ℕ) : Type 0 where
  pub safe : list_all (is_safe B C N) G ≡ true
  pub kept : list_all (is_kept B C N) bounds ≡ true
  pub won_known : list_all (λ l. is_known B C l.atom) won ≡ true
  pub founded : (u : ℕ) (U : List ℕ) → IsIn (u ∷ U) (subsets N) → ((b : ℕ) → IsIn b (u ∷ U) → holds B b ≡ false)
      → Supporter G B C N (u ∷ U)
