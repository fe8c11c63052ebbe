-- Cubes: lists of literals on outer atoms. All definitions are transparent.
use Rattle.std.specs.Prelude.{ℕ, ◌⊎◌, Bool, nat_lt, List, [], ◌∷◌, map, IsTrue, if◌then◌else◌}
use Rattle.std.specs.List.{list_all}
use Rattle.asp_defs.specs.declared.ground.Lit.{Lit}
use Rattle.asp_defs.specs.Lists.{IsIn}
use Rattle.asp_defs.specs.Interpretations.{holds}
use Rattle.asp_defs.specs.Games.{ascends}
use Rattle.asp_defs.specs.Entries.{cube_holds}

-- whether the atoms of literals strictly ascend
abbrev pub lits_ascend : List Lit → Bool
lits_ascend lits = ascends (map (λ l. l.atom) lits)

-- whether the atom of each literal is below a count
abbrev pub are_lits_below : ℕ → List Lit → Bool
are_lits_below count lits = list_all (λ l. nat_lt l.atom count) lits

-- the literal of an atom as it is in an interpretation
abbrev pub literal_in : List ℕ → ℕ → Lit
literal_in I a = record { atom = a; positive = holds I a }

-- some set is held by both
pub record HaveCommonSet (these those : List Lit) : Type 0 where
  pub set : List ℕ
  pub held_by_these : IsTrue (cube_holds these set)
  pub held_by_those : IsTrue (cube_holds those set)

-- the members of a list are those of two others
pub record HasMembersOfBoth (these those joined : List Lit) : Type 0 where
  pub no_more : (l : Lit) → IsIn l joined → IsIn l these ⊎ IsIn l those
  pub all_of_these : (l : Lit) → IsIn l these → IsIn l joined
  pub all_of_those : (l : Lit) → IsIn l those → IsIn l joined

-- two lists of literals as one, by their atoms; of two literals on one atom it has the first list's
abbrev pub merged : List Lit → List Lit → List Lit
merged [] those = those
merged (x ∷ these) [] = x ∷ these
merged (x ∷ these) (y ∷ those) =
    if nat_lt x.atom y.atom then x ∷ merged these (y ∷ those)
    else if nat_lt y.atom x.atom then y ∷ merged (x ∷ these) those
    else x ∷ merged these those
