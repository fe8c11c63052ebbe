-- Unfounded sets of disjunctive programs, which characterise minimality (Leone, Rullo and Scarcello 1997), with choice
-- rules as this project has them. All definitions are transparent.
use Rattle.std.specs.Prelude.{ℕ, Bool, not, ◌&&◌, List}
use Rattle.std.specs.List.{list_any, list_all}
use Rattle.asp_defs.specs.declared.ground.GroundRule.{GroundRule}
use Rattle.asp_defs.specs.Interpretations.{holds}
use Rattle.asp_defs.specs.Truth.{body_true}

-- whether a rule supports a set of atoms in an interpretation from outside: a head atom is in the set, the body is
-- true, no atom of the positive body is in the set, and no head atom outside the set is true
abbrev pub supports : List ℕ → List ℕ → GroundRule → Bool
supports I U r =
    list_any (holds U) r.head
    && (body_true I r
    && (list_all (λ a. not (holds U a)) r.pos
    && list_all (λ a. not (holds I a && not (holds U a))) r.head))

-- whether a subset of an interpretation is unfounded in it: no rule supports it from outside
abbrev pub is_unfounded : List GroundRule → List ℕ → List ℕ → Bool
is_unfounded G I U = list_all (λ r. not (supports I U r)) G
