-- Rules with a free choice on some atoms. All definitions are transparent.
use Rattle.std.specs.Prelude.{ℕ, true, List, [], ◌∷◌, ◌++◌, map}
use Rattle.asp_defs.specs.declared.ground.GroundRule.{GroundRule}

-- the choice that leaves an atom free
abbrev pub free_choice : ℕ → GroundRule
free_choice a = record { choice = true; head = a ∷ []; pos = []; neg = [] }

-- the rules with a free choice on each of these atoms
abbrev pub with_choices : List GroundRule → List ℕ → List GroundRule
with_choices G F = G ++ map free_choice F
