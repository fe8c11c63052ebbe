-- Truth of bodies and satisfaction of rules in an interpretation: the usual definitions for ground disjunctive rules
-- (Gelfond and Lifschitz 1991), with choice rules beside them. All are transparent.
use Rattle.std.specs.Prelude.{ℕ, Bool, not, ◌&&◌, ◌||◌, List}
use Rattle.std.specs.List.{list_any, list_all}
use Rattle.asp_defs.specs.declared.ground.GroundRule.{GroundRule}
use Rattle.asp_defs.specs.Interpretations.{holds}

-- whether literals are all true: the positive atoms are, and the negative ones aren't
abbrev pub literals_true : List ℕ → List ℕ → List ℕ → Bool
literals_true I pos neg = list_all (holds I) pos && list_all (λ a. not (holds I a)) neg

-- whether a rule's body is true
abbrev pub body_true : List ℕ → GroundRule → Bool
body_true I r = literals_true I r.pos r.neg

-- whether a rule is satisfied: its body is false or one of its head atoms is true; a choice always is
abbrev pub satisfies : List ℕ → GroundRule → Bool
satisfies I r = r.choice || (not (body_true I r) || list_any (holds I) r.head)

-- whether an interpretation is a model of a program: it satisfies each rule
abbrev pub is_model : List ℕ → List GroundRule → Bool
is_model I G = list_all (satisfies I) G
