-- The reduct of a ground program under an interpretation (Gelfond and Lifschitz 1991; the form of choice
-- rules is this project's own). All definitions are transparent.
use Rattle.std.specs.Prelude.{ℕ, Bool, false, not, ◌&&◌, ◌||◌, List, [], map}
use Rattle.std.specs.List.{list_any, list_all, filter}
use Rattle.asp_defs.specs.declared.ground.GroundRule.{GroundRule}
use Rattle.asp_defs.specs.Interpretations.{holds}

-- whether a rule stays: no atom of its negative body is true and, where it is a choice, its head atom is
abbrev pub stays : List ℕ → GroundRule → Bool
stays I r = list_all (λ a. not (holds I a)) r.neg && (not r.choice || list_any (holds I) r.head)

-- the rule without its negative body, a choice made a plain rule
abbrev pub positive_part : GroundRule → GroundRule
positive_part r = record { choice = false; head = r.head; pos = r.pos; neg = [] }

-- the positive parts of the rules that stay
abbrev pub reduct : List GroundRule → List ℕ → List GroundRule
reduct G I = map positive_part (filter (stays I) G)
