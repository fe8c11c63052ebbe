-- The instances of levels, by templates (of this project). All definitions are transparent.
use Rattle.std.specs.Prelude.{ℕ, List, [], ◌++◌, map, get_or}
use Rattle.std.specs.List.{flat_map, enumerate_from}
use Rattle.asp_defs.specs.declared.ground.GroundRule.{GroundRule}
use Rattle.asp_defs.specs.declared.syntax.Rule.{Rule}
use Rattle.asp_defs.specs.declared.syntax.Program.{Program}
use Rattle.asp_defs.specs.Constants.{level_rules}
use Rattle.asp_defs.specs.Consistency.{consistency_constraints}
use Rattle.asp_atoms.specs.declared.vocabularies.Vocabulary.{Vocabulary}
use Rattle.asp_template.specs.Compiled.{compiled_instances}

-- the instances of the rules of a level and of its consistency constraints, and of all levels
abbrev pub level_instances : Vocabulary → Program → (ℕ × List Rule) → List GroundRule
level_instances v p level =
    flat_map (compiled_instances v (get_or v.universes level.0 [])) (level.1 ++ consistency_constraints p level.0)

abbrev pub compiled_levels : Vocabulary → Program → List (List GroundRule)
compiled_levels v p = map (level_instances v p) (enumerate_from 1 (level_rules p))
