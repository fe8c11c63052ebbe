use Rattle.std.proofs.Common.{◌≡◌, ◌+◌, [], ◌∷◌, ◌++◌, map, drop}
use Rattle.asp_defs.specs.declared.syntax.Part.{Part}
use Rattle.asp_defs.specs.Constants.{const_cmp, level_rules}
use Rattle.asp_atoms.specs.Ascending.{Ascends}
use Rattle.asp_atoms.specs.ConstRefs.{const_of}
use Rattle.asp_atoms.specs.Counts.{shown}
use Rattle.asp_ground.specs.Counts.{counted_from}
use Rattle.asp_ground.proofs.counts.count.Given as goal

abbrev pub invariant-loop-level : goal.invariant-loop-level
invariant-loop-level l =
    Ascends const_cmp (map const_of l.found.items)
    × (shown (l.count + counted_from (map const_of l.found.items) (map (λ (part : Part). part.rules) (drop l.level-index l.levels) ++ l.program.cons ∷ []))
    ≡ shown (counted_from [] (level_rules l.program)))
