use Rattle.std.proofs.Common.{◌≡◌, map, take}
use Rattle.asp_defs.specs.declared.syntax.Part.{Part}
use Rattle.asp_atoms.proofs.terms.level_rules.Given as goal

abbrev pub invariant-loop-part : goal.invariant-loop-part
invariant-loop-part l = map (λ r. r.now) l.levels.items ≡ map (λ (part : Part). part.rules) (take l.part-index l.parts)
