use Rattle.std.proofs.Common.{◌≡◌, map}
use Rattle.asp_defs.specs.Lists.{numbers_from}
use Rattle.asp_template.specs.declared.template.Slot.TheVariants.{Variable}
use Rattle.asp_template.proofs.facts.variables.Given as goal

abbrev pub invariant-loop-place : goal.invariant-loop-place
invariant-loop-place l = l.slots.items ≡ map Variable (numbers_from 0 l.place)
