use Rattle.std.proofs.Common.{◌≡◌, map, take}
use Rattle.asp_template.specs.Templates.{number_at}
use Rattle.asp_template.proofs.instances.numbers_at.Given as goal

abbrev pub invariant-loop-atom : goal.invariant-loop-atom
invariant-loop-atom l = l.numbers.items ≡ map (number_at l.size l.ranks) (take l.atom-index l.atoms)
