use Rattle.std.proofs.Common.{◌≡◌, take}
use Rattle.std.specs.List.{fold}
use Rattle.asp_template.specs.Templates.{with_digit}
use Rattle.asp_template.proofs.instances.number_at.Given as goal

abbrev pub invariant-loop-slot : goal.invariant-loop-slot
invariant-loop-slot l = l.number ≡ fold (with_digit l.size l.ranks) 0 (take l.slot-index l.slots)
