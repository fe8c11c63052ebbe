use Rattle.std.proofs.Common.{◌≡◌, ◌^◌, length, take}
use Rattle.std.specs.List.{sum_by}
use Rattle.asp_template.specs.Variables.{element_variables}
use Rattle.asp_atoms.specs.Counts.{shown}
use Rattle.asp_ground.proofs.counts.elements_count.Given as goal

abbrev pub invariant-loop-element : goal.invariant-loop-element
invariant-loop-element l = l.count ≡ shown (sum_by (λ e. l.size ^ length (element_variables l.body e)) (take l.element-index l.elements))
