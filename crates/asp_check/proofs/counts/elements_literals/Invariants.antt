use Rattle.std.proofs.Common.{◌≡◌, ◌+◌, length, take}
use Rattle.std.specs.List.{sum_by}
use Rattle.asp_defs.specs.declared.syntax.Element.{Element}
use Rattle.asp_check.specs.Counts.{capped}
use Rattle.asp_check.proofs.counts.elements_literals.Given as goal

abbrev pub invariant-loop-element : goal.invariant-loop-element
invariant-loop-element l = l.count ≡ capped (sum_by (λ (e : Element). 1 + length e.cond) (take l.element-index l.elements))
