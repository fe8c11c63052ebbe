use Rattle.asp_pages.specs.Collected.{in_a_row, IsPageOf}
use Rattle.asp_pages.proofs.page.collect.Given as goal

-- the page of the lists so far
abbrev pub invariant-loop-part : goal.invariant-loop-part
invariant-loop-part l = IsPageOf (in_a_row l.yielded) l.count l.page
