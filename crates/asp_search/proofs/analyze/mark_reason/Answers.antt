use Rattle.std.proofs.Common.{◌∙◌, arith}
use Rattle.std.proofs.lemmas.List.{take_more}
use Rattle.asp_search.proofs.Marking.{MarksReason-more}
use Rattle.asp_search.proofs.analyze.mark_reason.Goals as goal

pub loop-literal-preserved : goal.loop-literal-preserved
loop-literal-preserved c = (
  omega (arith, c.loop-literal.invariant.0, c.in_ok-pending.ensures.one),
  record { codes = c.in_ok-pending.ensures.codes ∙ c.loop-literal.invariant.1.codes; atoms = c.in_ok-pending.ensures.heap ∙ c.loop-literal.invariant.1.atoms },
  rw (take_more c.lits-literal-items.result.now c.loop-literal.literal-index 0 c.loop-literal-test.true)
      (MarksReason-more _ _ _ _ _ _ _ _ _ c.loop-literal.invariant.2 c.in_ok-pending.ensures.marks),
)
