use Rattle.std.proofs.Common.{◌∙◌, arith}
use Rattle.asp_io.proofs.Moving.{on_err, written_more, written_prefix, written_rest}
use Rattle.asp_io.proofs.sink.write_all.Goals as goal

pub returns-in_err-count-clause-prefix : goal.returns-in_err-count-clause-prefix
returns-in_err-count-clause-prefix g c =
    on_err c.from_residual.result (written_prefix _ _ _ _ _ c.loop-rest.invariant.0 c.in_err-count.ensures.bytes)

pub loop-rest-preserved : goal.loop-rest-preserved
loop-rest-preserved g c = (
  rw c.split_at.ensures.back (written_more _ _ _ _ _ c.in_ok-count.count c.loop-rest.invariant.0 c.in_ok-count.ensures.bytes),
  c.in_ok-count.ensures.cause.kept ∙ c.loop-rest.invariant.1,
  λ none. absurd (omega (arith, written_rest _ _ _ _ c.loop-rest.invariant.0 none, c.in_ok-count.ensures.some, c.in_ok-count.ensures.bound)),
)
