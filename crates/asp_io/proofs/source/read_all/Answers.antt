use Rattle.asp_io.proofs.Moving.{loses_more, on_err}
use Rattle.asp_io.proofs.source.read_all.Goals as goal

pub returns-in_err-read_more-clause-lost : goal.returns-in_err-read_more-clause-lost
returns-in_err-read_more-clause-lost g c =
    on_err c.from_residual-in_err-read_more.result (loses_more _ _ _ _ c.loop-chunk.invariant.0 c.in_err-read_more.ensures.lost)
