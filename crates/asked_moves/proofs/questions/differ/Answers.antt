use Rattle.std.proofs.Common.{arith}
use Rattle.asked_moves.proofs.Moving.{none_differ}
use Rattle.asked_moves.proofs.questions.differ.Goals as goal

pub returns-in-empty : goal.returns-in-empty
returns-in-empty c = λ e. none_differ c.args.region.now (let below = c.in-empty.len_below in omega (arith, below))
