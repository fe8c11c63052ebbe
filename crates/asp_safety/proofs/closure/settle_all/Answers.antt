use Rattle.std.proofs.Common.{arith}
use Rattle.asp_safety.proofs.Steps.{gathers_step}
use Rattle.asp_safety.specs.Variables.{terms_of}
use Rattle.asp_safety.proofs.closure.settle_all.Goals as goal

pub loop-variable-preserved : goal.loop-variable-preserved
loop-variable-preserved c =
    gathers_step c.args.variables.now c.loop-variable.variable-index _ (omega arith) (terms_of c.loop-variable.safe.keys) (terms_of c.settle.new.safe.keys)
    (terms_of c.loop-variable.queue.items) (terms_of c.settle.new.queue.items) c.loop-variable.invariant c.in_ok-settle.ensures
