use Rattle.std.proofs.Common.{arith}
use Rattle.asp_safety.specs.Variables.{term_of}
use Rattle.asp_safety.proofs.Representing.{represents_none, represents_step}
use Rattle.asp_safety.proofs.representatives.represent_each.Goals as goal

pub loop-variable-init : goal.loop-variable-init
loop-variable-init c = represents_none c.args.representatives.now.entries (term_of c.args.representative)

pub loop-variable-preserved : goal.loop-variable-preserved
loop-variable-preserved c =
    represents_step c.args.variables.now c.loop-variable.variable-index _ (omega arith) c.args.representatives.now.entries c.loop-variable.representatives.entries c.insert.new.self.entries c.args.representative
    c.loop-variable.invariant c.in_ok-insert.ensures.updates.0
