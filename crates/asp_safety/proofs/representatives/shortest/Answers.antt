use Rattle.std.proofs.Common.{refl, inl, arith}
use Rattle.asp_safety.specs.Variables.{term_of}
use Rattle.asp_safety.proofs.Representing.{best_step}
use Rattle.asp_safety.proofs.representatives.shortest.Goals as goal

pub loop-variable-init : goal.loop-variable-init
loop-variable-init c = inl refl

pub loop-variable-preserved : goal.loop-variable-preserved
loop-variable-preserved c =
    best_step c.args.others.now c.loop-variable.variable-index _ (omega arith) (term_of c.args.first) (term_of c.loop-variable.best) (term_of c.shorter-best.result)
    c.loop-variable.invariant c.shorter-best.ensures
