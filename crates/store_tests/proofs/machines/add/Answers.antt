use Rattle.std.proofs.Common.{sym, subst}
use Rattle.asp_core.specs.Machines.{MachineState}
use Rattle.store_tests.specs.Members.{Knows}
use Rattle.store_tests.proofs.Living.{added-knows}
use Rattle.store_tests.proofs.machines.add.Goals as goal

pub returns : goal.returns
returns c =
    subst (λ (m : MachineState). Knows m c.args.lives.now) (sym c.in-Ok-step.ensures.done)
    (added-knows c.args.machine.now c.args.lives.now c.args.member c.in-Ok.entry c.requires)
