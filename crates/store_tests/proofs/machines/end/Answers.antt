use Rattle.std.proofs.Common.{sym, subst, false, set}
use Rattle.asp_core.specs.Machines.{MachineState}
use Rattle.store_tests.specs.Members.{Knows}
use Rattle.store_tests.proofs.Living.{ended-knows}
use Rattle.store_tests.proofs.machines.end.Goals as goal

pub returns : goal.returns
returns c =
    subst (λ (m : MachineState). Knows m (set c.args.lives.now.items c.args.member false)) (sym c.in-Ok.ensures.done)
    (ended-knows c.args.machine.now c.args.lives.now.items c.args.member c.requires)
