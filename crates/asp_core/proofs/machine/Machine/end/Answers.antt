use Rattle.std.proofs.Common.{ap}
use Rattle.asp_defs.specs.Machine.{End}
use Rattle.asp_core.specs.Machines.{machine_of}
use Rattle.asp_core.proofs.Runs.{step-kept}
use Rattle.asp_core.proofs.machine.Machine.end.Goals as goal

pub returns-clause-kept : goal.returns-clause-kept
returns-clause-kept c =
    step-kept (machine_of c.self.inside.store c.self.inside.members.items) c.args.self.now (machine_of c.self.inside.store c.end.new.members.items) (End c.args.member) c.self.view_is c.self.invariant c.requires
    (ap (machine_of c.self.inside.store) c.end.ensures)

pub invariant_of-self : goal.invariant_of-self
invariant_of-self c =
    (step-kept (machine_of c.self.inside.store c.self.inside.members.items) c.args.self.now (machine_of c.self.inside.store c.end.new.members.items) (End c.args.member) c.self.view_is c.self.invariant c.requires
    (ap (machine_of c.self.inside.store) c.end.ensures)).reached
