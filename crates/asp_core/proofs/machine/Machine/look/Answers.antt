use Rattle.asp_defs.specs.Machine.{Look}
use Rattle.asp_core.specs.Machines.{machine_of}
use Rattle.asp_core.proofs.Runs.{step-kept}
use Rattle.asp_core.proofs.Steps.{looked-is}
use Rattle.asp_core.proofs.machine.Machine.look.Goals as goal

pub returns-clause-kept : goal.returns-clause-kept
returns-clause-kept c =
    step-kept (machine_of c.self.inside.store c.self.inside.members.items) c.args.self.now (machine_of c.self.inside.store c.see.new.members.items) (Look c.args.member) c.self.view_is c.self.invariant c.requires
    (looked-is c.self.inside.store c.self.inside.members.items c.see.new.members.items c.args.member c.len-seen.result c.see.ensures c.len-seen.ensures.count)

pub invariant_of-self : goal.invariant_of-self
invariant_of-self c =
    (step-kept (machine_of c.self.inside.store c.self.inside.members.items) c.args.self.now (machine_of c.self.inside.store c.see.new.members.items) (Look c.args.member) c.self.view_is c.self.invariant c.requires
    (looked-is c.self.inside.store c.self.inside.members.items c.see.new.members.items c.args.member c.len-seen.result c.see.ensures c.len-seen.ensures.count)).reached
