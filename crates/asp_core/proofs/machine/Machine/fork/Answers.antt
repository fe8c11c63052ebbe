use Rattle.asp_defs.specs.Machine.{Fork}
use Rattle.asp_core.specs.Machines.{machine_of}
use Rattle.asp_core.proofs.Runs.{tried-kept}
use Rattle.asp_core.proofs.Steps.{forked-is, same-is}
use Rattle.asp_core.proofs.machine.Machine.fork.Goals as goal

pub returns-clause-kept : goal.returns-clause-kept
returns-clause-kept c =
    tried-kept c.fork.result (machine_of c.self.inside.store c.self.inside.members.items) c.args.self.now (machine_of c.self.inside.store c.fork.new.members.items) (Fork c.args.member) c.self.view_is c.self.invariant c.requires
    (forked-is c.fork.result c.self.inside.store c.self.inside.members.items c.fork.new.members.items c.args.member c.fork.ensures.forked)
    (same-is c.fork.result c.self.inside.store c.self.inside.members.items c.fork.new.members.items c.fork.ensures.unchanged)

pub invariant_of-self : goal.invariant_of-self
invariant_of-self c =
    (tried-kept c.fork.result (machine_of c.self.inside.store c.self.inside.members.items) c.args.self.now (machine_of c.self.inside.store c.fork.new.members.items) (Fork c.args.member) c.self.view_is c.self.invariant c.requires
    (forked-is c.fork.result c.self.inside.store c.self.inside.members.items c.fork.new.members.items c.args.member c.fork.ensures.forked)
    (same-is c.fork.result c.self.inside.store c.self.inside.members.items c.fork.new.members.items c.fork.ensures.unchanged)).reached
