use Rattle.std.proofs.Common.{◌≡◌, subst, true}
use Rattle.std.specs.List.{list_all}
use Rattle.asp_defs.specs.History.{is_sound}
use Rattle.asp_defs.specs.Laws.{IsOrderly}
use Rattle.asp_core.specs.Machines.{MachineState, machine_of}
use Rattle.asp_core.proofs.Runs.{reached-orderly, reached-sound}
use Rattle.asp_core.proofs.machine.Machine.seen.Goals as goal

pub returns-clause-orderly : goal.returns-clause-orderly
returns-clause-orderly c =
    subst (λ (m : MachineState). IsOrderly m.game m.allowed m.state) c.self.view_is
    (reached-orderly (machine_of c.self.inside.store c.self.inside.members.items) c.self.invariant)

pub returns-clause-sound : goal.returns-clause-sound
returns-clause-sound c =
    subst (λ (m : MachineState). list_all (is_sound m.game) m.state.history ≡ true) c.self.view_is
    (reached-sound (machine_of c.self.inside.store c.self.inside.members.items) c.self.invariant)
