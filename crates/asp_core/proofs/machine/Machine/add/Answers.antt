use Rattle.std.proofs.Common.{◌≡◌, ◌∙◌, sym, ap, subst, true, false}
use Rattle.std.specs.Prelude.{Result, Err}
use Rattle.std.proofs.lemmas.Result.{err_from_is_err_and}
use Rattle.asp_store.specs.declared.added.Added.{Added}
use Rattle.asp_store.specs.declared.added.AddFault.{AddFault}
use Rattle.asp_store.specs.declared.added.AddFault.TheVariants.{Spent}
use Rattle.asp_defs.specs.Machine.{Add, may_happen}
use Rattle.asp_core.specs.Machines.{MachineState, IsRefused, machine_of, after, is_full}
use Rattle.asp_core.proofs.Runs.{step-kept}
use Rattle.asp_core.proofs.Steps.{Grown, adding, grown, added-is, not-full, refused-is}
use Rattle.asp_core.proofs.machine.Machine.add.Goals as goal

pub add-requires-clause-justified : goal.add-requires-clause-justified
add-requires-clause-justified c =
    (adding c.self.inside.store.game c.self.inside.store.history c.self.inside.members.items c.args.member c.args.entry
    (subst (λ (m : MachineState). may_happen m.game m.state (Add c.args.member c.args.entry) ≡ true) (sym c.self.view_is) c.requires)).justified

pub returns-in_err-_added-clause-spent : goal.returns-in_err-_added-clause-spent
returns-in_err-_added-clause-spent c u e =
    let p = err_from_is_err_and c.from_residual.result c.from_residual.ensures.1 in
    let told : ◌≡◌ {A = Result Added AddFault} c.add.result (Err (Spent u)) =
    (let was : c.add.result ≡ Err c.in_err-_added.field-0.0 = c.in_err-_added.was in let answered = p.1 in let from = p.2 in cc) in
    subst (λ (m : MachineState). IsRefused m (Add c.args.member c.args.entry) u) c.self.view_is
    (refused-is c.self.inside.store c.self.inside.members.items c.args.member c.args.entry u (c.add.ensures.spent u told))

pub returns-clause-done : goal.returns-clause-done
returns-clause-done c =
    let g : Grown c.self.inside.store c.add.new.self c.args.entry = grown c.self.inside.store c.add.new.self c.args.entry c.add.result c.in_ok-_added._added c.in_ok-_added.was c.add.ensures.known c.add.ensures.added in
    added-is c.self.inside.store c.add.new.self c.self.inside.members.items c.see.new.members.items c.args.member c.len-all.result c.args.entry g c.see.ensures c.len-all.ensures.count
    ∙ ap (λ (m : MachineState). after m (Add c.args.member c.args.entry)) c.self.view_is

pub returns-clause-fits : goal.returns-clause-fits
returns-clause-fits c =
    let g : Grown c.self.inside.store c.add.new.self c.args.entry = grown c.self.inside.store c.add.new.self c.args.entry c.add.result c.in_ok-_added._added c.in_ok-_added.was c.add.ensures.known c.add.ensures.added in
    subst (λ (m : MachineState). is_full m (Add c.args.member c.args.entry) ≡ false) c.self.view_is
    (not-full c.self.inside.store c.add.new.self c.self.inside.members.items c.args.member c.args.entry g)

pub returns-clause-kept : goal.returns-clause-kept
returns-clause-kept c =
    let g : Grown c.self.inside.store c.add.new.self c.args.entry = grown c.self.inside.store c.add.new.self c.args.entry c.add.result c.in_ok-_added._added c.in_ok-_added.was c.add.ensures.known c.add.ensures.added in
    step-kept (machine_of c.self.inside.store c.self.inside.members.items) c.args.self.now (machine_of c.add.new.self c.see.new.members.items) (Add c.args.member c.args.entry) c.self.view_is c.self.invariant c.requires
    (added-is c.self.inside.store c.add.new.self c.self.inside.members.items c.see.new.members.items c.args.member c.len-all.result c.args.entry g c.see.ensures c.len-all.ensures.count)

pub invariant_of-self-2 : goal.invariant_of-self-2
invariant_of-self-2 c =
    let g : Grown c.self.inside.store c.add.new.self c.args.entry = grown c.self.inside.store c.add.new.self c.args.entry c.add.result c.in_ok-_added._added c.in_ok-_added.was c.add.ensures.known c.add.ensures.added in
    (step-kept (machine_of c.self.inside.store c.self.inside.members.items) c.args.self.now (machine_of c.add.new.self c.see.new.members.items) (Add c.args.member c.args.entry) c.self.view_is c.self.invariant c.requires
    (added-is c.self.inside.store c.add.new.self c.self.inside.members.items c.see.new.members.items c.args.member c.len-all.result c.args.entry g c.see.ensures c.len-all.ensures.count)).reached
