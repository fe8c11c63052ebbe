use Rattle.std.proofs.Common.{◌≡◌, sym, subst, Ok, Err, rules, List}
use Rattle.std.proofs.lemmas.Fn.{always_returns_same}
use Rattle.asp_defs.specs.declared.ground.GroundAtom.{GroundAtom}
use Rattle.asp_defs.specs.Constants.{atom_cmp}
use Rattle.asp_atoms.specs.Ascending.{Ascends}
use Rattle.asp_atoms.proofs.Orders.{atom_lawful}
use Rattle.asp_atoms.proofs.Positions.{Finds, found}
use Rattle.asp_atoms.proofs.Comparing.{ascends_by_test}
use Rattle.asp_atoms.proofs.Loops.{finds_at, finds_none}
use Rattle.asp_atoms.proofs.search.number.Goals as goal

pub returns-in-Ok : goal.returns-in-Ok
returns-in-Ok c =
    let up : Ascends atom_cmp c.as_slice-atoms.result.now = subst (Ascends atom_cmp) (sym c.as_slice-atoms.ensures) (ascends_by_test c.args.bases.now.atoms c.requires.ordered) in
    sym (finds_at atom_cmp c.args.bases.now.atoms c.args.atom.now c.in-Ok.at
    (subst (λ (xs : List GroundAtom). Finds atom_cmp xs c.args.atom.now (Ok c.in-Ok.at)) c.as_slice-atoms.ensures
    (found atom_lawful c.as_slice-atoms.result.now up c.args.atom.now (Ok c.in-Ok.at) c.in-Ok.ensures.bound
    (c.in-Ok.ensures.position (λ other. atom_cmp other c.args.atom.now)
    (always_returns_same _ (λ a r. r ≡ atom_cmp a.0.now c.args.atom.now) _ (λ a r f k. search rules))))))

pub returns-in-Err : goal.returns-in-Err
returns-in-Err c =
    let up : Ascends atom_cmp c.as_slice-atoms.result.now = subst (Ascends atom_cmp) (sym c.as_slice-atoms.ensures) (ascends_by_test c.args.bases.now.atoms c.requires.ordered) in
    sym (finds_none atom_cmp c.args.bases.now.atoms c.args.atom.now c.in-Err.field-0
    (subst (λ (xs : List GroundAtom). Finds atom_cmp xs c.args.atom.now (Err c.in-Err.field-0)) c.as_slice-atoms.ensures
    (found atom_lawful c.as_slice-atoms.result.now up c.args.atom.now (Err c.in-Err.field-0) c.in-Err.ensures.bound
    (c.in-Err.ensures.position (λ other. atom_cmp other c.args.atom.now)
    (always_returns_same _ (λ a r. r ≡ atom_cmp a.0.now c.args.atom.now) _ (λ a r f k. search rules))))))
