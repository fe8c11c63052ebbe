use Rattle.std.proofs.Common.{◌≡◌, ◌≤◌, sym, subst, List, length, arith}
use Rattle.std.specs.Prelude.{IsTrue, nat_le}
use Rattle.std.specs.List.{list_all}
use Rattle.asp_defs.specs.Bases.{Predicate, predicate_cmp, predicates}
use Rattle.asp_atoms.specs.Ascending.{Ascends}
use Rattle.asp_atoms.specs.Signatures.{predicates_of}
use Rattle.asp_ground.proofs.Signed.{read_predicates, predicates_ascend, predicates_short, all_constraints}
use Rattle.asp_ground.proofs.game.levels_constraints.Goals as goal

pub constraints-requires-clause-ascending : goal.constraints-requires-clause-ascending
constraints-requires-clause-ascending c =
    let p = c.args.program.now in
    let k = c.loop-predicates.predicates-index in
    let known : predicates_of c.as_slice.result.now ≡ predicates p k =
    read_predicates p c.in_ok-signatures.signatures.items c.as_slice-predicates-items.result.now k c.predicates-item.result c.as_slice.result.now
    c.as_slice-predicates-items.ensures.value c.in_ok-signatures.ensures c.loop-predicates-test.true c.predicates-item.is c.as_slice.ensures.value in
    subst (λ (qs : List Predicate). Ascends predicate_cmp qs) (sym known) (predicates_ascend p k)

pub constraints-requires-clause-short : goal.constraints-requires-clause-short
constraints-requires-clause-short c =
    let p = c.args.program.now in
    let k = c.loop-predicates.predicates-index in
    let known : predicates_of c.as_slice.result.now ≡ predicates p k =
    read_predicates p c.in_ok-signatures.signatures.items c.as_slice-predicates-items.result.now k c.predicates-item.result c.as_slice.result.now
    c.as_slice-predicates-items.ensures.value c.in_ok-signatures.ensures c.loop-predicates-test.true c.predicates-item.is c.as_slice.ensures.value in
    subst (λ (qs : List Predicate). IsTrue (list_all (λ q. nat_le q.arity 16) qs)) (sym known) (predicates_short p k c.requires.short)

pub returns : goal.returns
returns c =
    let h = c.loop-predicates-test.false in
    let past : length c.as_slice-predicates-items.result.now ≤ c.loop-predicates.predicates-index = omega (arith, h) in
    all_constraints c.args.program.now c.in_ok-signatures.signatures.items c.as_slice-predicates-items.result.now
    c.loop-predicates.predicates-index c.loop-predicates.all.items c.as_slice-predicates-items.ensures.value c.in_ok-signatures.ensures past
    c.loop-predicates.invariant
