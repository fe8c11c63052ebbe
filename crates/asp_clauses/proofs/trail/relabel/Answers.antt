use Rattle.std.proofs.Common.{ap, sym, ◌∙◌, arith}
use Rattle.asp_clauses.specs.declared.trail.Step.{Step}
use Rattle.asp_clauses.proofs.RenamedLemmas.{reason_in}
use Rattle.asp_clauses.proofs.trail.relabel.Goals as goal

pub cell-requires-clause-clause : goal.cell-requires-clause-clause
cell-requires-clause-clause c =
    let i = c.loop-place.invariant in
    c.requires.reasons c.in-Some.clause (reason_in c.args.steps.now c.args.len c.loop-place.place c.in-Some.clause c.requires.within c.loop-place-test.true (sym (ap (λ (s : Step). s.reason) (i.later c.loop-place.place (omega arith))) ∙ sym (ap (λ (s : Step). s.reason) c.get-step.ensures) ∙ c.in-Some.is))

pub cell-requires-clause-index : goal.cell-requires-clause-index
cell-requires-clause-index c =
    let i = c.loop-place.invariant in
    c.requires.long c.in-Some.clause (c.requires.reasons c.in-Some.clause (reason_in c.args.steps.now c.args.len c.loop-place.place c.in-Some.clause c.requires.within c.loop-place-test.true (sym (ap (λ (s : Step). s.reason) (i.later c.loop-place.place (omega arith))) ∙ sym (ap (λ (s : Step). s.reason) c.get-step.ensures) ∙ c.in-Some.is)))
