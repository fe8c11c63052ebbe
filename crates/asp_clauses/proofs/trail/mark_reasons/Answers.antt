use Rattle.std.proofs.Common.{◌+◌, Bool, List, take, subst, sym, arith, ap, ◌∙◌}
use Rattle.asp_clauses.specs.declared.trail.Step.{Step}
use Rattle.asp_clauses.proofs.RenamedLemmas.{reason_in, MarksReasons-step, MarksReasons-pass}
use Rattle.asp_clauses.specs.Kept.{MarksReasons}
use Rattle.asp_clauses.proofs.trail.mark_reasons.Goals as goal
use Rattle.asp_clauses.proofs.trail.mark_reasons.Goals.{in-Some, in_default}

pub bounds-stays-clause : goal.bounds-stays-clause
bounds-stays-clause c =
    let b = c.requires.reasons c.in-Some.clause (reason_in c.args.steps.now c.args.len c.loop-place.place c.in-Some.clause c.requires.within c.loop-place-test.true (sym (ap (λ (s : Step). s.reason) c.get.ensures) ∙ c.in-Some.is)) in
    let many = c.loop-place.invariant.as_many in omega (arith, b, many)

pub loop-place-preserved : goal.loop-place-preserved
loop-place-preserved c =
    let steps = c.args.steps.now in let len = c.args.len in let done = c.loop-place.place in
    let m = c.loop-place.invariant in let many = m.as_many in
    elim c.match-get.branch [
      | in-Some w ↦
          let b = c.requires.reasons w.in-Some.clause (reason_in steps len done w.in-Some.clause c.requires.within c.loop-place-test.true (sym (ap (λ (s : Step). s.reason) c.get.ensures) ∙ w.in-Some.is)) in
          subst (λ (x : List Bool). MarksReasons (take len steps) (done + 1) c.args.stays.now x) (sym w.stays-is) (MarksReasons-step steps len done w.in-Some.clause c.args.stays.now c.loop-place.stays m c.requires.within c.loop-place-test.true (sym (ap (λ (s : Step). s.reason) c.get.ensures) ∙ w.in-Some.is) (omega (arith, b, many)))
      | in_default w ↦ subst (λ (x : List Bool). MarksReasons (take len steps) (done + 1) c.args.stays.now x) (sym w.stays-is) (MarksReasons-pass steps len done c.args.stays.now c.loop-place.stays m c.loop-place-test.true (sym (ap (λ (s : Step). s.reason) c.get.ensures) ∙ w.in_default.is))
    ]
