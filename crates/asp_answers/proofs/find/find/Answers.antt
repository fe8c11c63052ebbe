use Rattle.std.proofs.Common.{◌≡◌, ◌∙◌, Option, Some, Ok, Err, refl, ap, subst, arith}
use Rattle.std.proofs.lemmas.Result.{err_from_is_err_and}
use Rattle.asp_defs.specs.declared.faults.Give.{Give}
use Rattle.asp_defs.specs.declared.faults.Give.TheVariants as gives
use Rattle.asp_game.specs.declared.step.Step.{Step}
use Rattle.asp_game.specs.declared.step.Step.TheVariants as steps
use Rattle.asp_game.specs.State.{MovesState}
use Rattle.asp_game.specs.Answers.{IsFound, IsFirst, IsCore}
use Rattle.asp_answers.proofs.Steps.{keeps-then, question-kept}
use Rattle.asp_answers.proofs.Recording.{learned-self, learned-then}
use Rattle.asp_answers.proofs.find.find.Goals as goal

pub returns-in_err-answer-clause-kept : goal.returns-in_err-answer-clause-kept
returns-in_err-answer-clause-kept c =
    keeps-then c.args.work.now c.loop-answer.work c.step.new.work c.loop-answer.invariant.1 c.step.ensures.kept

pub returns-in-Some-clause-kept : goal.returns-in-Some-clause-kept
returns-in-Some-clause-kept c =
    keeps-then c.args.work.now c.loop-answer.work c.step.new.work c.loop-answer.invariant.1 c.step.ensures.kept

pub loop-answer-init : goal.loop-answer-init
loop-answer-init c = (
  c.requires.asked,
  record { same_outer = refl; same_region = refl; same_order = refl; same_kept = refl; same_blocked = refl; same_last = refl },
  omega arith,
  learned-self c.args.level.now c.args.work.now.search c.args.work.now.nogoods,
)

pub loop-answer-preserved : goal.loop-answer-preserved
loop-answer-preserved c =
    let before = c.loop-answer.invariant.2 in
    let after = c.step.ensures.placed in (
      c.step.ensures.asked,
      keeps-then c.args.work.now c.loop-answer.work c.step.new.work c.loop-answer.invariant.1 c.step.ensures.kept,
      omega (arith, before, after),
      learned-then c.args.level.now c.args.work.now.search c.loop-answer.work.search c.step.new.work.search c.args.work.now.nogoods
          c.loop-answer.work.nogoods c.step.new.work.nogoods c.loop-answer.invariant.3 c.step.ensures.learned,
    )

pub returns-in_err-answer-clause-placed : goal.returns-in_err-answer-clause-placed
returns-in_err-answer-clause-placed c =
    let before = c.loop-answer.invariant.2 in
    let after = c.step.ensures.placed in
    omega (arith, before, after)

pub returns-in-Some-clause-placed : goal.returns-in-Some-clause-placed
returns-in-Some-clause-placed c =
    let before = c.loop-answer.invariant.2 in
    let after = c.step.ensures.placed in
    omega (arith, before, after)

pub returns-in-Some-clause-found : goal.returns-in-Some-clause-found
returns-in-Some-clause-found c = λ set e.
    let is : c.in-Some.answer ≡ steps.Found set = cc in
    let found = c.in_ok-answer.ensures.found set (ap (λ (o : Option Step). Ok o) (c.in-Some.is ∙ ap (λ (a : Step). Some a) is)) in (
      found.0,
      subst (λ (q : MovesState). IsFound q set)
          (question-kept c.args.level.now c.args.budget c.args.work.now c.loop-answer.work c.loop-answer.invariant.1) found.1,
    )

pub returns-in-Some-clause-first : goal.returns-in-Some-clause-first
returns-in-Some-clause-first c = λ set e ordered.
    let is : c.in-Some.answer ≡ steps.Found set = cc in
    let first =
    c.in_ok-answer.ensures.first set (ap (λ (o : Option Step). Ok o) (c.in-Some.is ∙ ap (λ (a : Step). Some a) is))
    (c.loop-answer.invariant.1.same_order ∙ ordered) in
    subst (λ (q : MovesState). IsFirst q set)
    (question-kept c.args.level.now c.args.budget c.args.work.now c.loop-answer.work c.loop-answer.invariant.1) first

pub returns-in-Some-clause-core : goal.returns-in-Some-clause-core
returns-in-Some-clause-core c = λ core e.
    let is : c.in-Some.answer ≡ steps.Core core = cc in
    let found = c.in_ok-answer.ensures.core core (ap (λ (o : Option Step). Ok o) (c.in-Some.is ∙ ap (λ (a : Step). Some a) is)) in
    subst (λ (q : MovesState). IsCore q core)
    (question-kept c.args.level.now c.args.budget c.args.work.now c.loop-answer.work c.loop-answer.invariant.1) found

-- a spent budget is passed on
pub returns-in_err-answer-clause-spent : goal.returns-in_err-answer-clause-spent
returns-in_err-answer-clause-spent c = λ unknown e.
    let p = err_from_is_err_and c.from_residual.result c.from_residual.ensures.1 in
    let both : c.from_residual.result ≡ Err p.0 = p.1 in
    let is : p.0 ≡ c.in_err-answer.field-0.0 = p.2 in
    let same : c.in_err-answer.field-0.0 ≡ gives.Spent unknown = cc in
    c.in_err-answer.ensures.spent unknown (ap (λ (g : Give). Err g) same)

pub returns-in_err-answer-clause-learned : goal.returns-in_err-answer-clause-learned
returns-in_err-answer-clause-learned c =
    learned-then c.args.level.now c.args.work.now.search c.loop-answer.work.search c.step.new.work.search c.args.work.now.nogoods
    c.loop-answer.work.nogoods c.step.new.work.nogoods c.loop-answer.invariant.3 c.step.ensures.learned

pub returns-in-Some-clause-learned : goal.returns-in-Some-clause-learned
returns-in-Some-clause-learned c =
    learned-then c.args.level.now c.args.work.now.search c.loop-answer.work.search c.step.new.work.search c.args.work.now.nogoods
    c.loop-answer.work.nogoods c.step.new.work.nogoods c.loop-answer.invariant.3 c.step.ensures.learned
