use Rattle.std.proofs.Common.{◌≡◌, ◌∙◌, Some, Err, sym, ap}
use Rattle.asp_defs.specs.declared.faults.Give.{Give}
use Rattle.asp_defs.specs.declared.faults.Give.TheVariants as gives
use Rattle.asp_game.specs.State.{Gave}
use Rattle.asp_answers.proofs.Steps.{fault-last, fault-spent, no_fault}
use Rattle.asp_answers.proofs.Recording.{learned-self}
use Rattle.asp_answers.proofs.find.next_answer.Goals as goal

pub returns-in-Some-clause-last : goal.returns-in-Some-clause-last
returns-in-Some-clause-last c =
    fault-last c.args.level.now c.args.budget c.args.work.now.set c.args.work.now.last c.in-Some.give (sym c.fault.ensures ∙ c.in-Some.is)

pub returns-in-Some-clause-spent : goal.returns-in-Some-clause-spent
returns-in-Some-clause-spent c = λ unknown e.
    let same : c.in-Some.give ≡ gives.Spent unknown = cc in
    fault-spent c.args.level.now c.args.budget c.args.work.now unknown c.requires.settled
    (sym c.fault.ensures ∙ (c.in-Some.is ∙ ap (λ (g : Give). Some g) same))

pub returns-in-Some-clause-again : goal.returns-in-Some-clause-again
returns-in-Some-clause-again c = λ give e.
    let last = fault-last c.args.level.now c.args.budget c.args.work.now.set c.args.work.now.last c.in-Some.give (sym c.fault.ensures ∙ c.in-Some.is) in
    let both : Gave c.in-Some.give ≡ Gave give = sym last ∙ e in
    let same : c.in-Some.give ≡ give = cc in
    ap (λ (g : Give). Err g) same

pub fresh_answer-requires-clause-asked : goal.fresh_answer-requires-clause-asked
fresh_answer-requires-clause-asked c =
    c.requires.settled.asked c.requires.asked
    ((no_fault c.args.level.now c.args.budget c.args.work.now.set c.args.work.now.last (sym c.fault.ensures ∙ c.in-None.is)).0)

pub returns-in-None-clause-again : goal.returns-in-None-clause-again
returns-in-None-clause-again c = λ give e.
    absurd
    ((no_fault c.args.level.now c.args.budget c.args.work.now.set c.args.work.now.last (sym c.fault.ensures ∙ c.in-None.is)).1 give e)

pub returns-in-Some-clause-learned : goal.returns-in-Some-clause-learned
returns-in-Some-clause-learned c = learned-self c.args.level.now c.args.work.now.search c.args.work.now.nogoods

pub returns-in-None-clause-learned : goal.returns-in-None-clause-learned
returns-in-None-clause-learned c = c.fresh_answer.ensures.learned
