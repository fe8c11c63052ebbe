use Rattle.std.proofs.Common.{◌∙◌, sym, ap}
use Rattle.asp_answers.specs.Works.{last_with}
use Rattle.asp_answers.proofs.Steps.{last-is, spent-after, serves-asked}
use Rattle.asp_answers.proofs.find.fresh_answer.Goals as goal

pub returns-clause-settled : goal.returns-clause-settled
returns-clause-settled c = record {
  serves = serves-asked c.args.level.now c.args.budget c.find-answer.new.work c.find-answer.ensures.asked;
  asked = λ put given. c.find-answer.ensures.asked;
  spent = λ k e.
      spent-after c.args.level.now c.args.budget c.find-answer.new.work.search c.find-answer.new.work.check c.find-answer.result
      c.find-answer.ensures.spent k (sym c.answered-work.ensures ∙ e);
}

pub returns-clause-outer : goal.returns-clause-outer
returns-clause-outer c = c.find-answer.ensures.kept.same_outer

pub returns-clause-region : goal.returns-clause-region
returns-clause-region c = c.find-answer.ensures.kept.same_region

pub returns-clause-ordered : goal.returns-clause-ordered
returns-clause-ordered c = c.find-answer.ensures.kept.same_order

pub returns-clause-blocked : goal.returns-clause-blocked
returns-clause-blocked c = c.find-answer.ensures.kept.same_blocked

pub returns-clause-last : goal.returns-clause-last
returns-clause-last c =
    let l = c.args.level.now in
    let set = c.find-answer.new.work.set in
    ap (last_with l c.args.budget set) c.answered-work.ensures
    ∙ last-is l c.args.budget set c.find-answer.result (λ s e. (c.find-answer.ensures.found s e).0)
    (λ u e. (c.find-answer.ensures.spent u e).is)

pub returns-clause-found : goal.returns-clause-found
returns-clause-found c = λ set e. (c.find-answer.ensures.found set e).1

pub returns-clause-first : goal.returns-clause-first
returns-clause-first c = c.find-answer.ensures.first

pub returns-clause-learned : goal.returns-clause-learned
returns-clause-learned c = c.find-answer.ensures.learned

pub returns-clause-kept : goal.returns-clause-kept
returns-clause-kept c = c.find-answer.ensures.kept.same_kept
