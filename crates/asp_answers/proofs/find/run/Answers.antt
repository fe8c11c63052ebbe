use Rattle.std.proofs.Common.{inl}
use Rattle.asp_answers.proofs.Steps.{run-begun, asked-on}
use Rattle.asp_answers.proofs.Recording.{learned-on}
use Rattle.asp_answers.proofs.find.run.Goals as goal

pub returns-clause-asked : goal.returns-clause-asked
returns-clause-asked c = λ l budget ready asked.
    asked-on l ready budget c.args.work.now asked c.next.new.self c.args.work.now.set c.next.ensures.goes_on
    (run-begun c.next.result c.next.new.self.stage c.next.ensures.stage_found c.next.ensures.stage_core c.next.ensures.stage_spent
    c.next.ensures.stage_no_memory)
    c.next.ensures.ordered
    asked.set_places asked.set_inside

pub returns-clause-ran : goal.returns-clause-ran
returns-clause-ran c = record {
  same = c.next.ensures.goes_on.clauses;
  found = λ e. (c.next.ensures.found e, inl (c.next.ensures.stage_found e));
  core = c.next.ensures.core;
  spent = λ e. (c.next.ensures.spent e, c.next.ensures.few);
  count = c.next.ensures.goes_on.count;
}

pub returns-clause-learned : goal.returns-clause-learned
returns-clause-learned c = λ l. learned-on l c.args.work.now.search c.next.new.self c.args.work.now.nogoods c.next.ensures.goes_on
