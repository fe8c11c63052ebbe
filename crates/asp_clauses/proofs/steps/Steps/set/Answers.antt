use Rattle.asp_clauses.proofs.StepTableLemmas.{step_written}
use Rattle.asp_clauses.proofs.steps.Steps.set.Goals as goal

pub returns : goal.returns
returns c = step_written c.self.inside.items.items c.args.self.now c.args.place c.reason_word.result c.args.step c.self.view_is c.reason_word.ensures c.requires.number
