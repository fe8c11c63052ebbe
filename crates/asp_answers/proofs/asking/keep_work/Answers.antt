use Rattle.std.proofs.Common.{◌∙◌, ap}
use Rattle.asp_answers.specs.Works.{refused_by}
use Rattle.asp_answers.proofs.AskedFacts.{kept-state, uncubed-state, settled-uncubed}
use Rattle.asp_answers.proofs.asking.keep_work.Goals as goal

pub returns-in-Ok-clause-settled : goal.returns-in-Ok-clause-settled
returns-in-Ok-clause-settled c = c.in-Ok.ensures.settled

pub returns-in-Ok-clause-kept : goal.returns-in-Ok-clause-kept
returns-in-Ok-clause-kept c =
    kept-state c.args.level.now c.args.budget 0 0 c.args.work.now c.keep_cube.new.work c.in-Ok.ensures.outer c.in-Ok.ensures.region
    c.in-Ok.ensures.ordered c.args.cube.now c.in-Ok.ensures.more c.in-Ok.ensures.set c.in-Ok.ensures.last c.in-Ok.ensures.blocked

pub returns-in-Err-clause-settled : goal.returns-in-Err-clause-settled
returns-in-Err-clause-settled c =
    settled-uncubed c.args.level.now c.args.budget (record c.keep_cube.new.work { last = c.refused-work.result }) c.keep_cube.new.work.last
    c.in-Err.ensures.settled.serves c.refused-work.ensures

pub returns-in-Err-clause-no_memory : goal.returns-in-Err-clause-no_memory
returns-in-Err-clause-no_memory c =
    uncubed-state c.args.level.now c.args.budget 0 0 c.args.work.now (record c.keep_cube.new.work { last = c.refused-work.result })
    c.in-Err.ensures.outer c.in-Err.ensures.region c.in-Err.ensures.ordered c.in-Err.ensures.kept c.in-Err.ensures.blocked
    (c.refused-work.ensures ∙ ap refused_by c.in-Err.ensures.last)

pub returns-in-Ok-clause-placed : goal.returns-in-Ok-clause-placed
returns-in-Ok-clause-placed c = c.in-Ok.ensures.placed

pub returns-in-Err-clause-placed : goal.returns-in-Err-clause-placed
returns-in-Err-clause-placed c = c.in-Err.ensures.placed

pub returns-in-Ok-clause-learned : goal.returns-in-Ok-clause-learned
returns-in-Ok-clause-learned c = c.in-Ok.ensures.learned

pub returns-in-Err-clause-learned : goal.returns-in-Err-clause-learned
returns-in-Err-clause-learned c = c.in-Err.ensures.learned
