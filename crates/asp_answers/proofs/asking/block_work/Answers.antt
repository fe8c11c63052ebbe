use Rattle.std.proofs.Common.{◌∙◌, refl}
use Rattle.asp_answers.specs.declared.work.Answered.TheVariants as answered
use Rattle.asp_answers.proofs.AskedFacts.{settled-found, settled-refused, blocked-state, refused-state}
use Rattle.asp_answers.proofs.asking.block_work.Goals as goal

pub returns-in-Ok-clause-settled : goal.returns-in-Ok-clause-settled
returns-in-Ok-clause-settled c =
    settled-found c.args.level.now c.args.budget c.block_cube.new.work c.in-Ok.ensures.asked (c.in-Ok.ensures.last ∙ c.requires.found)

pub returns-in-Ok-clause-blocked : goal.returns-in-Ok-clause-blocked
returns-in-Ok-clause-blocked c =
    blocked-state c.args.level.now c.args.budget 0 0 c.args.work.now c.block_cube.new.work c.in-Ok.ensures.outer c.in-Ok.ensures.region
    c.in-Ok.ensures.ordered c.args.cube.now c.in-Ok.ensures.kept c.in-Ok.ensures.set c.in-Ok.ensures.last c.in-Ok.ensures.more

pub returns-in-Err-clause-settled : goal.returns-in-Err-clause-settled
returns-in-Err-clause-settled c =
    settled-refused c.args.level.now c.args.budget (record c.block_cube.new.work { last = answered.NoMemory }) c.in-Err.ensures.serves refl

pub returns-in-Err-clause-no_memory : goal.returns-in-Err-clause-no_memory
returns-in-Err-clause-no_memory c =
    refused-state c.args.level.now c.args.budget 0 0 c.args.work.now (record c.block_cube.new.work { last = answered.NoMemory })
    c.in-Err.ensures.outer c.in-Err.ensures.region c.in-Err.ensures.ordered c.in-Err.ensures.kept c.in-Err.ensures.blocked refl

pub returns-in-Ok-clause-placed : goal.returns-in-Ok-clause-placed
returns-in-Ok-clause-placed c = c.in-Ok.ensures.placed

pub returns-in-Err-clause-placed : goal.returns-in-Err-clause-placed
returns-in-Err-clause-placed c = c.in-Err.ensures.placed

pub returns-in-Ok-clause-learned : goal.returns-in-Ok-clause-learned
returns-in-Ok-clause-learned c = c.in-Ok.ensures.learned

pub returns-in-Err-clause-learned : goal.returns-in-Err-clause-learned
returns-in-Err-clause-learned c = c.in-Err.ensures.learned
