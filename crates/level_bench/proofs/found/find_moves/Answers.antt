use Rattle.asked_moves.proofs.Moving.{asked_then, base_then}
use Rattle.level_bench.proofs.found.find_moves.Goals as goal

pub step-requires-clause-base : goal.step-requires-clause-base
step-requires-clause-base c = base_then c.args.answers.now.moves c.loop.answers.moves c.args.base.now c.requires.base c.loop.invariant

pub step-requires-clause-asked : goal.step-requires-clause-asked
step-requires-clause-asked c = c.loop.invariant.asked

pub loop-preserved : goal.loop-preserved
loop-preserved c = asked_then c.args.answers.now.moves c.loop.answers.moves c.step.new.answers.moves c.loop.invariant c.in_ok-end.ensures
