use Rattle.std.proofs.Common.{◌∙◌}
use Rattle.asp_bits.specs.Places.{true_places}
use Rattle.asp_least.proofs.FoundedAtoms.{more-none, more-then}
use Rattle.asp_least.proofs.founding.found_all.Goals as goal

pub loop-init : goal.loop-init
loop-init c = more-none (true_places c.args.set.now) c.args.rules.now c.args.left.now

pub take_turn-requires-clause-left : goal.take_turn-requires-clause-left
take_turn-requires-clause-left c = c.loop.invariant.as_many ∙ c.requires.left

pub loop-preserved : goal.loop-preserved
loop-preserved c =
    more-then (true_places c.args.set.now) c.args.rules.now c.args.left.now c.loop.left c.take_turn.new.left c.loop.invariant c.take_turn.ensures

pub returns-in_err-take_turn : goal.returns-in_err-take_turn
returns-in_err-take_turn c =
    more-then (true_places c.args.set.now) c.args.rules.now c.args.left.now c.loop.left c.take_turn.new.left c.loop.invariant c.take_turn.ensures
