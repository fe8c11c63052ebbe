use Rattle.std.proofs.Common.{◌∙◌}
use Rattle.asp_bits.specs.Places.{true_places}
use Rattle.asp_explain.proofs.FoundedAtoms.{more_none, more_then}
use Rattle.asp_explain.proofs.founding.found_atoms.Goals as goal

pub loop-init : goal.loop-init
loop-init c = more_none (true_places c.args.outer.now) (true_places c.args.set.now) c.args.rules.now c.args.marks.now c.args.founded.now

pub take_turn-requires-clause-marks : goal.take_turn-requires-clause-marks
take_turn-requires-clause-marks c = c.loop.invariant.marks_some.as_many ∙ c.requires.marks

pub take_turn-requires-clause-founded : goal.take_turn-requires-clause-founded
take_turn-requires-clause-founded c = c.loop.invariant.as_many ∙ c.requires.founded

pub loop-preserved : goal.loop-preserved
loop-preserved c =
    more_then (true_places c.args.outer.now) (true_places c.args.set.now) c.args.rules.now c.args.marks.now c.args.founded.now c.loop.marks c.loop.founded
    c.take_turn.new.marks c.take_turn.new.founded c.loop.invariant c.take_turn.ensures
