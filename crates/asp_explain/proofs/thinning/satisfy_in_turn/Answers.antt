use Rattle.asp_bits.specs.Places.{true_places}
use Rattle.asp_explain.proofs.Marking.{few_none, few_then}
use Rattle.asp_explain.proofs.thinning.satisfy_in_turn.Goals as goal

pub loop-at-init : goal.loop-at-init
loop-at-init c = few_none (true_places c.args.outer.now) c.args.rules.now c.args.marks.now

pub loop-at-preserved : goal.loop-at-preserved
loop-at-preserved c =
    few_then (true_places c.args.outer.now) c.args.rules.now c.args.marks.now c.loop-at.marks c.satisfy_place.new.marks c.loop-at.invariant c.satisfy_place.ensures
