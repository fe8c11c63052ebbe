use Rattle.asp_bits.specs.Places.{true_places}
use Rattle.asp_explain.proofs.Marking.{satisfied_after}
use Rattle.asp_explain.proofs.thinning.satisfy_by_few.Goals as goal

pub returns : goal.returns
returns c =
    satisfied_after (true_places c.args.outer.now) (true_places c.args.set.now) c.args.rules.now c.args.marks.now c.keep_singles.new.marks c.satisfy_in_turn.new.marks c.satisfy-2.new.marks
    c.keep_singles.ensures c.satisfy_in_turn.ensures c.satisfy-2.ensures
