use Rattle.std.proofs.Common.{length, arith}
use Rattle.asp_bits.specs.Places.{true_places}
use Rattle.asp_explain.proofs.FoundedAtoms.{more_of, read_rule, place-below}
use Rattle.asp_explain.proofs.founding.take_turn.Goals as goal

pub found_rule-requires-clause-below : goal.found_rule-requires-clause-below
found_rule-requires-clause-below c =
    place-below c.args.rules.now c.args.place (length c.args.outer.now) c.index-rules-place.result c.requires.below (omega arith) c.index-rules-place.is

pub returns-in-Some : goal.returns-in-Some
returns-in-Some c =
    more_of (true_places c.args.outer.now) (true_places c.args.set.now) c.args.rules.now c.index-rules-place.result c.args.marks.now c.args.founded.now
    c.found_rule.new.marks c.found_rule.new.founded (read_rule c.args.rules.now c.args.place c.index-rules-place.result (omega arith) c.index-rules-place.is) c.found_rule.ensures

pub returns-in-None : goal.returns-in-None
returns-in-None c =
    more_of (true_places c.args.outer.now) (true_places c.args.set.now) c.args.rules.now c.index-rules-place.result c.args.marks.now c.args.founded.now
    c.found_rule.new.marks c.found_rule.new.founded (read_rule c.args.rules.now c.args.place c.index-rules-place.result (omega arith) c.index-rules-place.is) c.found_rule.ensures
