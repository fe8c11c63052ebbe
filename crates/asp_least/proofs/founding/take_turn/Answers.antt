use Rattle.std.proofs.Common.{length, arith}
use Rattle.asp_bits.specs.Places.{true_places}
use Rattle.asp_least.proofs.FoundedAtoms.{more-of, read-rule, place-below}
use Rattle.asp_least.proofs.founding.take_turn.Goals as goal

pub found_rule-requires-clause-below : goal.found_rule-requires-clause-below
found_rule-requires-clause-below c =
    place-below c.args.rules.now c.args.place (length c.args.set.now) c.index-rules-place.result c.requires.below (omega arith) c.index-rules-place.is

pub returns-in-Some : goal.returns-in-Some
returns-in-Some c =
    more-of (true_places c.args.set.now) c.args.rules.now c.index-rules-place.result c.args.left.now c.found_rule.new.left
    (read-rule c.args.rules.now c.args.place c.index-rules-place.result (omega arith) c.index-rules-place.is) c.found_rule.ensures

pub returns-in-None : goal.returns-in-None
returns-in-None c =
    more-of (true_places c.args.set.now) c.args.rules.now c.index-rules-place.result c.args.left.now c.found_rule.new.left
    (read-rule c.args.rules.now c.args.place c.index-rules-place.result (omega arith) c.index-rules-place.is) c.found_rule.ensures
