use Rattle.std.proofs.Common.{length, arith}
use Rattle.asp_bits.specs.Places.{true_places}
use Rattle.asp_explain.proofs.FoundedAtoms.{read_rule, place-below}
use Rattle.asp_explain.proofs.Marking.{few_none, few_of}
use Rattle.asp_explain.proofs.Deriving.{satisfied-at}
use Rattle.asp_explain.proofs.thinning.satisfy_place.Goals as goal

pub satisfy_rule-requires-clause-below : goal.satisfy_rule-requires-clause-below
satisfy_rule-requires-clause-below c =
    place-below c.args.rules.now c.args.place (length c.args.outer.now) c.index-rules-place.result c.requires.below (omega arith) c.index-rules-place.is

pub satisfy_rule-requires-clause-satisfied : goal.satisfy_rule-requires-clause-satisfied
satisfy_rule-requires-clause-satisfied c =
    satisfied-at (true_places c.args.set.now) c.args.rules.now c.index-rules-place.result c.requires.satisfied
    (read_rule c.args.rules.now c.args.place c.index-rules-place.result (omega arith) c.index-rules-place.is)

pub returns-then-place-rules : goal.returns-then-place-rules
returns-then-place-rules c =
    few_of (true_places c.args.outer.now) (true_places c.args.set.now) c.args.rules.now c.index-rules-place.result c.args.marks.now c.satisfy_rule.new.marks
    (read_rule c.args.rules.now c.args.place c.index-rules-place.result (omega arith) c.index-rules-place.is) c.satisfy_rule.ensures

pub returns-else-place-rules : goal.returns-else-place-rules
returns-else-place-rules c = few_none (true_places c.args.outer.now) c.args.rules.now c.args.marks.now
