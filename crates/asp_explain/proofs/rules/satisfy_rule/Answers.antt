use Rattle.std.proofs.Common.{length, refl, sym, ◌∙◌}
use Rattle.asp_bits.specs.Places.{true_places}
use Rattle.asp_explain.proofs.Deriving.{rule_safe, rule_satisfied, rule_chosen, witness-below}
use Rattle.asp_explain.proofs.Marking.{marks-atoms}
use Rattle.asp_explain.proofs.rules.satisfy_rule.Goals as goal

pub returns-then-is_safe : goal.returns-then-is_safe
returns-then-is_safe c =
    rule_safe (true_places c.args.outer.now) (true_places c.args.set.now) c.args.rule.now c.args.marks.now c.args.marks.now refl (sym c.is_safe.ensures ∙ c.if-is_safe.true)

pub mark-requires-clause-below : goal.mark-requires-clause-below
mark-requires-clause-below c =
    witness-below (true_places c.args.set.now) c.args.rule.now c.in-Some.atom (length c.args.outer.now) c.requires.below c.in-Some.ensures

pub returns-in-Some : goal.returns-in-Some
returns-in-Some c =
    rule_satisfied (true_places c.args.outer.now) (true_places c.args.set.now) c.args.rule.now c.in-Some.atom c.args.marks.now c.mark.new.marks c.in-Some.ensures (marks-atoms (true_places c.args.outer.now) c.mark.ensures)

pub returns-in_default : goal.returns-in_default
returns-in_default c =
    rule_chosen (true_places c.args.outer.now) (true_places c.args.set.now) c.args.rule.now c.args.marks.now c.args.marks.now refl c.in_default.ensures c.requires.satisfied
