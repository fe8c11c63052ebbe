use Rattle.asp_bits.specs.Places.{true_places}
use Rattle.asp_explain.proofs.Deriving.{rule_marked}
use Rattle.asp_explain.proofs.Marking.{marks-atoms}
use Rattle.asp_explain.proofs.rules.mark_rule.Goals as goal

pub returns : goal.returns
returns c =
    rule_marked (true_places c.args.outer.now) c.args.rule.now c.as_slice.result.now c.as_slice-2.result.now c.as_slice-3.result.now
    c.args.marks.now c.mark_all.new.marks c.mark_all-2.new.marks c.mark_all-3.new.marks
    c.as_slice.ensures c.as_slice-2.ensures c.as_slice-3.ensures (marks-atoms (true_places c.args.outer.now) c.mark_all.ensures) (marks-atoms (true_places c.args.outer.now) c.mark_all-2.ensures) (marks-atoms (true_places c.args.outer.now) c.mark_all-3.ensures)
