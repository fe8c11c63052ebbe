use Rattle.std.proofs.Common.{true, refl}
use Rattle.asp_bits.specs.Places.{true_places}
use Rattle.asp_defs.specs.Games.{rule_atoms}
use Rattle.asp_explain.proofs.Marking.{nothing_new, few_rule}
use Rattle.asp_explain.proofs.thinning.keep_single.Goals as goal

pub returns-then-not-is_single : goal.returns-then-not-is_single
returns-then-not-is_single c = nothing_new (λ C r. true) rule_atoms (true_places c.args.outer.now) c.args.rule.now c.args.marks.now c.args.marks.now refl refl

pub returns : goal.returns
returns c =
    few_rule (true_places c.args.outer.now) c.args.rule.now c.as_slice.result.now c.as_slice-2.result.now c.as_slice-3.result.now
    c.args.marks.now c.mark_chosen.new.marks c.mark_chosen-2.new.marks c.mark_chosen-3.new.marks
    c.as_slice.ensures c.as_slice-2.ensures c.as_slice-3.ensures c.mark_chosen.ensures c.mark_chosen-2.ensures c.mark_chosen-3.ensures
