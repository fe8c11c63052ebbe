use Rattle.std.proofs.Common.{length, sym, ◌∙◌, arith}
use Rattle.asp_bits.specs.Places.{true_places}
use Rattle.asp_eval.proofs.Choosing.{false_below, covers_by}
use Rattle.asp_eval.proofs.covering.cover_rule.Goals as goal

pub set-requires : goal.set-requires
set-requires c =
    omega (arith, false_below (true_places c.args.set.now) c.args.rule.now c.in-Some.atom (length c.args.set.now) c.requires.below c.in-Some.ensures, c.requires.chosen)

pub returns-in-Some : goal.returns-in-Some
returns-in-Some c =
    covers_by (true_places c.args.outer.now) (true_places c.args.set.now) c.args.rule.now c.in-Some.atom (length c.args.set.now) c.args.chosen.now c.set.new.self
    c.requires.chosen c.requires.below c.requires.inside (sym c.is_covered.ensures ∙ c.if-is_covered.false) c.in-Some.ensures c.set.ensures
