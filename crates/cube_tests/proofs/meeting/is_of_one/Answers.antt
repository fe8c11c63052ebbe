use Rattle.std.proofs.Common.{sym, ap, ◌∙◌}
use Rattle.std.proofs.lemmas.Bool.{or_from}
use Rattle.std.proofs.lemmas.List.Folds.{list_any_at, list_any_more}
use Rattle.asp_bits.specs.Places.{true_places}
use Rattle.asp_defs.specs.Bounds.{counts}
use Rattle.cube_tests.proofs.meeting.is_of_one.Goals as goal

pub returns-then-is_of : goal.returns-then-is_of
returns-then-is_of c =
    sym (list_any_at (counts (true_places c.args.set.now) c.args.atom) c.args.terms.now c.loop-term.term-index c.term-item.result c.loop-term-test.true
    (sym (ap (counts (true_places c.args.set.now) c.args.atom) c.term-item.is) ∙ (sym c.is_of.ensures ∙ c.if-is_of.true)))

pub loop-term-preserved : goal.loop-term-preserved
loop-term-preserved c =
    list_any_more (counts (true_places c.args.set.now) c.args.atom) c.args.terms.now c.loop-term.term-index c.term-item.result c.loop-term-test.true
    ∙ or_from _ _ c.loop-term.invariant
    (sym (ap (counts (true_places c.args.set.now) c.args.atom) c.term-item.is) ∙ (sym c.is_of.ensures ∙ c.if-is_of.false))
