use Rattle.std.proofs.Common.{◌&&◌, sym, ◌∙◌}
use Rattle.std.proofs.lemmas.Bool.{or_from}
use Rattle.std.proofs.lemmas.List.Folds.{list_any_at, list_any_more}
use Rattle.asp_bits.specs.Places.{true_places}
use Rattle.asp_defs.specs.Interpretations.{holds}
use Rattle.asp_defs.specs.History.{agrees}
use Rattle.asp_explain.specs.Resting.{is_known}
use Rattle.asp_explain.proofs.known.has_known.Goals as goal

pub returns-then-is_known_as : goal.returns-then-is_known_as
returns-then-is_known_as c =
    sym (list_any_at (λ a. agrees c.args.truth (holds (true_places c.args.set.now) a) && is_known (true_places c.args.outer.now) (true_places c.args.marks.now) a) c.args.atoms.now c.loop-atom.atom-index 0 c.loop-atom-test.true
    (sym c.is_known_as.ensures ∙ c.if-is_known_as.true))

pub loop-atom-preserved : goal.loop-atom-preserved
loop-atom-preserved c =
    list_any_more (λ a. agrees c.args.truth (holds (true_places c.args.set.now) a) && is_known (true_places c.args.outer.now) (true_places c.args.marks.now) a) c.args.atoms.now c.loop-atom.atom-index 0 c.loop-atom-test.true
    ∙ or_from _ _ c.loop-atom.invariant (sym c.is_known_as.ensures ∙ c.if-is_known_as.false)
