use Rattle.std.proofs.Common.{sym, ◌∙◌}
use Rattle.std.proofs.lemmas.Bool.{and_from}
use Rattle.std.proofs.lemmas.List.Folds.{list_all_at, list_all_more}
use Rattle.asp_bits.specs.Places.{true_places}
use Rattle.asp_defs.specs.Interpretations.{holds}
use Rattle.asp_reduct.proofs.Truths.{holds-read}
use Rattle.cube_tests.proofs.meeting.all_true.Goals as goal

pub returns-then-not-get : goal.returns-then-not-get
returns-then-not-get c =
    sym (list_all_at (holds (true_places c.args.set.now)) c.args.atoms.now c.loop-atom.atom-index 0 c.loop-atom-test.true
    (holds-read c.args.set.now _ c.get.result c.get.ensures ∙ c.if-not-get.true))

pub loop-atom-preserved : goal.loop-atom-preserved
loop-atom-preserved c =
    list_all_more (holds (true_places c.args.set.now)) c.args.atoms.now c.loop-atom.atom-index 0 c.loop-atom-test.true
    ∙ and_from _ _ c.loop-atom.invariant
    (holds-read c.args.set.now _ c.get.result c.get.ensures ∙ c.if-not-get.false)
