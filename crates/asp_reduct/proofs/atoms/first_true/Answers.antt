use Rattle.std.proofs.Common.{◌∙◌}
use Rattle.asp_bits.specs.Places.{true_places}
use Rattle.asp_defs.specs.Interpretations.{holds}
use Rattle.asp_reduct.proofs.Truths.{holds-read}
use Rattle.asp_reduct.proofs.Finding.{find_more, find_stop}
use Rattle.asp_reduct.proofs.atoms.first_true.Goals as goal

pub returns-then-get : goal.returns-then-get
returns-then-get c =
    find_stop (holds (true_places c.args.set.now)) c.args.atoms.now c.loop-atom.atom-index 0 c.loop-atom-test.true
    c.loop-atom.invariant
    (holds-read c.args.set.now _ c.get.result c.get.ensures ∙ c.if-get.true)

pub loop-atom-preserved : goal.loop-atom-preserved
loop-atom-preserved c =
    find_more (holds (true_places c.args.set.now)) c.args.atoms.now c.loop-atom.atom-index 0 c.loop-atom-test.true
    c.loop-atom.invariant
    (holds-read c.args.set.now _ c.get.result c.get.ensures ∙ c.if-get.false)
