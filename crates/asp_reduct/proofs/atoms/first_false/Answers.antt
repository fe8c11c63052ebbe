use Rattle.std.proofs.Common.{not, ap, ◌∙◌}
use Rattle.asp_bits.specs.Places.{true_places}
use Rattle.asp_defs.specs.Interpretations.{holds}
use Rattle.asp_reduct.proofs.Truths.{holds-read}
use Rattle.asp_reduct.proofs.Finding.{find_more, find_stop}
use Rattle.asp_reduct.proofs.atoms.first_false.Goals as goal

pub returns-then-not-get : goal.returns-then-not-get
returns-then-not-get c =
    find_stop (λ a. not (holds (true_places c.args.set.now) a)) c.args.atoms.now c.loop-atom.atom-index 0 c.loop-atom-test.true
    c.loop-atom.invariant
    (ap not (holds-read c.args.set.now _ c.get.result c.get.ensures ∙ c.if-not-get.true))

pub loop-atom-preserved : goal.loop-atom-preserved
loop-atom-preserved c =
    find_more (λ a. not (holds (true_places c.args.set.now) a)) c.args.atoms.now c.loop-atom.atom-index 0 c.loop-atom-test.true
    c.loop-atom.invariant
    (ap not (holds-read c.args.set.now _ c.get.result c.get.ensures ∙ c.if-not-get.false))
