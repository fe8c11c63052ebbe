use Rattle.std.proofs.Common.{sym, ◌∙◌}
use Rattle.asp_bits.specs.Places.{true_places}
use Rattle.asp_reduct.proofs.Truths.{holds-read}
use Rattle.asp_least.proofs.FoundedAtoms.{left-head}
use Rattle.asp_least.proofs.heads.left_head.Goals as goal

pub returns-then-get : goal.returns-then-get
returns-then-get c =
    left-head (true_places c.args.set.now) (true_places c.args.left.now) c.args.rule.now c.as_slice.result.now c.in_ok-atom.atom
    c.as_slice.ensures (sym c.body_true.ensures ∙ c.if-not-body_true.false) c.in_ok-atom.ensures
    (holds-read c.args.left.now c.in_ok-atom.atom c.get.result c.get.ensures ∙ c.if-get.true)
