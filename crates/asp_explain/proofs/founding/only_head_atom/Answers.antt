use Rattle.std.proofs.Common.{length, ◌∙◌, sym}
use Rattle.asp_bits.specs.Places.{true_places}
use Rattle.asp_reduct.proofs.Truths.{holds-read}
use Rattle.asp_explain.proofs.FoundedAtoms.{only-head, only-below}
use Rattle.asp_explain.proofs.founding.only_head_atom.Goals as goal

pub get-requires : goal.get-requires
get-requires c =
    only-below (true_places c.args.set.now) c.args.rule.now c.as_slice.result.now c.in_ok-atom.atom (length c.args.set.now) (length c.args.founded.now)
    c.as_slice.ensures c.in_ok-atom.ensures c.requires.below c.requires.founded

pub returns-then-no_other : goal.returns-then-no_other
returns-then-no_other c =
    only-head (true_places c.args.set.now) (true_places c.args.founded.now) c.args.rule.now c.as_slice.result.now c.as_slice-then-not-get.result.now c.in_ok-atom.atom
    c.as_slice.ensures c.as_slice-then-not-get.ensures c.in_ok-atom.ensures
    (holds-read c.args.founded.now c.in_ok-atom.atom c.get.result c.get.ensures ∙ c.if-not-get.true) (sym c.no_other.ensures ∙ c.if-no_other.true)
