use Rattle.std.proofs.Common.{◌∙◌}
use Rattle.asp_bits.specs.Places.{true_places}
use Rattle.asp_reduct.proofs.Truths.{holds-read}
use Rattle.asp_bounds.proofs.Counting.{reason-atom, reason-pos, reason-neg, counted_without}
use Rattle.asp_bounds.proofs.terms.reason.Goals as goal

pub returns-then-not-get : goal.returns-then-not-get
returns-then-not-get c =
    reason-atom (true_places c.args.set.now) c.args.term.now (holds-read c.args.set.now _ c.get.result c.get.ensures ∙ c.if-not-get.true)

pub returns-in-Some : goal.returns-in-Some
returns-in-Some c =
    reason-pos (true_places c.args.set.now) c.args.term.now c.as_slice.result.now c.in-Some.atom c.as_slice.ensures c.in-Some.ensures

pub returns-in-Some-first_true : goal.returns-in-Some-first_true
returns-in-Some-first_true c =
    reason-neg (true_places c.args.set.now) c.args.term.now c.as_slice-2.result.now c.in-Some-first_true.atom c.as_slice-2.ensures
    c.in-Some-first_true.ensures

pub returns : goal.returns
returns c =
    counted_without (true_places c.args.set.now) c.args.term.now c.as_slice.result.now c.as_slice-2.result.now
    (holds-read c.args.set.now _ c.get.result c.get.ensures ∙ c.if-not-get.false) c.as_slice.ensures c.as_slice-2.ensures
    c.in_default.ensures c.in_default-first_true.ensures
