use Rattle.std.proofs.Common.{refl}
use Rattle.asp_bits.specs.Places.{true_places}
use Rattle.std.specs.Prelude.{Some}
use Rattle.asp_entry.proofs.Taking.{took, passed_by, taken_read, passed_read}
use Rattle.asp_entry.proofs.preferences.earlier_of_truth.Goals as goal

pub returns-then-get-truth : goal.returns-then-get-truth
returns-then-get-truth c =
    took (true_places c.args.set.now) c.args.truth c.args.atom c.earlier.result c.args.best (Some c.earlier.result)
    (taken_read c.args.set.now c.args.truth c.get.result c.args.atom c.get.ensures c.if-get-truth.true) c.earlier.ensures refl

pub returns : goal.returns
returns c =
    passed_by (true_places c.args.set.now) c.args.truth c.args.atom c.args.best c.args.best
    (passed_read c.args.set.now c.args.truth c.get.result c.args.atom c.get.ensures c.if-get-truth.false) refl
