use Rattle.std.proofs.Common.{length}
use Rattle.asp_bits.specs.Places.{true_places}
use Rattle.asp_eval.proofs.Choosing.{covering_is}
use Rattle.asp_eval.proofs.thinning.covering_atoms.Goals as goal

pub returns : goal.returns
returns c =
    covering_is (true_places c.args.outer.now) (true_places c.args.set.now) c.args.rules.now (length c.args.set.now) _ c.in_ok-chosen.chosen c.cover.new.chosen
    c.in_ok-thinned.thinned c.cover-2.new.chosen c.in_ok-chosen.ensures c.cover.ensures c.in_ok-thinned.ensures c.cover-2.ensures
