use Rattle.std.proofs.Common.{length, arith}
use Rattle.asp_bits.specs.Places.{true_places}
use Rattle.asp_eval.proofs.Choosing.{false_below}
use Rattle.asp_eval.proofs.thinning.turn_of.Goals as goal

pub lateness-requires-clause-atom : goal.lateness-requires-clause-atom
lateness-requires-clause-atom c =
    omega (arith, false_below (true_places c.args.set.now) c.args.rule.now c.in_ok-atom.atom (length c.args.set.now) c.requires.below c.in_ok-atom.ensures, c.requires.kept)
