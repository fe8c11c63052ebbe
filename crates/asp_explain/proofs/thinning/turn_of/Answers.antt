use Rattle.std.proofs.Common.{length, arith}
use Rattle.asp_bits.specs.Places.{true_places}
use Rattle.asp_explain.proofs.Deriving.{witness-below}
use Rattle.asp_explain.proofs.thinning.turn_of.Goals as goal

pub lateness-requires-clause-atom : goal.lateness-requires-clause-atom
lateness-requires-clause-atom c =
    omega (arith, witness-below (true_places c.args.set.now) c.args.rule.now c.in_ok-atom.atom (length c.args.outer.now) c.requires.below c.in_ok-atom.ensures, c.requires.kept)
