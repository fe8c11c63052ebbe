use Rattle.std.proofs.Common.{sym, ◌∙◌, arith}
use Rattle.asp_bits.specs.Places.{true_places}
use Rattle.cube_tests.proofs.MoveLaws.{within-more, within-all}
use Rattle.cube_tests.proofs.answering.is_within.Goals as goal

pub loop-atom-preserved : goal.loop-atom-preserved
loop-atom-preserved c =
    within-more (true_places c.args.set.now) (true_places c.args.other.now) c.loop-atom.atom
    (sym c.is_lacking.ensures ∙ c.if-is_lacking.false) c.loop-atom.invariant

pub returns : goal.returns
returns c =
    λ _. within-all c.args.set.now (true_places c.args.other.now) c.loop-atom.atom (omega arith) c.loop-atom.invariant
