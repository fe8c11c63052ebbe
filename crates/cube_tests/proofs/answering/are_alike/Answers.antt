use Rattle.std.proofs.Common.{arith}
use Rattle.asp_bits.specs.Places.{true_places}
use Rattle.cube_tests.proofs.MoveLaws.{agree-none, agree-more, agree-all}
use Rattle.cube_tests.proofs.answering.are_alike.Goals as goal

pub loop-atom-init : goal.loop-atom-init
loop-atom-init c = agree-none (true_places c.args.first.now) (true_places c.args.second.now)

pub loop-atom-preserved : goal.loop-atom-preserved
loop-atom-preserved c =
    agree-more c.args.atoms.now c.loop-atom.atom-index 0 (true_places c.args.first.now) (true_places c.args.second.now) c.loop-atom-test.true
    c.loop-atom.invariant (c.is_alike.ensures c.if-not-is_alike.false)

pub returns : goal.returns
returns c =
    λ _. agree-all c.args.atoms.now c.loop-atom.atom-index (true_places c.args.first.now) (true_places c.args.second.now) (omega arith) c.loop-atom.invariant
