use Rattle.std.proofs.Common.{arith}
use Rattle.asp_minimal.proofs.Lone.{place_true, none_before, none_at_all}
use Rattle.asp_minimal.proofs.alone.first_place.Goals as goal

pub returns-then-get : goal.returns-then-get
returns-then-get c = place_true c.args.bits.now c.loop-place.place c.get.result c.get.ensures c.if-get.true

pub loop-place-preserved : goal.loop-place-preserved
loop-place-preserved c = none_before c.args.bits.now c.loop-place.place c.get.result c.loop-place.invariant c.get.ensures c.if-get.false

pub returns : goal.returns
returns c = none_at_all c.args.bits.now c.loop-place.place (omega arith) c.loop-place.invariant
