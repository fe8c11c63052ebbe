use Rattle.std.proofs.Common.{◌<◌, arith}
use Rattle.std.proofs.lemmas.Int.{ints}
use Rattle.asp_defs.specs.Constants.{interval_length}
use Rattle.asp_atoms.proofs.Integers.{in_range}
use Rattle.asp_atoms.proofs.Loops.{listed_more}
use Rattle.asp_atoms.proofs.intervals.add_integers.Goals as goal

pub loop-step-preserved : goal.loop-step-preserved
loop-step-preserved c =
    let n = c.integers_in-step-end.ensures in
    let t = c.loop-step-test.true in
    let h : c.loop-step.step < interval_length c.args.interval.low c.args.interval.high = omega (arith, n, t) in
    let r = in_range c.args.interval.low c.args.interval.high c.loop-step.step h in
    let i = c.type_inv.interval in
    let e = c.stepped-value.ensures in
    listed_more c.args.out.now.items c.loop-step.out.items c.push.new.self.items c.args.interval.low c.loop-step.step _
    c.in_ok-push.ensures.items c.loop-step.invariant (omega (arith, ints, e, r, i))
