use Rattle.std.proofs.Common.{ℕ, ◌<◌, Bool, length, arith}
use Rattle.std.specs.List.{list_any}
use Rattle.asp_bits.specs.Places.{true_places}
use Rattle.asp_defs.specs.Bounds.{counts}
use Rattle.cube_tests.proofs.Counts.{counted-in, counted-out}
use Rattle.cube_tests.proofs.meeting.count_of.Goals as goal
use Rattle.cube_tests.proofs.meeting.count_of.Goals.{then-is_counted, else-is_counted}

pub loop-atom-preserved : goal.loop-atom-preserved
loop-atom-preserved c =
    let p : ℕ → Bool = λ a. list_any (counts (true_places c.args.set.now) a) c.args.terms.now in
    let low : c.loop-atom.atom < length c.args.set.now = omega arith in
    elim c.if-is_counted.branch [
      | then-is_counted w ↦ (
        counted-in p c.args.set.now c.loop-atom.atom c.loop-atom.count _ c.is_counted.result low c.is_counted.ensures c.loop-atom.invariant.0 w.if-is_counted.true w.count-is,
        omega (arith, w.count-is, c.loop-atom.invariant.1),
      )
      | else-is_counted w ↦ (
        counted-out p c.args.set.now c.loop-atom.atom c.loop-atom.count _ c.is_counted.result low c.is_counted.ensures c.loop-atom.invariant.0 w.if-is_counted.false w.count-is,
        omega (arith, w.count-is, c.loop-atom.invariant.1),
      )
    ]
