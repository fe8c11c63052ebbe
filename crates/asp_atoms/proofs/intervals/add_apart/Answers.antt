use Rattle.std.proofs.Common.{◌∙◌, ap, arith, Vec, Global}
use Rattle.std.proofs.lemmas.Int.{ints, clamps}
use Rattle.asp_atoms.specs.declared.intervals.Interval.{Interval}
use Rattle.asp_atoms.proofs.Loops.{taken, skipped}
use Rattle.asp_atoms.proofs.intervals.add_apart.Goals.{then-low-high+in_ok-push, else-low-high}
use Rattle.asp_atoms.proofs.intervals.add_apart.Goals as goal

pub returns-clause-added : goal.returns-clause-added
returns-clause-added c =
    let m = c.max-low.ensures.value in
    let f = c.from.ensures in
    let g = c.from-high.ensures in
    elim c.if-low-high.branch [
      | then-low-high+in_ok-push w ↦
          let t = w.if-low-high.true in
          taken c.args.out.now.items c.if-low-high.out.items c.args.free c.args.interval _ _
          (omega (arith, ints, clamps, m, f, g, t)) (omega (arith, ints, g)) (omega (arith, ints, clamps, m, f, g, t))
          (ap (λ (v : Vec Interval Global). v.items) w.out-is ∙ w.in_ok-push.ensures.items)
      | else-low-high w ↦
          let t = w.if-low-high.false in
          skipped c.args.out.now.items c.if-low-high.out.items c.args.free c.args.interval
          (omega (arith, ints, clamps, m, f, g, t)) (ap (λ (v : Vec Interval Global). v.items) w.out-is)
    ]

pub returns-clause-free : goal.returns-clause-free
returns-clause-free c =
    let m = c.max.ensures.value in
    let f = c.from-high.ensures in
    omega (arith, ints, clamps, m, f)
