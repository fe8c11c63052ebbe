use Rattle.std.proofs.Common.{ℕ, ◌+◌, ◌∙◌, refl, ap, pos, get_or, arith}
use Rattle.asp_atoms.specs.Counts.{shown}
use Rattle.asp_atoms.specs.Universes.{between}
use Rattle.asp_atoms.proofs.Loops.{count_more}
use Rattle.asp_atoms.proofs.intervals.count_integers.Goals as goal

pub loop-interval-preserved : goal.loop-interval-preserved
loop-interval-preserved c =
    count_more c.args.intervals.now c.loop-interval.interval-index (get_or c.args.intervals.now c.loop-interval.interval-index (between (pos 0) (pos 0))) (between (pos 0) (pos 0)) (omega arith) refl
    c.loop-interval.count c.sum-count.result c.loop-interval.invariant
    (c.sum-count.ensures ∙ ap (λ (n : ℕ). shown (c.loop-interval.count + n)) c.integers_in.ensures)
