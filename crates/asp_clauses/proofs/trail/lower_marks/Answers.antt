use Rattle.std.proofs.Common.{◌-◌, arith, refl}
use Rattle.asp_clauses.specs.Trail.{mark_at}
use Rattle.asp_clauses.proofs.MarkLemmas.{LoweredFrom-none, LoweredFrom-more}
use Rattle.asp_clauses.proofs.trail.lower_marks.Goals as goal

pub loop-level-preserved : goal.loop-level-preserved
loop-level-preserved c = LoweredFrom-more c.args.marks.now c.loop-level.marks c.args.count c.args.visit c.loop-level.level (mark_at c.loop-level.marks (c.loop-level.level - 1)) (omega (arith, c.requires.within, c.loop-level.auto.marks)) c.loop-level-test.true c.loop-level.invariant refl c.if-marks-level.true

pub loop-level-init : goal.loop-level-init
loop-level-init c = LoweredFrom-none c.args.marks.now c.args.count c.args.visit
