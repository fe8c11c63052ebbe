use Rattle.std.proofs.Common.{◌∙◌, arith}
use Rattle.asp_search.specs.Learned.{base_of}
use Rattle.asp_search.specs.Minimize.{MarksBelow}
use Rattle.asp_search.proofs.Minimizing.{MarksBelow-then, MarksBelow-new}
use Rattle.asp_search.proofs.minimize.mark_causes.Goals as goal
use Rattle.asp_search.proofs.minimize.mark_causes.Goals.{In-loop-place, In_ok-mark_antecedents-2}

-- what was marked up to this turn
so_far : (c : In-loop-place) → MarksBelow (base_of c.args.book.now c.args.levels.now.loose) c.args.trail.now.steps c.args.levels.now.top c.args.seen.now.marked c.loop-place.seen.marked
so_far c =
    MarksBelow-then (base_of c.args.book.now c.args.levels.now.loose) c.args.trail.now.steps c.args.levels.now.top c.args.seen.now.marked c.mark_antecedents.new.seen.marked c.loop-place.seen.marked c.in_ok-mark_antecedents.ensures.marks c.loop-place.invariant.1

after : (c : In_ok-mark_antecedents-2) → MarksBelow (base_of c.args.book.now c.args.levels.now.loose) c.args.trail.now.steps c.args.levels.now.top c.mark_antecedents.new.seen.marked c.mark_antecedents-in-loop-place.new.seen.marked
after c =
    MarksBelow-then (base_of c.args.book.now c.args.levels.now.loose) c.args.trail.now.steps c.args.levels.now.top c.mark_antecedents.new.seen.marked c.loop-place.seen.marked c.mark_antecedents-in-loop-place.new.seen.marked c.loop-place.invariant.1 c.in_ok-mark_antecedents-2.ensures.marks

pub mark_antecedents-requires-in-loop-place-clause-below : goal.mark_antecedents-requires-in-loop-place-clause-below
mark_antecedents-requires-in-loop-place-clause-below c =
    MarksBelow-new (base_of c.args.book.now c.args.levels.now.loose) c.args.trail.now.steps c.args.levels.now.top c.args.seen.now.marked c.loop-place.seen.marked c.loop-place.place c.at-next.result
    (omega (arith, c.loop-place.auto, c.len-count.ensures)) (omega (arith, c.if-place-len.false, c.len.ensures)) c.at-next.ensures (so_far (goal.at.mark_antecedents-requires-in-loop-place-clause-below c).In-loop-place)

pub loop-place-preserved : goal.loop-place-preserved
loop-place-preserved c = (
  c.mark_antecedents-in-loop-place.ensures.codes ∙ c.loop-place.invariant.0,
  after (goal.at.loop-place-preserved c).In_ok-mark_antecedents-2,
)

pub returns-then-place-len-clause-marks : goal.returns-then-place-len-clause-marks
returns-then-place-len-clause-marks c =
    so_far (goal.at.returns-then-place-len-clause-marks c).In-loop-place

pub returns-then-not-branch-2-clause-marks : goal.returns-then-not-branch-2-clause-marks
returns-then-not-branch-2-clause-marks c =
    MarksBelow-then (base_of c.args.book.now c.args.levels.now.loose) c.args.trail.now.steps c.args.levels.now.top c.args.seen.now.marked c.mark_antecedents.new.seen.marked c.mark_antecedents-in-loop-place.new.seen.marked c.in_ok-mark_antecedents.ensures.marks
    (after (goal.at.returns-then-not-branch-2-clause-marks c).In_ok-mark_antecedents-2)

pub returns-clause-marks : goal.returns-clause-marks
returns-clause-marks c =
    MarksBelow-then (base_of c.args.book.now c.args.levels.now.loose) c.args.trail.now.steps c.args.levels.now.top c.args.seen.now.marked c.mark_antecedents.new.seen.marked c.loop-place.seen.marked c.in_ok-mark_antecedents.ensures.marks c.loop-place.invariant.1
