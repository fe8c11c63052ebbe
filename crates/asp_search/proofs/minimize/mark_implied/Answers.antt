use Rattle.std.proofs.Common.{◌≡◌, ◌<◌, length, get_or, refl, ◌∙◌, arith}
use Rattle.asp_search.specs.Learned.{base_of}
use Rattle.asp_clauses.proofs.ReorderLemmas.{Contains-at}
use Rattle.asp_search.proofs.Minimizing.{MarksBelow-none, MarksBelow-then, MarksBelow-old, MarksBelow-longer}
use Rattle.asp_search.proofs.minimize.mark_implied.Goals as goal
use Rattle.asp_search.proofs.minimize.mark_implied.Goals.{In-loop-place}

pub loop-place-init : goal.loop-place-init
loop-place-init c =
    (refl, MarksBelow-none (base_of c.args.book.now c.args.loose) c.args.trail.now.steps c.args.level c.args.seen.now.marked c.args.seen.now.marked refl)

-- the place is one of the first marks
early : (c : In-loop-place) → c.loop-place.place < length c.args.seen.now.marked
early c = omega (arith, c.loop-place-test.true, c.len-place-end.ensures)

pub at-literal-requires : goal.at-literal-requires
at-literal-requires c =
    let d = (goal.at.at-literal-requires c).In-loop-place in
    omega (arith, early d, MarksBelow-longer (base_of c.args.book.now c.args.loose) c.args.trail.now.steps c.args.level c.args.seen.now.marked c.loop-place.seen.marked c.loop-place.invariant.1)

pub mark_cone-requires-clause-marked : goal.mark_cone-requires-clause-marked
mark_cone-requires-clause-marked c =
    let d = (goal.at.mark_cone-requires-clause-marked c).In-loop-place in
    let old = c.args.seen.now.marked in
    let is : c.at-literal.result ≡ get_or old c.loop-place.place 0 = c.at-literal.ensures ∙ MarksBelow-old (base_of c.args.book.now c.args.loose) c.args.trail.now.steps c.args.level old c.loop-place.seen.marked c.loop-place.place (early d) c.loop-place.invariant.1 in
    rw (c.levels_of-levels.ensures.top, is) (c.requires.marked (get_or old c.loop-place.place 0) (Contains-at old c.loop-place.place (early d)))

pub mark_cone-requires-clause-mentioned : goal.mark_cone-requires-clause-mentioned
mark_cone-requires-clause-mentioned c =
    let d = (goal.at.mark_cone-requires-clause-mentioned c).In-loop-place in
    let old = c.args.seen.now.marked in
    let is : c.at-literal.result ≡ get_or old c.loop-place.place 0 = c.at-literal.ensures ∙ MarksBelow-old (base_of c.args.book.now c.args.loose) c.args.trail.now.steps c.args.level old c.loop-place.seen.marked c.loop-place.place (early d) c.loop-place.invariant.1 in
    rw (c.levels_of-levels.ensures.loose, is) (c.requires.mentions (get_or old c.loop-place.place 0) (Contains-at old c.loop-place.place (early d)))

pub loop-place-preserved : goal.loop-place-preserved
loop-place-preserved c = (
  c.mark_cone.ensures.codes ∙ c.loop-place.invariant.0,
  MarksBelow-then (base_of c.args.book.now c.args.loose) c.args.trail.now.steps c.args.level c.args.seen.now.marked c.loop-place.seen.marked c.mark_cone.new.seen.marked c.loop-place.invariant.1
      (rw (c.levels_of-levels.ensures.top, c.levels_of-levels.ensures.loose) at c.in_ok-mark_cone.ensures.marks),
)
