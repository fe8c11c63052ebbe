use Rattle.std.proofs.Common.{◌≡◌, ◌<◌, ℕ, length, get_or, subst, arith}
use Rattle.std.proofs.lemmas.List.{get_or_read}
use Rattle.asp_clauses.specs.Trail.{IsPlaced}
use Rattle.asp_search.proofs.Deciding.{IsCursor-more, all_true-past}
use Rattle.asp_search.proofs.steps.next_assumption.Goals as goal

pub loop-solver-preserved : goal.loop-solver-preserved
loop-solver-preserved c =
    let s = c.loop-solver.solver in
    let i = c.loop-solver.invariant in
    let inside : s.cursor < length s.assumed.items = omega (arith, c.loop-solver-test.true, c.len.ensures, s.assumed.ok.0) in
    let read : c.index-literal.result.now ≡ get_or s.assumed.items s.cursor 0 = get_or_read s.assumed.items s.cursor c.index-literal.result.now inside c.index-literal.ensures 0 in
    let placed : IsPlaced s.trail.steps (get_or s.assumed.items s.cursor 0) = subst (λ (l : ℕ). IsPlaced s.trail.steps l) read (c.is_true.ensures.0 c.if-not-is_true.false) in
    record {
      ready = record {
        fitted = i.ready.fitted;
        ranges = i.ready.ranges;
        learned = i.ready.learned;
        ground = i.ready.ground;
        unmarked = i.ready.unmarked;
        assumptions = i.ready.assumptions;
        assumed = i.ready.assumed;
        cursor = rw c.decisions-solver.ensures (IsCursor-more s.assumed.items s.trail.steps s.cursor s.held inside placed i.ready.cursor);
        order = i.ready.order;
      };
      book = i.book;
      trail = i.trail;
      assumed = i.assumed;
      in_order = i.in_order;
      decided = i.decided;
      activity = i.activity;
    }

pub returns-clause-all : goal.returns-clause-all
returns-clause-all c = λ _.
    let s = c.loop-solver.solver in
    all_true-past s.assumed.items s.trail.steps s.cursor s.held (omega (arith, c.loop-solver-test.false, c.len.ensures, s.assumed.ok.0)) c.loop-solver.invariant.ready.cursor
