use Rattle.std.proofs.Common.{◌≡◌, ◌<◌, ◌/◌, ℕ, Some, length, ap, sym, arith}
use Rattle.std.specs.List.{Contains}
use Rattle.asp_clauses.specs.Trail.{literal_at, step_at}
use Rattle.asp_search.specs.Learned.{base_of}
use Rattle.asp_search.proofs.Trails.{no_reason}
use Rattle.asp_search.proofs.Counting.{open_below-le}
use Rattle.asp_search.proofs.Marking.{marked_at, unmarked_at, IsWalk-passed, IsCut-one, IsCut-decision, reason_most, IsWalk-resolved}
use Rattle.asp_search.proofs.analyze.resolve.Goals as goal
use Rattle.asp_search.proofs.analyze.resolve.Goals.{In-Some}

pub returns-then-not-contains-clause-walk : goal.returns-then-not-contains-clause-walk
returns-then-not-contains-clause-walk c =
    IsWalk-passed c.args.trail.now.atoms (base_of c.args.book.now c.args.loose) c.args.book.now.clauses c.args.trail.now.steps c.requires.fitted.goes.lawful c.requires.grounded c.args.seen.now.marked c.args.level c.args.place c.args.pending c.requires.walk
    (unmarked_at _ _ _ c.contains.result c.contains.ensures c.if-not-contains.true c.at-literal.ensures.literal)

pub returns-in-None-clause-walk : goal.returns-in-None-clause-walk
returns-in-None-clause-walk c =
    let within : c.args.place < length c.args.trail.now.steps = omega (arith, c.requires.walk.within) in
    IsCut-decision c.args.trail.now.atoms (base_of c.args.book.now c.args.loose) c.args.book.now.clauses c.args.trail.now.steps c.requires.fitted.goes.lawful c.requires.grounded c.args.seen.now.marked c.args.level c.args.place c.args.pending c.requires.walk
    (marked_at _ _ _ c.contains.result c.contains.ensures c.if-not-contains.false c.at-literal.ensures.literal)
    (no_reason (step_at c.args.trail.now.steps c.args.place) (sym (c.in-None.ensures c.args.place (within, ap (λ (l : ℕ). l / 2) (sym c.at-literal.ensures.literal)))))

reason_is : (c : In-Some) → (step_at c.args.trail.now.steps c.args.place).reason ≡ Some c.in-Some.reason
reason_is c =
    let within : c.args.place < length c.args.trail.now.steps = omega (arith, c.requires.walk.within) in
    sym (c.in-Some.ensures c.args.place (within, ap (λ (l : ℕ). l / 2) (sym c.at-literal.ensures.literal)))

is_marked : (c : In-Some) → Contains c.args.seen.now.marked (literal_at c.args.trail.now.steps c.args.place)
is_marked c =
    marked_at _ _ _ c.contains.result c.contains.ensures c.if-not-contains.false c.at-literal.ensures.literal

pub returns-then-pending-eq1-clause-walk : goal.returns-then-pending-eq1-clause-walk
returns-then-pending-eq1-clause-walk c =
    let d = (goal.at.returns-then-pending-eq1-clause-walk c).In-Some in
    IsCut-one c.args.trail.now.atoms (base_of c.args.book.now c.args.loose) c.args.book.now.clauses c.args.trail.now.steps c.requires.fitted.goes.lawful c.requires.grounded c.args.seen.now.marked c.args.level c.args.place c.args.pending c.requires.walk (is_marked d) c.if-pending-eq1.true

pub mark_reason-requires-clause-clause : goal.mark_reason-requires-clause-clause
mark_reason-requires-clause-clause c =
    let d = (goal.at.mark_reason-requires-clause-clause c).In-Some in
    (c.requires.fitted.goes.lawful.reasoned c.args.place (omega (arith, c.requires.walk.within)) c.in-Some.reason (reason_is d)).0

pub mark_reason-requires-clause-most : goal.mark_reason-requires-clause-most
mark_reason-requires-clause-most c =
    let d = (goal.at.mark_reason-requires-clause-most c).In-Some in
    reason_most c.args.trail.now.atoms (base_of c.args.book.now c.args.loose) c.args.book.now.clauses c.args.trail.now.steps c.requires.fitted.goes.lawful c.requires.grounded c.args.seen.now.marked c.args.level c.args.place c.args.pending c.requires.walk c.in-Some.reason (reason_is d) (is_marked d)

pub returns-clause-walk : goal.returns-clause-walk
returns-clause-walk c =
    let d = (goal.at.returns-clause-walk c).In-Some in
    IsWalk-resolved c.args.trail.now.atoms (base_of c.args.book.now c.args.loose) c.args.book.now.clauses c.args.trail.now.steps c.requires.fitted.goes.lawful c.requires.grounded c.args.seen.now.marked c.args.level c.args.place c.args.pending c.requires.walk c.in-Some.reason c.in_ok-newly.newly c.mark_reason.new.seen.marked (reason_is d) (c.requires.based c.in-Some.reason (is_marked d) c.if-pending-eq1.false (reason_is d)) (is_marked d) c.if-pending-eq1.false c.in_ok-newly.ensures.marks

pub overflow_add-result : goal.overflow_add-result
overflow_add-result c =
    let d = (goal.at.overflow_add-result c).In-Some in
    let w = IsWalk-resolved c.args.trail.now.atoms (base_of c.args.book.now c.args.loose) c.args.book.now.clauses c.args.trail.now.steps c.requires.fitted.goes.lawful c.requires.grounded c.args.seen.now.marked c.args.level c.args.place c.args.pending c.requires.walk c.in-Some.reason c.in_ok-newly.newly c.mark_reason.new.seen.marked (reason_is d) (c.requires.based c.in-Some.reason (is_marked d) c.if-pending-eq1.false (reason_is d)) (is_marked d) c.if-pending-eq1.false c.in_ok-newly.ensures.marks in
    omega (arith, w.count, open_below-le c.mark_reason.new.seen.marked c.args.trail.now.steps c.args.level c.args.place)
