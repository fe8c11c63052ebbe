use Rattle.std.proofs.Common.{◌≡◌, ◌-◌, ℕ, suc, List, refl, subst, ◌∙◌, arith}
use Rattle.asp_clauses.specs.Trail.{clause_at}
use Rattle.asp_search.specs.Analysis.{MarksReason, IsWalk}
use Rattle.asp_search.specs.Learned.{base_of}
use Rattle.asp_search.proofs.Counting.{open_below-le}
use Rattle.asp_search.proofs.Basing.{within_more, IsWalk-within, IsGrounded-within}
use Rattle.asp_search.proofs.Marking.{IsWalk-start}
use Rattle.asp_search.proofs.analyze.resolve_conflict.Goals as goal

pub loop-left-init : goal.loop-left-init
loop-left-init c =
    let grounded = IsGrounded-within (base_of c.args.book.now c.args.loose.now) (base_of c.args.book.now c.loosened_by.result) c.args.book.now.clauses c.args.trail.now.steps (within_more c.args.book.now c.args.loose.now c.loosened_by.result c.loosened_by.ensures.grows) c.requires.grounded in (
      record { codes = refl; atoms = refl },
      rw c.len-end.ensures.value
          (IsWalk-start c.args.trail.now.atoms (base_of c.args.book.now c.loosened_by.result) c.args.book.now.clauses c.args.trail.now.steps c.requires.fitted.goes.lawful grounded c.args.conflict c.args.level c.in_ok-pending.pending c.mark_reason.new.seen.marked c.loosened_by.ensures.based c.requires.fails c.requires.top c.requires.decided
          (subst (λ (m : List ℕ). MarksReason c.args.trail.now.steps (clause_at c.args.book.now.clauses c.args.conflict) c.args.level m c.mark_reason.new.seen.marked c.in_ok-pending.pending) c.requires.unmarked c.in_ok-pending.ensures.marks)),
      grounded,
      refl,
    )

pub overflow_sub-end : goal.overflow_sub-end
overflow_sub-end c =
    omega (arith, c.loop-left.invariant.1.count, c.loop-left.invariant.1.some, open_below-le c.loop-left.seen.marked c.args.trail.now.steps c.args.level c.loop-left.end)

pub resolve-requires-clause-grounded : goal.resolve-requires-clause-grounded
resolve-requires-clause-grounded c =
    IsGrounded-within (base_of c.args.book.now c.loop-left.loose) (base_of c.args.book.now c.loosened.result) c.args.book.now.clauses c.args.trail.now.steps (within_more c.args.book.now c.loop-left.loose c.loosened.result c.loosened.ensures.grows) c.loop-left.invariant.2

pub resolve-requires-clause-walk : goal.resolve-requires-clause-walk
resolve-requires-clause-walk c =
    let e : c.loop-left.end ≡ suc (c.loop-left.end - 1) = omega (arith, c.loop-left.invariant.1.count, c.loop-left.invariant.1.some, open_below-le c.loop-left.seen.marked c.args.trail.now.steps c.args.level c.loop-left.end) in
    subst (λ (x : ℕ). IsWalk (base_of c.args.book.now c.loosened.result) c.args.trail.now.steps c.loop-left.seen.marked c.args.level x c.loop-left.pending) e
    (IsWalk-within (base_of c.args.book.now c.loop-left.loose) (base_of c.args.book.now c.loosened.result) c.args.trail.now.steps c.loop-left.seen.marked c.args.level c.loop-left.end c.loop-left.pending (within_more c.args.book.now c.loop-left.loose c.loosened.result c.loosened.ensures.grows) c.loop-left.invariant.1)

pub loosened-requires-clause-within : goal.loosened-requires-clause-within
loosened-requires-clause-within c =
    omega (arith, c.loop-left.invariant.1.count, c.loop-left.invariant.1.some, c.loop-left.invariant.1.within, open_below-le c.loop-left.seen.marked c.args.trail.now.steps c.args.level c.loop-left.end)

pub loop-left-smaller : goal.loop-left-smaller
loop-left-smaller c =
    omega (arith, c.loop-left.invariant.1.count, c.loop-left.invariant.1.some, open_below-le c.loop-left.seen.marked c.args.trail.now.steps c.args.level c.loop-left.end)

pub loop-left-preserved : goal.loop-left-preserved
loop-left-preserved c = (
  record { codes = c.resolve.ensures.kept.codes ∙ c.loop-left.invariant.0.codes; atoms = c.resolve.ensures.kept.atoms ∙ c.loop-left.invariant.0.atoms },
  rw c.in-Some.is at c.in_ok-left.ensures.walk,
  IsGrounded-within (base_of c.args.book.now c.loop-left.loose) (base_of c.args.book.now c.loosened.result) c.args.book.now.clauses c.args.trail.now.steps (within_more c.args.book.now c.loop-left.loose c.loosened.result c.loosened.ensures.grows) c.loop-left.invariant.2,
  c.resolve.ensures.activity ∙ c.loop-left.invariant.3,
)

pub returns-in-None-clause-grounded : goal.returns-in-None-clause-grounded
returns-in-None-clause-grounded c =
    IsGrounded-within (base_of c.args.book.now c.loop-left.loose) (base_of c.args.book.now c.loosened.result) c.args.book.now.clauses c.args.trail.now.steps (within_more c.args.book.now c.loop-left.loose c.loosened.result c.loosened.ensures.grows) c.loop-left.invariant.2
