use Rattle.std.proofs.Common.{◌/◌, ℕ, ap, sym, subst}
use Rattle.asp_clauses.specs.Trail.{step_at, clause_at}
use Rattle.asp_search.specs.Analysis.{MarksReason}
use Rattle.asp_search.proofs.Trails.{no_reason}
use Rattle.asp_search.proofs.Marking.{marked_at}
use Rattle.asp_search.proofs.Tracing.{IsTrace-resolved, IsTrace-kept}
use Rattle.asp_search.proofs.cores.trace.Goals as goal

pub returns-in_ok-mark_reason-in-Some-clause-trace : goal.returns-in_ok-mark_reason-in-Some-clause-trace
returns-in_ok-mark_reason-in-Some-clause-trace c =
    IsTrace-resolved c.args.trail.now.atoms c.args.book.now.clauses c.args.trail.now.steps c.requires.fitted.goes.lawful c.args.seen.now.marked c.args.core.now.items c.args.place c.requires.within c.requires.trace c.in-Some.reason c.in_ok-mark_reason-in-Some.field-0 c.mark_reason.new.seen.marked
    (sym (c.in-Some.ensures c.args.place (c.requires.within, ap (λ (l : ℕ). l / 2) (sym c.at-literal.ensures.literal))))
    (subst (λ (level : ℕ). MarksReason c.args.trail.now.steps (clause_at c.args.book.now.clauses c.in-Some.reason) level c.args.seen.now.marked c.mark_reason.new.seen.marked c.in_ok-mark_reason-in-Some.field-0) c.decisions.ensures c.in_ok-mark_reason-in-Some.ensures.marks)

pub returns-in_ok-push-in-None-clause-trace : goal.returns-in_ok-push-in-None-clause-trace
returns-in_ok-push-in-None-clause-trace c =
    rw (c.in_ok-push-in-None.ensures.items, c.at-literal.ensures.literal)
    (IsTrace-kept c.args.trail.now.atoms c.args.book.now.clauses c.args.trail.now.steps c.requires.fitted.goes.lawful c.args.seen.now.marked c.args.core.now.items c.args.place c.requires.within c.requires.trace
    (marked_at _ _ _ c.contains.result c.contains.ensures c.if-not-contains.false c.at-literal.ensures.literal)
    (no_reason (step_at c.args.trail.now.steps c.args.place) (sym (c.in-None.ensures c.args.place (c.requires.within, ap (λ (l : ℕ). l / 2) (sym c.at-literal.ensures.literal))))))
