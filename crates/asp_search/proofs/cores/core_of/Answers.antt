use Rattle.std.proofs.Common.{◌≡◌, ◌-◌, ◌++◌, ◌∷◌, [], ℕ, suc, List, ap, ◌∙◌, subst, refl, arith, get_or}
use Rattle.asp_clauses.specs.Trail.{decisions}
use Rattle.asp_search.specs.Analysis.{MarksReason}
use Rattle.asp_search.specs.Cores.{IsTrace}
use Rattle.asp_search.proofs.Tracing.{IsTrace-start}
use Rattle.asp_search.proofs.cores.core_of.Goals as goal

pub loop-end-init : goal.loop-end-init
loop-end-init c =
    let first : c.push.new.self.items ≡ c.args.failed ∷ [] = c.in_ok-push.ensures.items ∙ ap (λ (l : List ℕ). l ++ c.args.failed ∷ []) c.new-core.ensures.items in
    let steps = c.args.trail.now.steps in
    let marks : MarksReason steps (c.args.failed ∷ []) (decisions steps) [] c.mark_cause.new.seen.marked c.in_ok-mark_cause.field-0 =
    subst (λ (old : List ℕ). MarksReason steps (c.args.failed ∷ []) (decisions steps) old c.mark_cause.new.seen.marked c.in_ok-mark_cause.field-0) c.requires.unmarked
    (subst (λ (level : ℕ). MarksReason steps (c.args.failed ∷ []) level c.args.seen.now.marked c.mark_cause.new.seen.marked c.in_ok-mark_cause.field-0) c.decisions.ensures c.in_ok-mark_cause.ensures.marks) in (
      omega (arith, c.len-end.ensures.value),
      record { codes = refl; atoms = refl },
      rw (c.len-end.ensures.value, first) (IsTrace-start c.args.trail.now.atoms c.args.book.now.clauses steps c.requires.fitted.goes.lawful c.args.failed c.in_ok-mark_cause.field-0 c.mark_cause.new.seen.marked c.requires.fails marks),
      ap (λ (l : List ℕ). get_or l 0 0) first,
    )

pub trace-requires-clause-trace : goal.trace-requires-clause-trace
trace-requires-clause-trace c =
    let e : c.loop-end.end ≡ suc (c.loop-end.end - 1) = omega (arith, c.loop-end-test.true) in
    subst (λ (x : ℕ). IsTrace c.args.book.now.clauses c.args.trail.now.steps c.loop-end.seen.marked x c.loop-end.core.items) e c.loop-end.invariant.2
