use Rattle.std.proofs.Common.{◌≡◌, ◌<◌, ◌≤◌, ◌/◌, ℕ, ap, ◌∙◌, sym, subst, arith, refl}
use Rattle.std.specs.List.{Contains}
use Rattle.std.proofs.lemmas.Bool.{false≢true}
use Rattle.asp_clauses.specs.Literal.{negated}
use Rattle.asp_clauses.specs.Trail.{IsPlaced, level_at}
use Rattle.asp_clauses.proofs.LiteralLemmas.{negated-lt}
use Rattle.asp_search.proofs.Marking.{MarksReason-one, MarksReason-lower}
use Rattle.asp_search.proofs.analyze.mark_cause.Goals as goal
use Rattle.asp_search.proofs.analyze.mark_cause.Goals.{After-bump}

pub is_true-requires : goal.is_true-requires
is_true-requires c = rw c.opposite-cause.ensures (negated-lt c.args.literal c.args.trail.now.atoms c.requires.code)

placed : (c : After-bump) → IsPlaced c.args.trail.now.steps (negated c.args.literal)
placed c = subst (λ (l : ℕ). IsPlaced c.args.trail.now.steps l) c.opposite-cause.ensures (c.is_true.ensures.0 c.if-not-is_true.false)

at_is : (c : After-bump) → c.level-at.result ≡ level_at c.args.trail.now.steps (placed c).0
at_is c =
    let p = placed c in
    c.level-at.ensures p.0 (p.1, ap (λ (l : ℕ). l / 2) (p.2 ∙ sym c.opposite-cause.ensures))

above : (c : After-bump) → 0 < level_at c.args.trail.now.steps (placed c).0
above c = omega (arith, at_is c, c.if-at-eq0.false)

most : (c : After-bump) → level_at c.args.trail.now.steps (placed c).0 ≤ c.args.level
most c =
    let p = placed c in
    c.requires.most c.args.literal p.0 (0, omega arith, refl) p.1 p.2

fresh : (c : After-bump) → Contains c.args.seen.now.marked (negated c.args.literal) → ⊥
fresh c h =
    false≢true (sym c.if-contains.false ∙ c.contains.ensures.1 (subst (λ (l : ℕ). Contains c.args.seen.now.marked l) (sym c.opposite-cause.ensures) h))

pub returns-then-at-level-clause-marks : goal.returns-then-at-level-clause-marks
returns-then-at-level-clause-marks c =
    let d = (goal.at.returns-then-at-level-clause-marks c).After-bump in
    let p = placed d in
    rw (c.in_ok-insert.ensures.ok, c.opposite-cause.ensures)
    (MarksReason-one c.args.trail.now.steps c.requires.apart c.args.literal c.args.level p.0 c.args.seen.now.marked c.requires.marked p.1 p.2 (above d) (most d) (fresh d) (sym (at_is d) ∙ c.if-at-level.true))

pub returns-else-at-level-clause-marks : goal.returns-else-at-level-clause-marks
returns-else-at-level-clause-marks c =
    let d = (goal.at.returns-else-at-level-clause-marks c).After-bump in
    let p = placed d in
    rw (c.in_ok-insert.ensures.ok, c.opposite-cause.ensures)
    (MarksReason-lower c.args.trail.now.steps c.requires.apart c.args.literal c.args.level p.0 c.args.seen.now.marked c.requires.marked p.1 p.2 (above d) (most d) (fresh d) (λ e. c.if-at-level.false (at_is d ∙ e)))
