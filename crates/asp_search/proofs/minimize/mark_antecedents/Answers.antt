use Rattle.std.proofs.Common.{◌≡◌, ◌/◌, ℕ, Some, List, get_or, refl, ap, ◌∙◌, sym, subst}
use Rattle.std.specs.List.{Contains}
use Rattle.asp_clauses.specs.Literal.{negated}
use Rattle.asp_clauses.specs.Trail.{clause_at, literal_at, step_at}
use Rattle.asp_clauses.proofs.ReorderLemmas.{Contains-at}
use Rattle.asp_search.specs.Learned.{base_of}
use Rattle.asp_search.specs.Minimize.{MarksBelow}
use Rattle.asp_search.proofs.Trails.{placed_before}
use Rattle.asp_search.proofs.Minimizing.{MarksBelow-none, MarksBelow-then, MarksBelow-one}
use Rattle.asp_search.proofs.minimize.mark_antecedents.Goals as goal
use Rattle.asp_search.proofs.minimize.mark_antecedents.Goals.{In-loop-other, In_ok-mark_antecedent}

reason_is : (c : In-loop-other) → (step_at c.args.trail.now.steps c.requires.below.place).reason ≡ Some c.in-Some.reason
reason_is c =
    let b = c.requires.below in
    sym (c.in-Some.ensures b.place (b.within, ap (λ (l : ℕ). l / 2) b.is))

inside : (c : In-loop-other) → Contains (clause_at c.args.book.now.clauses c.in-Some.reason) (get_or c.lits-other-items.result.now c.loop-other.other-index 0)
inside c =
    subst (λ (l : List ℕ). Contains l (get_or c.lits-other-items.result.now c.loop-other.other-index 0)) c.lits-other-items.ensures.value (Contains-at c.lits-other-items.result.now c.loop-other.other-index c.loop-other-test.true)

pub loop-other-init : goal.loop-other-init
loop-other-init c =
    (refl, MarksBelow-none (base_of c.args.book.now c.args.levels.now.loose) c.args.trail.now.steps c.args.levels.now.top c.args.seen.now.marked c.args.seen.now.marked refl)

pub mark_antecedent-requires-clause-fails : goal.mark_antecedent-requires-clause-fails
mark_antecedent-requires-clause-fails c ne =
    let d = (goal.at.mark_antecedent-requires-clause-fails c).In-loop-other in
    let b = c.requires.below in
    let other = get_or c.lits-other-items.result.now c.loop-other.other-index 0 in
    let r = c.requires.goes.lawful.reasoned b.place b.within c.in-Some.reason (reason_is d) in
    let q = placed_before c.args.trail.now.steps b.place (negated other) (r.1.others_fail other (inside d) (λ (e : other ≡ literal_at c.args.trail.now.steps b.place). ne (e ∙ b.is))) in
    (q.0, q.2, q.3)

-- the same after the call
reason_here : (c : In_ok-mark_antecedent) → (step_at c.args.trail.now.steps c.requires.below.place).reason ≡ Some c.in-Some.reason
reason_here c =
    let b = c.requires.below in
    sym (c.in-Some.ensures b.place (b.within, ap (λ (l : ℕ). l / 2) b.is))

inside_here : (c : In_ok-mark_antecedent) → Contains (clause_at c.args.book.now.clauses c.in-Some.reason) (get_or c.lits-other-items.result.now c.loop-other.other-index 0)
inside_here c =
    subst (λ (l : List ℕ). Contains l (get_or c.lits-other-items.result.now c.loop-other.other-index 0)) c.lits-other-items.ensures.value (Contains-at c.lits-other-items.result.now c.loop-other.other-index c.loop-other-test.true)

grown : (c : In_ok-mark_antecedent) → MarksBelow (base_of c.args.book.now c.args.levels.now.loose) c.args.trail.now.steps c.args.levels.now.top c.args.seen.now.marked c.mark_antecedent.new.seen.marked
grown c =
    let base = base_of c.args.book.now c.args.levels.now.loose in
    let steps = c.args.trail.now.steps in
    let top = c.args.levels.now.top in
    MarksBelow-then base steps top c.args.seen.now.marked c.loop-other.seen.marked c.mark_antecedent.new.seen.marked c.loop-other.invariant.1
    (MarksBelow-one base steps top c.args.trail.now.atoms c.args.book.now.clauses c.requires.goes.lawful c.args.literal (get_or c.lits-other-items.result.now c.loop-other.other-index 0) c.in-Some.reason c.loop-other.seen.marked c.mark_antecedent.new.seen.marked
    c.requires.below (reason_here c) (c.is_barred.ensures c.if-is_barred.false) (inside_here c) c.in_ok-mark_antecedent.ensures.marks)

pub loop-other-preserved : goal.loop-other-preserved
loop-other-preserved c =
    (c.mark_antecedent.ensures.codes ∙ c.loop-other.invariant.0, grown (goal.at.loop-other-preserved c).In_ok-mark_antecedent)

pub returns-then-not-branch-clause-marks : goal.returns-then-not-branch-clause-marks
returns-then-not-branch-clause-marks c =
    grown (goal.at.returns-then-not-branch-clause-marks c).In_ok-mark_antecedent

pub is_barred-requires : goal.is_barred-requires
is_barred-requires c =
    let b = c.requires.below in
    (c.requires.goes.lawful.reasoned b.place b.within c.in-Some.reason (sym (c.in-Some.ensures b.place (b.within, ap (λ (l : ℕ). l / 2) b.is)))).0
