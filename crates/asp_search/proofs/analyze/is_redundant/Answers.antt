use Rattle.std.proofs.Common.{◌≡◌, ◌/◌, ◌⊎◌, ℕ, Some, List, take, get_or, ap, ◌∙◌, sym, subst, ⊎_elim, arith}
use Rattle.std.specs.List.{Contains}
use Rattle.std.proofs.lemmas.List.{take_more, take_all}
use Rattle.std.proofs.lemmas.List.Elements.{Contains-push_cases}
use Rattle.asp_clauses.specs.Literal.{negated}
use Rattle.asp_clauses.specs.Trail.{clause_at, literal_at, step_at}
use Rattle.asp_search.specs.Analysis.{IsFixed}
use Rattle.asp_clauses.proofs.ReorderLemmas.{Contains-at}
use Rattle.asp_search.proofs.Trails.{placed_before}
use Rattle.asp_search.proofs.analyze.is_redundant.Goals as goal
use Rattle.asp_search.proofs.analyze.is_redundant.Goals.{In-loop-other}

reason_is : (c : In-loop-other) → (step_at c.args.trail.now.steps c.requires.placed.0).reason ≡ Some c.in-Some.reason
reason_is c =
    let p = c.requires.placed in
    sym (c.in-Some.ensures p.0 (p.1, ap (λ (l : ℕ). l / 2) p.2))

pub is_excused-requires-clause-fails : goal.is_excused-requires-clause-fails
is_excused-requires-clause-fails c ne =
    let d = (goal.at.is_excused-requires-clause-fails c).In-loop-other in
    let p = c.requires.placed in
    let other = get_or c.lits-other-items.result.now c.loop-other.other-index 0 in
    let r = c.requires.goes.lawful.reasoned p.0 p.1 c.in-Some.reason (reason_is d) in
    let inside : Contains (clause_at c.args.book.now.clauses c.in-Some.reason) other = subst (λ (l : List ℕ). Contains l other) c.lits-other-items.ensures.value (Contains-at c.lits-other-items.result.now c.loop-other.other-index c.loop-other-test.true) in
    let b = placed_before c.args.trail.now.steps p.0 (negated other) (r.1.others_fail other inside (λ (e : other ≡ literal_at c.args.trail.now.steps p.0). ne (e ∙ p.2))) in
    (b.0, b.2, b.3)

pub loop-other-preserved : goal.loop-other-preserved
loop-other-preserved c = λ other has ne.
    let items = c.lits-other-items.result.now in
    let this = get_or items c.loop-other.other-index 0 in
    ⊎_elim
    (λ (h : Contains (take c.loop-other.other-index items) other). c.loop-other.invariant other h ne)
    (λ (e : this ≡ other).
    subst (λ (x : ℕ). IsFixed c.args.trail.now.steps (negated x) ⊎ Contains c.args.seen.now.marked (negated x)) e (c.is_excused.ensures c.if-not-is_excused.false (λ (q : this ≡ c.args.literal). ne (sym e ∙ q))))
    (Contains-push_cases (take c.loop-other.other-index items) this other (subst (λ (l : List ℕ). Contains l other) (take_more items c.loop-other.other-index 0 c.loop-other-test.true) has))

pub returns : goal.returns
returns c = λ _ place within is.
    let items = c.lits-other-items.result.now in
    let whole : take c.loop-other.other-index items ≡ items = take_all c.loop-other.other-index items (omega (arith, c.loop-other-test.false)) in
    record {
      number = c.in-Some.reason;
      reason = sym (c.in-Some.ensures place (within, ap (λ (l : ℕ). l / 2) is));
      based = c.is_barred.ensures c.if-is_barred.false;
      others = λ other has ne.
          c.loop-other.invariant other
          (subst (λ (l : List ℕ). Contains l other) (sym whole) (subst (λ (l : List ℕ). Contains l other) (sym c.lits-other-items.ensures.value) has))
          (λ (e : other ≡ c.args.literal). ne (e ∙ sym is));
    }

pub is_barred-requires : goal.is_barred-requires
is_barred-requires c =
    let p = c.requires.placed in
    (c.requires.goes.lawful.reasoned p.0 p.1 c.in-Some.reason (sym (c.in-Some.ensures p.0 (p.1, ap (λ (l : ℕ). l / 2) p.2)))).0
