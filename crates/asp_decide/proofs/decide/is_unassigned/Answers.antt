use Rattle.std.proofs.Common.{◌≡◌, ◌+◌, ◌*◌, ℕ, Bool, true, false, Some, ap, subst, ⊎_elim, inl, inr, arith}
use Rattle.std.proofs.lemmas.Bool.{cases_Bool}
use Rattle.asp_clauses.specs.Trail.{IsPlaced}
use Rattle.asp_clauses.proofs.LiteralLemmas.{negated_odd}
use Rattle.asp_decide.proofs.decide.is_unassigned.Goals as goal

pub returns-in-Some-clause-assigned : goal.returns-in-Some-clause-assigned
returns-in-Some-clause-assigned c = λ _.
    ⊎_elim
    (λ (t : c.in-Some.field-0 ≡ true). inl (c.in-Some.ensures.holds.0 (ap (λ (b : Bool). Some b) t)))
    (λ (f : c.in-Some.field-0 ≡ false).
    inr (subst (λ (l : ℕ). IsPlaced c.args.trail.now.steps l) (omega (arith, negated_odd (2 * c.args.atom + 1) (omega arith))) (c.in-Some.ensures.fails.0 (ap (λ (b : Bool). Some b) f))))
    (cases_Bool c.in-Some.field-0)
