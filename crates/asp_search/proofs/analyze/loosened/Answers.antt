use Rattle.std.proofs.Common.{◌≡◌, ◌/◌, ℕ, Some, ap, sym, subst}
use Rattle.asp_clauses.specs.Trail.{clause_at, step_at}
use Rattle.asp_search.specs.Learned.{Has, base_of}
use Rattle.asp_search.proofs.Marking.{unmarked_at}
use Rattle.asp_search.proofs.analyze.loosened.Goals as goal

pub returns-then-not-contains-clause-based : goal.returns-then-not-contains-clause-based
returns-then-not-contains-clause-based c = λ number marked several reason.
    absurd (unmarked_at _ _ _ c.contains.result c.contains.ensures c.if-not-contains.true c.at-literal.ensures.literal marked)

pub returns-then-pending-eq1-clause-based : goal.returns-then-pending-eq1-clause-based
returns-then-pending-eq1-clause-based c = λ number marked several reason. absurd (several c.if-pending-eq1.true)

pub loosened_by-requires : goal.loosened_by-requires
loosened_by-requires c =
    (c.requires.goes.lawful.reasoned c.args.place c.requires.within c.in-Some.reason (sym (c.in-Some.ensures c.args.place (c.requires.within, ap (λ (l : ℕ). l / 2) (sym c.at-literal.ensures.literal))))).0

pub returns-in-Some-clause-based : goal.returns-in-Some-clause-based
returns-in-Some-clause-based c = λ number marked several reason.
    let here : Some c.in-Some.reason ≡ (step_at c.args.trail.now.steps c.args.place).reason = c.in-Some.ensures c.args.place (c.requires.within, ap (λ (l : ℕ). l / 2) (sym c.at-literal.ensures.literal)) in
    let same : c.in-Some.reason ≡ number = cc in
    subst (λ (n : ℕ). Has (base_of c.args.book.now c.loosened_by.result) (clause_at c.args.book.now.clauses n)) same c.loosened_by.ensures.based

pub returns-in-None-clause-based : goal.returns-in-None-clause-based
returns-in-None-clause-based c = λ number marked several reason.
    let here = c.in-None.ensures c.args.place (c.requires.within, ap (λ (l : ℕ). l / 2) (sym c.at-literal.ensures.literal)) in
    absurd cc
