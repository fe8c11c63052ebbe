use Rattle.std.proofs.Common.{◌≡◌, ℕ, Option, None, Ok, refl, ap}
use Rattle.asp_search.proofs.Stepping.{Stays-propagated}
use Rattle.asp_search.proofs.steps.propagate_all.Goals as goal

pub returns-in-Ok-clause-stays : goal.returns-in-Ok-clause-stays
returns-in-Ok-clause-stays c =
    Stays-propagated c.args.solver.now _ c.requires c.propagate.ensures.goes c.propagate.ensures.clauses c.propagate.ensures.kinds c.propagate.ensures.extended refl refl refl refl refl refl refl refl refl refl refl

pub returns-in-Err-clause-stays : goal.returns-in-Err-clause-stays
returns-in-Err-clause-stays c =
    Stays-propagated c.args.solver.now _ c.requires c.propagate.ensures.goes c.propagate.ensures.clauses c.propagate.ensures.kinds c.propagate.ensures.extended refl refl refl refl refl refl refl refl refl refl refl

pub returns-in-Ok-clause-fixpoint : goal.returns-in-Ok-clause-fixpoint
returns-in-Ok-clause-fixpoint c = λ e.
    let none : c.in-Ok.conflict ≡ None = cc in
    c.in-Ok.ensures.fixpoint (ap (λ (o : Option ℕ). Ok o) none)
