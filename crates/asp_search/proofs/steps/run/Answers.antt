use Rattle.std.proofs.Common.{◌≡◌, ℕ, List, Some, Ok, Option, ap, ◌∙◌, subst}
use Rattle.asp_search.specs.declared.outcome.Outcome.{Outcome}
use Rattle.asp_search.specs.declared.outcome.Outcome.TheVariants.{Core}
use Rattle.asp_search.specs.Cores.{IsCore}
use Rattle.asp_search.proofs.Stepping.{Stays-then, IsCore-before}
use Rattle.asp_search.proofs.steps.run.Goals as goal

pub returns-in_err-outcome-clause-stays : goal.returns-in_err-outcome-clause-stays
returns-in_err-outcome-clause-stays c =
    Stays-then c.args.solver.now c.loop-outcome.solver c.step.new.solver c.loop-outcome.invariant c.step.ensures.stays

pub returns-in-Some-clause-stays : goal.returns-in-Some-clause-stays
returns-in-Some-clause-stays c =
    Stays-then c.args.solver.now c.loop-outcome.solver c.step.new.solver c.loop-outcome.invariant c.step.ensures.stays

pub loop-outcome-preserved : goal.loop-outcome-preserved
loop-outcome-preserved c =
    Stays-then c.args.solver.now c.loop-outcome.solver c.step.new.solver c.loop-outcome.invariant c.step.ensures.stays

pub returns-in-Some-clause-core : goal.returns-in-Some-clause-core
returns-in-Some-clause-core c = λ core e.
    let is : c.in-Some.outcome ≡ Core core = cc in
    let old = c.args.solver.now in
    let middle = c.loop-outcome.solver in
    IsCore-before old.book.clauses middle.book.clauses old.assumed.items core c.loop-outcome.invariant.meaning
    (subst (λ (assumed : List ℕ). IsCore middle.book.clauses assumed core) c.loop-outcome.invariant.assumptions
    (c.in_ok-outcome.ensures.core core (ap (λ (o : Option Outcome). Ok o) (c.in-Some.is ∙ ap (λ (o : Outcome). Some o) is))))
