use Rattle.std.proofs.Common.{◌≡◌, ℕ, List, [], Bool, Option, Ok, ap, ◌∙◌, sym, subst}
use Rattle.asp_search.specs.Cores.{IsCore}
use Rattle.asp_search.proofs.Stepping.{Stays-then, IsCore-before, IsCore-empty}
use Rattle.asp_search.proofs.steps.step.Goals as goal

pub returns-in_err-handle_conflict-in-Some-clause-stays : goal.returns-in_err-handle_conflict-in-Some-clause-stays
returns-in_err-handle_conflict-in-Some-clause-stays c =
    Stays-then c.args.solver.now c.propagate_all.new.solver c.handle_conflict.new.solver c.in_ok-conflict.ensures.stays c.handle_conflict.ensures.stays

pub decide-requires-clause-fixpoint : goal.decide-requires-clause-fixpoint
decide-requires-clause-fixpoint c =
    c.in_ok-conflict.ensures.fixpoint (ap (λ (o : Option ℕ). Ok o) c.in-None.is)

pub returns-then-branch-clause-stays : goal.returns-then-branch-clause-stays
returns-then-branch-clause-stays c =
    Stays-then c.args.solver.now c.propagate_all.new.solver c.handle_conflict.new.solver c.in_ok-conflict.ensures.stays c.handle_conflict.ensures.stays

pub returns-else-branch-clause-stays : goal.returns-else-branch-clause-stays
returns-else-branch-clause-stays c =
    Stays-then c.args.solver.now c.propagate_all.new.solver c.handle_conflict.new.solver c.in_ok-conflict.ensures.stays c.handle_conflict.ensures.stays

pub returns-else-branch-clause-core : goal.returns-else-branch-clause-core
returns-else-branch-clause-core c = λ core e.
    let same : c.new.result ≡ core = cc in
    let old = c.args.solver.now in
    let middle = c.propagate_all.new.solver in
    subst (λ (l : List ℕ). IsCore old.book.clauses old.assumed.items l) (sym c.new.ensures ∙ same)
    (IsCore-before old.book.clauses middle.book.clauses old.assumed.items [] c.in_ok-conflict.ensures.stays.meaning
    (IsCore-empty middle.book.clauses old.assumed.items (c.in_ok-handle_conflict-in-Some.ensures.refuted (ap (λ (b : Bool). Ok b) c.if-branch.false))))

pub returns-in-None-clause-stays : goal.returns-in-None-clause-stays
returns-in-None-clause-stays c =
    Stays-then c.args.solver.now c.propagate_all.new.solver c.decide.new.solver c.in_ok-conflict.ensures.stays c.decide.ensures.stays

pub returns-in-None-clause-core : goal.returns-in-None-clause-core
returns-in-None-clause-core c = λ core e.
    let old = c.args.solver.now in
    let middle = c.propagate_all.new.solver in
    IsCore-before old.book.clauses middle.book.clauses old.assumed.items core c.in_ok-conflict.ensures.stays.meaning
    (subst (λ (assumed : List ℕ). IsCore middle.book.clauses assumed core) c.in_ok-conflict.ensures.stays.assumptions (c.decide.ensures.core core e))
