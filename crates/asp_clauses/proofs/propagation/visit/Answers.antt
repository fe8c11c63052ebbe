use Rattle.std.proofs.Common.{◌≡◌, ℕ, ◌+◌, length, get_or, refl, sym, ◌∙◌, ap, subst, arith, inl, inr, Ok}
use Rattle.std.proofs.lemmas.List.{get_or_read}
use Rattle.asp_clauses.specs.declared.watches.Watches.{Watches}
use Rattle.asp_clauses.specs.Records.{row_at}
use Rattle.asp_clauses.specs.Book.{Goes}
use Rattle.asp_clauses.specs.Watches.{book_of}
use Rattle.asp_clauses.specs.Visits.{IsConflict}
use Rattle.asp_clauses.proofs.WalkLemmas.{IsVisiting, IsVisiting-start, IsVisiting-stays, IsVisiting-moves, at_clause, AllWatched-visited, Propagates-step}
use Rattle.asp_clauses.proofs.propagation.visit.Goals as goal
use Rattle.asp_clauses.proofs.propagation.visit.Goals.{in-Stays, in-Moved}

pub walk-init : goal.walk-init
walk-init c =
    let first = c.args.watches.now in let start = c.args.trail.now in
    let s = c.requires.watches.store in let v = c.requires.visit.within in let a = c.requires.goes.same_atoms in
    let read = get_or_read first.heads.items c.args.falsified c.index-clause.result.now (omega (arith, s.heads, v, a)) c.index-clause.ensures 0 in
    IsVisiting-start first start c.args.falsified c.index-clause.result.now (length first.records) c.requires.watches c.requires.goes c.requires.visit read refl

pub returns-then-clause-clause-visited : goal.returns-then-clause-clause-visited
returns-then-clause-clause-visited c = λ _.
    let first = c.args.watches.now in let start = c.args.trail.now in let watches = c.walk.watches in let trail = c.walk.trail in
    let turns = length first.records in
    AllWatched-visited first watches start trail c.args.falsified c.walk.previous c.walk.clause c.walk._turn turns c.walk.invariant (inl c.if-clause.true)

pub visit_clause-requires-clause-clause : goal.visit_clause-requires-clause-clause
visit_clause-requires-clause-clause c =
    let first = c.args.watches.now in let start = c.args.trail.now in let watches = c.walk.watches in let trail = c.walk.trail in
    let turns = length first.records in
    (at_clause first watches start trail c.args.falsified c.walk.previous c.walk.clause c.walk._turn turns c.walk.invariant c.if-clause.false).watching

pub visit_clause-requires-clause-previous : goal.visit_clause-requires-clause-previous
visit_clause-requires-clause-previous c =
    let first = c.args.watches.now in let start = c.args.trail.now in let watches = c.walk.watches in let trail = c.walk.trail in
    let turns = length first.records in
    (at_clause first watches start trail c.args.falsified c.walk.previous c.walk.clause c.walk._turn turns c.walk.invariant c.if-clause.false).before

pub returns-in_err-visit_clause-clause-propagates : goal.returns-in_err-visit_clause-clause-propagates
returns-in_err-visit_clause-clause-propagates c =
    let first = c.args.watches.now in let start = c.args.trail.now in let watches = c.walk.watches in let trail = c.walk.trail in
    let turns = length first.records in
    let stopped = c.in_err-visit_clause.ensures.spent refl in
    Propagates-step first watches c.visit_clause.new.watches start trail c.visit_clause.new.trail c.walk.invariant.propagates stopped.0 (subst (λ (x : Watches). Goes (book_of x) c.visit_clause.new.trail) stopped.0 c.visit_clause.ensures.goes) c.visit_clause.ensures.extended

pub returns-in-False-clause-propagates : goal.returns-in-False-clause-propagates
returns-in-False-clause-propagates c =
    let first = c.args.watches.now in let start = c.args.trail.now in let watches = c.walk.watches in let trail = c.walk.trail in
    let turns = length first.records in
    let conflict = c.visit_clause.ensures.conflict (c.in_ok-visit_clause.was ∙ ap Ok c.in-False.is) in
    Propagates-step first watches c.visit_clause.new.watches start trail c.visit_clause.new.trail c.walk.invariant.propagates conflict.0 (subst (λ (x : Watches). Goes (book_of x) c.visit_clause.new.trail) conflict.0 c.visit_clause.ensures.goes) c.visit_clause.ensures.extended

pub returns-in-False-clause-conflict : goal.returns-in-False-clause-conflict
returns-in-False-clause-conflict c = λ clause e.
    let conflict = c.visit_clause.ensures.conflict (c.in_ok-visit_clause.was ∙ ap Ok c.in-False.is) in
    let same : c.walk.clause ≡ clause = cc in
    subst (IsConflict (book_of c.visit_clause.new.watches) c.visit_clause.new.trail.steps) same (subst (λ (x : Watches). IsConflict (book_of x) c.visit_clause.new.trail.steps c.walk.clause) (sym conflict.0) conflict.1)

pub walk-preserved : goal.walk-preserved
walk-preserved c =
    let first = c.args.watches.now in let start = c.args.trail.now in let watches = c.walk.watches in let trail = c.walk.trail in
    let turns = length first.records in
    let new = c.visit_clause.new.watches in let after = c.visit_clause.new.trail in
    elim c.match-branch-2.branch [
      | in-Stays w ↦ subst (λ (n : ℕ). IsVisiting first new start after c.args.falsified n c.link-next.result (c.walk._turn + 1) turns) (sym w.previous-is)
          (IsVisiting-stays first watches new start trail after c.args.falsified c.walk.previous c.walk.clause c.link-next.result c.walk._turn turns c.walk.invariant c.if-clause.false (c.link-next.ensures ∙ ap (λ (n : ℕ). get_or (row_at watches.records c.walk.clause) (1 + n) 0) c.side-side.ensures)
          (c.visit_clause.ensures.stays (c.in_ok-visit_clause.was ∙ ap Ok w.in-Stays.is)) c.visit_clause.ensures.goes c.visit_clause.ensures.extended c.visit_clause.ensures.head)
      | in-Moved w ↦ subst (λ (n : ℕ). IsVisiting first new start after c.args.falsified n c.link-next.result (c.walk._turn + 1) turns) (sym w.previous-is)
          (IsVisiting-moves first watches new start trail after c.args.falsified c.walk.previous c.walk.clause c.link-next.result c.walk._turn turns c.walk.invariant c.if-clause.false (c.link-next.ensures ∙ ap (λ (n : ℕ). get_or (row_at watches.records c.walk.clause) (1 + n) 0) c.side-side.ensures)
          (c.visit_clause.ensures.moved (c.in_ok-visit_clause.was ∙ ap Ok w.in-Moved.is)) c.visit_clause.ensures.goes)
    ]

pub returns-clause-visited : goal.returns-clause-visited
returns-clause-visited c = λ _.
    let first = c.args.watches.now in let start = c.args.trail.now in let watches = c.walk.watches in let trail = c.walk.trail in
    let turns = length first.records in
    AllWatched-visited first watches start trail c.args.falsified c.walk.previous c.walk.clause c.walk._turn turns c.walk.invariant (inr (omega (arith, c.walk-test.false, c.len-turn-end.ensures.value)))
