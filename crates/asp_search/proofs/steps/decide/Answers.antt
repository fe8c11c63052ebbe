use Rattle.std.proofs.Common.{◌+◌, ◌*◌, ⊎_elim, inl, inr, refl}
use Rattle.asp_clauses.specs.Trail.{IsPlaced}
use Rattle.asp_clauses.specs.Choices.{IsFixpoint}
use Rattle.asp_decide.specs.Total.{IsTotal}
use Rattle.asp_search.proofs.Deciding.{clauses_satisfied, truth_placed, Contains-literals}
use Rattle.asp_search.proofs.steps.decide.Goals as goal

pub returns-in-None-clause-found : goal.returns-in-None-clause-found
returns-in-None-clause-found c = λ _.
    let s = c.next_assumption.new.solver in
    let moves = c.next_assumption.ensures.moves in
    let apart = moves.ready.fitted.goes.lawful.distinct in
    let total : IsTotal s.trail.atoms s.trail.steps = c.in-None.ensures.total refl in
    let fixpoint : IsFixpoint s.book s.trail.steps = rw (moves.book, moves.trail) c.requires.fixpoint in
    record {
      total = λ atom low.
          ⊎_elim
          (λ (p : IsPlaced s.trail.steps (2 * atom + 1)). inl (Contains-literals s.trail.steps (2 * atom + 1) p))
          (λ (p : IsPlaced s.trail.steps (2 * atom)). inr (Contains-literals s.trail.steps (2 * atom) p))
          (total atom low);
      clauses = clauses_satisfied s.book s.trail.atoms s.trail.steps apart moves.ready.ranges total fixpoint;
      assumed = λ literal has. truth_placed s.trail.steps apart literal (c.in_default.ensures.all refl literal has);
    }
