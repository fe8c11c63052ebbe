-- A clause as callers give it.
use Rattle.std.specs.Prelude.{◌≡◌, ℕ, List}
use Rattle.std.specs.List.{Contains}
use Rattle.asp_clauses.specs.Literal.{negated}
use Rattle.asp_search.specs.declared.solver.Solver.{Solver}
use Rattle.asp_clauses.specs.Book.{Goes}
use Rattle.asp_search.specs.Learned.{AreLearned, IsGround}
use Rattle.asp_search.specs.Solver.{IsReady, AreInRange}

-- both literals of an atom stand in the clause
pub record IsTautology (clause : List ℕ) : Type 0 where
  pub literal : ℕ
  pub has : Contains clause literal
  pub has_opposite : Contains clause (negated literal)

-- the same literals, and none with its negation
pub record Collects (clause collected : List ℕ) : Type 0 where
  pub from : (literal : ℕ) → Contains collected literal → Contains clause literal
  pub to : (literal : ℕ) → Contains clause literal → Contains collected literal
  pub apart : (literal : ℕ) → Contains collected literal → Contains collected (negated literal) → ⊥

-- clauses and marks have changed, and the book still goes with the trail
pub record KeepsBook (old new : Solver) : Type 0 where
  pub goes : Goes new.book new.trail
  pub ranges : AreInRange new.trail.atoms new.book.clauses
  pub learned : AreLearned new.book.kinds new.book.clauses
  pub trail : new.trail ≡ old.trail
  pub assumed : new.assumed ≡ old.assumed
  pub cursor : new.cursor ≡ old.cursor
  pub held : new.held ≡ old.held
  pub front : new.front ≡ old.front
  pub in_order : new.in_order ≡ old.in_order
  pub looked : new.looked ≡ old.looked
  pub ground_loose : new.ground_loose ≡ old.ground_loose
  pub ground : IsGround new.book.kinds old.trail.steps old.looked old.ground_loose
  pub codes : new.seen.codes ≡ old.seen.codes
  pub heap : new.heap ≡ old.heap
  pub decided : new.decided ≡ old.decided
  pub activity : new.activity ≡ old.activity

-- only the clauses have changed
pub record KeepsAll (old new : Solver) : Type 0 where
  pub ready : IsReady new
  pub trail : new.trail ≡ old.trail
  pub assumed : new.assumed ≡ old.assumed
  pub in_order : new.in_order ≡ old.in_order
  pub decided : new.decided ≡ old.decided
  pub activity : new.activity ≡ old.activity
