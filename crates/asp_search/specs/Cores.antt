-- What a core is, and how it is found by going back along the trail.
use Rattle.std.specs.Prelude.{◌≡◌, ℕ, ◌/◌, ◌<◌, ◌⊎◌, Bool, true, List, length, slice_index}
use Rattle.std.specs.List.{Contains}
use Rattle.asp_clauses.specs.declared.trail.Step.{Step}
use Rattle.asp_clauses.specs.Literal.{negated}
use Rattle.asp_clauses.specs.Trail.{step_at, literal_at, is_decision, decisions}
use Rattle.asp_search.specs.Meaning.{SatisfiesAll, AllTrue, Mentions}
use Rattle.asp_search.specs.Analysis.{Refutes, AreMarked}

-- a marked decision
pub record IsMarkedDecision (steps : List Step) (marked : List ℕ) (literal : ℕ) : Type 0 where
  pub place : ℕ
  pub within : place < length steps
  pub is : literal_at steps place ≡ literal
  pub decided : is_decision (step_at steps place) ≡ true
  pub has : Contains marked literal

-- the marks before place `end` and the core refute the clauses; the core has the false assumption first, then decisions
pub record IsTrace (clauses : List (List ℕ)) (steps : List Step) (marked : List ℕ) (end : ℕ) (core : List ℕ) : Type 0 where
  pub refutes : Refutes clauses steps marked end core
  pub levels : AreMarked steps (decisions steps) marked
  pub some : 0 < length core
  pub mentions : (literal : ℕ) → Contains marked literal → (literal ≡ negated (slice_index core 0)) ⊎ Mentions clauses (literal / 2)
  pub members : (literal : ℕ) → Contains core literal → (literal ≡ slice_index core 0) ⊎ IsMarkedDecision steps marked literal

-- a part of the assumptions with which no assignment satisfies the clauses, and whose atoms the clauses mention
pub record IsCore (clauses : List (List ℕ)) (assumed core : List ℕ) : Type 0 where
  pub part : (literal : ℕ) → Contains core literal → Contains assumed literal
  pub refuted : (v : ℕ → Bool) → SatisfiesAll v clauses → AllTrue v core → ⊥
  pub mentioned : (literal : ℕ) → Contains core literal → Mentions clauses (literal / 2)
