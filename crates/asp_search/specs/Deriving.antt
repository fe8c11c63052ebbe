-- What an analysis leaves.
use Rattle.std.specs.Prelude.{◌≡◌, ℕ, ◌<◌, length}
use Rattle.asp_search.specs.declared.solver.Solver.{Solver}
use Rattle.asp_search.specs.Learned.{base_of}
use Rattle.asp_search.specs.Analysis.{IsLearned}

-- the clause that stands in `learned` follows, and implies a literal once the trail went back
pub record Derives (solver : Solver) (place target : ℕ) : Type 0 where
  pub within : place < length solver.trail.steps
  pub learned : IsLearned solver.trail.atoms (base_of solver.book solver.loose) solver.trail.steps solver.learned.items place target

-- only seen literals, the decision heap and the learned clause have changed
pub record Keeps (old new : Solver) : Type 0 where
  pub book : new.book ≡ old.book
  pub trail : new.trail ≡ old.trail
  pub assumed : new.assumed ≡ old.assumed
  pub cursor : new.cursor ≡ old.cursor
  pub held : new.held ≡ old.held
  pub front : new.front ≡ old.front
  pub in_order : new.in_order ≡ old.in_order
  pub looked : new.looked ≡ old.looked
  pub ground_loose : new.ground_loose ≡ old.ground_loose
  pub codes : new.seen.codes ≡ old.seen.codes
  pub heap : new.heap.atoms ≡ old.heap.atoms
  pub decided : new.decided ≡ old.decided
  pub activity : new.activity ≡ old.activity
