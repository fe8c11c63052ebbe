-- When a book, a trail, the set of seen literals and the decision heap are over the same atoms.
use Rattle.std.specs.Prelude.{◌≡◌, ◌*◌, ◌≤◌}
use Rattle.asp_clauses.specs.Literal.{most_atoms}
use Rattle.asp_clauses.specs.Trail.{TrailState}
use Rattle.asp_clauses.specs.Book.{BookState, Goes}
use Rattle.asp_search.specs.Seen.{SeenSet}
use Rattle.asp_decide.specs.DecisionHeap.{HeapState}

pub record AreFitted (book : BookState) (trail : TrailState) (seen : SeenSet) (heap : HeapState) : Type 0 where
  pub goes : Goes book trail
  pub few : trail.atoms ≤ most_atoms
  pub codes : seen.codes ≡ 2 * trail.atoms
  pub heap_atoms : heap.atoms ≡ trail.atoms

-- both are over as many atoms as before
pub record AreKept (old_seen : SeenSet) (old_heap : HeapState) (seen : SeenSet) (heap : HeapState) : Type 0 where
  pub codes : seen.codes ≡ old_seen.codes
  pub atoms : heap.atoms ≡ old_heap.atoms
