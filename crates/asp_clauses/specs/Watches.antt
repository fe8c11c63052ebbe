-- The lists of watching clauses, as heads and links that lie in the records.
use Rattle.std.specs.Prelude.{◌≡◌, ◌≢◌, ℕ, ◌+◌, ◌^◌, ◌<◌, ◌≤◌, ◌⊎◌, ◌==◌, List, [], length, map, max, slice_index, slice_index_or, if◌then◌else◌}
use Rattle.asp_clauses.specs.Literal.{most_atoms}
use Rattle.asp_clauses.specs.declared.kind.Kind.{Kind}
use Rattle.asp_clauses.specs.declared.watches.Watches.{Watches}
use Rattle.asp_clauses.specs.Records.{row_at, literals_of, end}
use Rattle.asp_clauses.specs.Book.{BookState, IsClause, origin}

-- a record of a clause over these atoms
pub record IsRecord (atoms : ℕ) (row : List ℕ) : Type 0 where
  pub size : length row ≡ 3 + max (slice_index row 0) 2
  pub one : slice_index row 0 < 2 → slice_index row 4 ≡ origin atoms
  pub none : slice_index row 0 < 1 → slice_index row 3 ≡ origin atoms
  pub clause : IsClause atoms (literals_of row)

-- which of its two watches the literal is: the first, or else the second
abbrev pub side_of : List ℕ → ℕ → ℕ
side_of row literal = if slice_index row 3 == literal then 0 else 1

-- the clause after this one in the list of the literal
abbrev pub link_of : List (List ℕ) → ℕ → ℕ → ℕ
link_of rows literal clause = slice_index (row_at rows clause) (1 + side_of (row_at rows clause) literal)

-- the clause watches the literal
abbrev pub Watching : List (List ℕ) → ℕ → ℕ → Type 0
Watching rows literal clause =
    (slice_index (row_at rows clause) 3 ≡ literal) ⊎ (slice_index (row_at rows clause) 4 ≡ literal)

-- heads and links run through the lists
pub record AreThreads (atoms : ℕ) (heads : List ℕ) (rows : List (List ℕ)) (lists : ℕ → List ℕ) : Type 0 where
  pub head : (literal : ℕ) → literal ≤ origin atoms → slice_index heads literal ≡ slice_index_or (lists literal) 0 end
  pub link : (literal k : ℕ) → literal ≤ origin atoms → k < length (lists literal) →
      link_of rows literal (slice_index_or (lists literal) k end) ≡ slice_index_or (lists literal) (k + 1) end

-- each list has just the clauses that belong there, each once
pub record ListsOf (Belongs : ℕ → ℕ → Type 0) (atoms : ℕ) (lists : ℕ → List ℕ) : Type 0 where
  pub sound : (literal k : ℕ) → literal ≤ origin atoms → k < length (lists literal) → Belongs literal (slice_index_or (lists literal) k end)
  pub complete : (literal clause : ℕ) → literal ≤ origin atoms → Belongs literal clause →
      (k : ℕ) × (k < length (lists literal)) × (slice_index_or (lists literal) k end ≡ clause)
  pub distinct : (literal j k : ℕ) → literal ≤ origin atoms → j < k → k < length (lists literal) →
      slice_index_or (lists literal) j end ≢ slice_index_or (lists literal) k end

-- a clause below this number, which watches the literal
abbrev pub WatchingBelow : List (List ℕ) → ℕ → ℕ → ℕ → Type 0
WatchingBelow rows watched literal clause = (clause < watched) × Watching rows literal clause

-- sizes, and that each row is a record; the clauses that are watched have a literal
pub record IsStore (watches : Watches) : Type 0 where
  pub few_atoms : watches.atoms ≤ most_atoms
  pub heads : length watches.heads.items ≡ origin watches.atoms + 1
  pub few : length watches.records < 2 ^ 32
  pub watched : watches.watched ≤ length watches.records
  pub records : (clause : ℕ) → clause < length watches.records → IsRecord watches.atoms (row_at watches.records clause)
  pub not_empty : (clause : ℕ) → clause < watches.watched → 0 < slice_index (row_at watches.records clause) 0

-- the lists of the watched clauses
pub record IsListed (watches : Watches) (lists : ℕ → List ℕ) : Type 0 where
  pub threads : AreThreads watches.atoms watches.heads.items watches.records lists
  pub members : ListsOf (WatchingBelow watches.records watches.watched) watches.atoms lists

-- the store is sound, and each watched clause stands in the lists of the two literals that it watches
pub record AreWatches (watches : Watches) : Type 0 where
  pub store : IsStore watches
  pub listed : (lists : ℕ → List ℕ) × IsListed watches lists

-- the book that the watches hold, by itself without kinds
abbrev pub book_of : Watches → BookState
book_of watches = record { atoms = watches.atoms; clauses = map literals_of watches.records; kinds = []; watched = watches.watched }

-- each clause has its kind
abbrev pub HaveKinds : Watches → List Kind → Type 0
HaveKinds watches kinds = length kinds ≡ length watches.records
