-- What a record of a clause holds: the number of literals, two links, and the literals.
use Rattle.std.specs.Prelude.{◌≡◌, ℕ, ◌*◌, ◌<◌, ◌≤◌, ◌==◌, not, Bool, List, [], ◌∷◌, ◌++◌, length, take, drop, min, slice_index, slice_index_or, if◌then◌else◌}
use Rattle.asp_clauses.specs.declared.records.Node.{Node}

abbrev pub row_at : List (List ℕ) → ℕ → List ℕ
row_at rows row = slice_index_or rows row []

abbrev pub end : ℕ
end = 4294967295

-- the clause of a record
abbrev pub literals_of : List ℕ → List ℕ
literals_of row = take (slice_index row 0) (drop 3 row)

-- a record that is in no list
abbrev pub record_of : ℕ → List ℕ → List ℕ
record_of origin literals =
    (length literals ∷ end ∷ end ∷ []) ++ literals ++ drop (min (length literals) 2) (origin ∷ origin ∷ [])

-- each record has its links
abbrev pub AreLong : List (List ℕ) → Type 0
AreLong rows = (row : ℕ) → row < length rows → 1 < length (row_at rows row)

-- ---- a record in two parts: what visits read, and a row with all literals
-- the clause of a row
abbrev pub clause_of : List ℕ → List ℕ
clause_of row = take (slice_index row 0) (drop 1 row)

-- the row of a clause
abbrev pub row_for : ℕ → List ℕ → List ℕ
row_for origin literals = (length literals ∷ []) ++ literals ++ drop (min (length literals) 2) (origin ∷ origin ∷ [])

-- what visits read of a clause: the links of its two watches, and the two watched literals
pub record Top : Type 0 where
  pub first_link : ℕ
  pub second_link : ℕ
  pub first_watch : ℕ
  pub second_watch : ℕ

abbrev pub no_top : Top
no_top = record { first_link = 0; second_link = 0; first_watch = 0; second_watch = 0 }

abbrev pub no_node : Node
no_node = record { next = 0; other = 0 }

abbrev pub node_at : List Node → ℕ → Node
node_at nodes node = slice_index_or nodes node no_node

-- two nodes, each of which has the literal that the other watches
abbrev pub top_of : Node → Node → Top
top_of first second = record { first_link = first.next; second_link = second.next; first_watch = second.other; second_watch = first.other }

-- what visits read of the clauses, from two nodes of each
unfoldable pub tops_of : List Node → List Top
tops_of [] = []
tops_of (first ∷ []) = []
tops_of (first ∷ second ∷ nodes) = top_of first second ∷ tops_of nodes

-- the nodes of a clause that is in no list
abbrev pub nodes_for : ℕ → List ℕ → List Node
nodes_for origin literals =
    (record { next = end; other = slice_index_or literals 1 origin }) ∷ (record { next = end; other = slice_index_or literals 0 origin }) ∷ []

abbrev pub top_at : List Top → ℕ → Top
top_at tops clause = slice_index_or tops clause no_top

-- what visits read of a clause that is in no list
abbrev pub top_for : ℕ → List ℕ → Top
top_for origin literals = record { first_link = end; second_link = end; first_watch = slice_index_or literals 0 origin; second_watch = slice_index_or literals 1 origin }

-- with another link on one side
abbrev pub linked_top : Top → ℕ → ℕ → Top
linked_top top side value = if side == 0 then record top { first_link = value } else record top { second_link = value }

-- whether a number stands in place of the first link
abbrev pub has_number : Top → Bool
has_number top = not (top.first_link == end)

abbrev pub record_at : Top → List ℕ → List ℕ
record_at top row = slice_index row 0 ∷ top.first_link ∷ top.second_link ∷ drop 1 row

-- the records, from their parts
unfoldable pub records_of : List Top → List (List ℕ) → List (List ℕ)
records_of [] rows = []
records_of (top ∷ tops) [] = []
records_of (top ∷ tops) (row ∷ rows) = record_at top row ∷ records_of tops rows

-- the first two literals of the row are what visits read
pub record IsTopped (top : Top) (row : List ℕ) : Type 0 where
  pub long : 3 ≤ length row
  pub first : top.first_watch ≡ slice_index row 1
  pub second : top.second_watch ≡ slice_index row 2

pub record AreTopped (tops : List Top) (rows : List (List ℕ)) : Type 0 where
  pub as_many : length tops ≡ length rows
  pub each : (clause : ℕ) → clause < length rows → IsTopped (top_at tops clause) (row_at rows clause)

-- two nodes a row, with the first two literals of the row
pub record AreNodes (nodes : List Node) (rows : List (List ℕ)) : Type 0 where
  pub as_many : length nodes ≡ 2 * length rows
  pub topped : AreTopped (tops_of nodes) rows
