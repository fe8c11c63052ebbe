-- What a store keeps, and what its additions answer.
use Rattle.std.specs.Prelude.{◌≡◌, ℕ, ◌+◌, ◌<◌, ◌≤◌, Bool, false, nat_lt, List, [], ◌∷◌, ◌++◌, length, get_or, set, IsTrue, None, Some}
use Rattle.asp_defs.specs.declared.faults.Kind.TheVariants.{Store as StoreKind}
use Rattle.asp_defs.specs.declared.faults.Unknown.{Unknown}
use Rattle.asp_defs.specs.declared.ground.Game.{Game}
use Rattle.asp_defs.specs.Games.{level_count, IsValid}
use Rattle.asp_defs.specs.Entries.{Entry, cost, cube_holds}
use Rattle.asp_defs.specs.History.{is_legal, cells}
use Rattle.asp_store.specs.Histories.{StoreState, first_held, positions}

-- the most cells that entries may take
abbrev pub most_cells : ℕ
most_cells = 500000000

-- what is kept of a game's history: it is legal, its entries take so many cells, no more than are allowed, and the positions
-- of each level's entries are listed
pub record IsKept (g : Game) (allowed kept : ℕ) (H : List Entry) (levels : List (List ℕ)) : Type 0 where
  pub valid : IsValid g
  pub limit : allowed ≤ most_cells
  pub counted : kept ≡ cells H
  pub within : cells H ≤ allowed
  pub legal : IsTrue (is_legal g H)
  pub level_lists : length levels ≡ level_count g + 2
  pub listed : (level : ℕ) → level < level_count g + 2 → get_or levels level [] ≡ positions H level

-- an addition is refused: no entry of its level holds the seed, and the cells don't suffice
pub record IsFull (s : StoreState) (e : Entry) (u : Unknown) : Type 0 where
  pub fresh : first_held s.history e.level e.seed ≡ None
  pub exceeds : s.allowed < cells s.history + cost e
  pub unknown : u ≡ record { kind = StoreKind; level = e.level; budget = s.allowed }

-- an addition is made: no entry of its level holds the seed, and the cells suffice
pub record IsAppended (old new : StoreState) (e : Entry) (at : ℕ) : Type 0 where
  pub fresh : first_held old.history e.level e.seed ≡ None
  pub fits : cells old.history + cost e ≤ old.allowed
  pub place : at ≡ length old.history
  pub appended : new ≡ record old { history = old.history ++ e ∷ [] }

-- an addition is known: an entry of its level, the first such one, holds the seed
pub record IsKnown (old new : StoreState) (e : Entry) (at : ℕ) : Type 0 where
  pub held : first_held old.history e.level e.seed ≡ Some at
  pub unchanged : new ≡ old

-- whether a number is a position in a history
abbrev pub is_position : List Entry → ℕ → Bool
is_position H at = nat_lt at (length H)

-- an entry that stands where there is none
abbrev pub no_entry : Entry
no_entry = record { level = 0; cube = []; verdict = false; seed = [] }

-- whether the entry at a position holds an interpretation
abbrev pub holds_there : List Entry → List ℕ → ℕ → Bool
holds_there H M at = cube_holds (get_or H at no_entry).cube M

-- lists with one more item in one of them
abbrev pub snoc_at : List (List ℕ) → ℕ → ℕ → List (List ℕ)
snoc_at lists i at = set lists i (get_or lists i [] ++ at ∷ [])
