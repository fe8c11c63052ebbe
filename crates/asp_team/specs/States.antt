-- What contracts see of a game's levels, one worker for each, and of a history with them. All definitions are transparent.
use Rattle.std.specs.Prelude.{◌≡◌, ◌≢◌, ℕ, zero, suc, ◌+◌, ◌-◌, ◌*◌, ◌<◌, ◌≤◌, ◌⊎◌, ⊤, List, [], ◌∷◌, ◌++◌, get_or, length, Bool, true, false, IsTrue, Option, None, Some}
use Rattle.asp_defs.specs.declared.faults.Kind.{Kind}
use Rattle.asp_defs.specs.declared.faults.Kind.TheVariants.{Store}
use Rattle.asp_defs.specs.declared.faults.Unknown.{Unknown}
use Rattle.asp_defs.specs.declared.ground.Game.{Game}
use Rattle.asp_defs.specs.Entries.{Entry}
use Rattle.asp_defs.specs.Games.{IsValid, level_count, base_size}
use Rattle.asp_defs.specs.History.{is_legal, cells}
use Rattle.asp_defs.specs.Shown.{Evidence, spent_count}
use Rattle.asp_defs.specs.Unknowns.{enough_placements, enough_cells}
use Rattle.asp_game.specs.State.{MovesState}
use Rattle.asp_game.specs.Answers.{Rose}
use Rattle.asp_answers.specs.AnswersState.{unasked}
use Rattle.asp_store.specs.Histories.{StoreState}
use Rattle.asp_store.specs.Shelves.{ShelfState}
use Rattle.asp_node.specs.Children.{ChildState, ChildGoesOn, count_at}

-- who answers behind the last level: it leaves nothing out, and searches nothing
abbrev pub base_state : Game → ℕ → ChildState
base_state g budget = record {
  game = g;
  level = level_count g + 1;
  budget = budget;
  kept = [];
  searches = [];
  checks = [];
}

-- who answers for a level, by its moves and by who answers for the next level
abbrev pub layer_state : MovesState → ChildState → ChildState
layer_state m c = record {
  game = m.game;
  level = m.level;
  budget = m.budget;
  kept = m.kept ∷ c.kept;
  searches = m.searches ∷ c.searches;
  checks = m.checks ∷ c.checks;
}

-- the moves are those of a level of a valid game, and who answers for the next level has that game and their budget
pub record IsLayered (m : MovesState) (c : ChildState) : Type 0 where
  pub valid : IsValid m.game
  pub first : 1 ≤ m.level
  pub last : m.level ≤ level_count m.game
  pub game : c.game ≡ m.game
  pub next : c.level ≡ m.level + 1
  pub budget : c.budget ≡ m.budget

-- who answers for a level, or for the next one where there are no moves of a level of its own
abbrev pub over : Option MovesState → ChildState → ChildState
over None c = c
over (Some m) c = layer_state m c

abbrev pub IsOver : Option MovesState → ChildState → Type 0
IsOver None c = ⊤
IsOver (Some m) c = IsLayered m c

-- a question was answered: what never changes is as before, and both still fit together
pub record StaysOver (own : Option MovesState) (c : ChildState) (new : Option MovesState) (d : ChildState) : Type 0 where
  pub goes_on : ChildGoesOn (over own c) (over new d)
  pub fit : IsOver new d

-- whether there are moves of a level of its own, and it is the level that is asked or a later one
abbrev pub IsOwn : Option MovesState → ℕ → Bool → Type 0
IsOwn None level answer = answer ≡ false
IsOwn (Some m) level answer = (answer ≡ true → level ≤ m.level) × (answer ≡ false → m.level < level)

-- who answers for a level, of whom nothing was asked yet
pub record IsFresh (g : Game) (first most : ℕ) (c : ChildState) : Type 0 where
  pub game : c.game ≡ g
  pub level : c.level ≡ first
  pub budget : c.budget ≡ most
  pub kept : (place : ℕ) → get_or c.kept place [] ≡ []
  pub spent : (kind : Kind) (place : ℕ) → count_at c kind place ≡ 0

-- the moves of the first levels of a game, none of which was asked for yet, the last level last
abbrev pub first_levels : Game → ℕ → ℕ → List MovesState
first_levels g most zero = []
first_levels g most (suc count) = first_levels g most count ++ unasked g (suc count) most ∷ []

-- the moves of the first levels that no one answers for yet, and who answers for the next one, of whom nothing was asked yet
pub record IsUnfinished (levels : List MovesState) (c : ChildState) : Type 0 where
  pub valid : IsValid c.game
  pub few : length levels ≤ level_count c.game
  pub first : levels ≡ first_levels c.game c.budget (length levels)
  pub fresh : IsFresh c.game (length levels + 1) c.budget c

-- the last of the levels, as many as are said, have got someone who answers for them
pub record AreWrapped (count : ℕ) (old : List MovesState) (c : ChildState) (new : List MovesState) (d : ChildState) : Type 0 where
  pub game : d.game ≡ c.game
  pub budget : d.budget ≡ c.budget
  pub left : length new ≡ length old - count
  pub rest : IsUnfinished new d

-- what a history shows, with all who answer: the game, the budget of each search, the cells, the history as far as it was seen,
-- and for each level how often a search of a kind spent the budget or an addition was refused
abbrev pub evidence_of : ShelfState → ChildState → Evidence
evidence_of s c = record {
  game = c.game;
  budget = c.budget;
  allowed = s.allowed;
  history = s.seen;
  searches = c.searches;
  checks = c.checks;
  refusals = s.refusals;
}

-- of a game with these bounds, before anything was asked: the history is empty and no budget was spent
pub record IsNew (g : Game) (most cells : ℕ) (used : Evidence) : Type 0 where
  pub game : used.game ≡ g
  pub budget : used.budget ≡ most
  pub allowed : used.allowed ≡ cells
  pub history : used.history ≡ []
  pub spent : (kind : Kind) (level : ℕ) → spent_count used kind level ≡ 0

-- the game, the budget and the cells stay, no count falls, and what was seen before is seen first
pub record TeamGoesOn (old new : Evidence) : Type 0 where
  pub game : new.game ≡ old.game
  pub budget : new.budget ≡ old.budget
  pub allowed : new.allowed ≡ old.allowed
  pub counts : (kind : Kind) (level : ℕ) → spent_count old kind level ≤ spent_count new kind level
  pub more : List Entry
  pub prefix : new.history ≡ old.history ++ more
  pub legal : IsTrue (is_legal new.game new.history)

-- why a question stays open: a search of a level spent its budget, which isn't enough for all of them
pub record HasSpentSearch (old new : Evidence) (u : Unknown) : Type 0 where
  pub kind : u.kind ≢ Store
  pub first : 1 ≤ u.level
  pub last : u.level ≤ level_count old.game
  pub budget : u.budget ≡ old.budget
  pub few : old.budget < enough_placements old.game u.level
  pub rose : Rose (spent_count old u.kind u.level) (spent_count new u.kind u.level)

-- or the cells didn't suffice for an entry of a level, and they aren't enough for all of them
pub record HasSpentCells (old new : Evidence) (u : Unknown) : Type 0 where
  pub kind : u.kind ≡ Store
  pub first : 1 ≤ u.level
  pub last : u.level ≤ level_count new.game + 1
  pub budget : u.budget ≡ new.allowed
  pub exceeds : new.allowed < cells new.history + (1 + 2 * base_size new.game (u.level - 1))
  pub few : new.allowed < enough_cells new.game
  pub rose : Rose (spent_count old u.kind u.level) (spent_count new u.kind u.level)

abbrev pub HasSpent : Evidence → Evidence → Unknown → Type 0
HasSpent old new u = HasSpentSearch old new u ⊎ HasSpentCells old new u

-- the store of a history
abbrev pub stored : Evidence → StoreState
stored used = record { game = used.game; allowed = used.allowed; history = used.history }
