-- What contracts see of one who answers questions to a level: the child of the level before. All definitions are transparent.
use Rattle.std.specs.Prelude.{◌≡◌, ℕ, ◌+◌, ◌≤◌, List, [], get_or}
use Rattle.asp_defs.specs.declared.faults.Kind.{Kind}
use Rattle.asp_defs.specs.declared.faults.Kind.TheVariants.{Search, Minimal, Store}
use Rattle.asp_defs.specs.declared.ground.Game.{Game}
use Rattle.asp_defs.specs.declared.ground.Lit.{Lit}
use Rattle.asp_defs.specs.Entries.{Entry}
use Rattle.asp_node.specs.Ends.{AreRefuted}

-- the game, the level whose questions are answered, the budget of each search, and for each level from that one on: the cubes that
-- its moves leave out for good, and how often a search of a kind has spent the budget, as counts of 64 bits that stand still at
-- their end
pub record ChildState : Type 0 where
  pub game : Game
  pub level : ℕ
  pub budget : ℕ
  pub kept : List (List (List Lit))
  pub searches : List ℕ
  pub checks : List ℕ

-- how often a search of a kind has spent the budget, so many levels behind the child's
abbrev pub count_at : ChildState → Kind → ℕ → ℕ
count_at c Search place = get_or c.searches place 0
count_at c Minimal place = get_or c.checks place 0
count_at c Store place = 0

-- the game, the level and the budget stay, and no count falls
pub record ChildGoesOn (old new : ChildState) : Type 0 where
  pub game : new.game ≡ old.game
  pub level : new.level ≡ old.level
  pub budget : new.budget ≡ old.budget
  pub counts : (kind : Kind) (place : ℕ) → count_at old kind place ≤ count_at new kind place

-- what the child leaves out is refuted by a history
abbrev pub RestsOn : List Entry → ChildState → Type 0
RestsOn seen c = (place : ℕ) → AreRefuted c.game (c.level + place) seen (get_or c.kept place [])
