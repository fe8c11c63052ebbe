-- What contracts say of a level whose moves are looked for.
use Rattle.std.specs.Prelude.{ℕ, ◌≡◌, ◌-◌, ◌≤◌, true, List, length, slice_index}
use Rattle.asp_defs.specs.declared.ground.Game.{Game}
use Rattle.asp_defs.specs.declared.ground.Bound.{Bound}
use Rattle.asp_defs.specs.declared.ground.GroundRule.{GroundRule}
use Rattle.asp_defs.specs.Interpretations.{holds}
use Rattle.asp_defs.specs.Games.{base, rules_of, bounds_of, level_count, IsValid}
use Rattle.asp_completion.specs.declared.level.Level.{Level}
use Rattle.asp_completion.specs.Codes.{rank}

-- the game, the base of the level, the base below it, and the level's rules and bounds
abbrev pub game_at : Level → Game
game_at l = l.game.value

abbrev pub upper : Level → List ℕ
upper l = base (game_at l) l.number

abbrev pub lower : Level → List ℕ
lower l = base (game_at l) (l.number - 1)

abbrev pub rules_at : Level → List GroundRule
rules_at l = rules_of (game_at l) l.number

abbrev pub bounds_at : Level → List Bound
bounds_at l = bounds_of (game_at l) l.number

-- a table over all atoms of a game has at each atom of a base its place there
pub record AreRanks (B : List ℕ) (atoms : ℕ) (table : List ℕ) : Type 0 where
  pub size : length table ≡ atoms
  pub places : (a : ℕ) → holds B a ≡ true → slice_index table a ≡ rank B a

-- a quantified level of a valid game, with its table
pub record IsLevel (l : Level) : Type 0 where
  pub valid : IsValid (game_at l)
  pub first : 1 ≤ l.number
  pub last : l.number ≤ level_count (game_at l)
  pub ranks : AreRanks (upper l) (length (game_at l).bases.atoms) l.ranks.items
