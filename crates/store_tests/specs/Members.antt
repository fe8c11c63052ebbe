-- What a test knows of a machine's members. All definitions are transparent.
use Rattle.std.specs.Prelude.{◌≡◌, ℕ, ◌<◌, Bool, true, false, List, length, map, get_or}
use Rattle.asp_defs.specs.Machine.{start}
use Rattle.asp_core.specs.Machines.{MachineState}
use Rattle.store_tests.specs.Games.{two_choices, no_rules}

-- a member lives, of not too many
pub record IsAlive (lives : List Bool) (number : ℕ) : Type 0 where
  pub lives_now : get_or lives number false ≡ true
  pub inside : number < length lives
  pub few : length lives < 1000

-- the game is that of two choices, and it is known which members live
pub record Knows (m : MachineState) (lives : List Bool) : Type 0 where
  pub game : m.game ≡ two_choices
  pub members : map (λ member. member.lives) m.state.members ≡ lives

-- the start in the game without rules
abbrev pub begun_machine : MachineState
begun_machine = record { game = no_rules; allowed = 9; state = start }
