-- Why a game is too large (of this project). All definitions are transparent.
use Rattle.std.specs.Prelude.{◌≡◌, Some}
use Rattle.asp_defs.specs.declared.faults.Which.TheVariants.{Instances}
use Rattle.asp_defs.specs.declared.faults.SizeFault.{SizeFault}
use Rattle.asp_defs.specs.declared.faults.SizeFault.TheVariants.{TooLarge, NoMemory}
use Rattle.asp_defs.specs.declared.syntax.Program.{Program}
use Rattle.asp_defs.specs.Limits.{past_limit}
use Rattle.asp_defs.specs.Sizes.{instance_total, game_too_large}

-- a fault is the refusal of a program for the size of its game: the first limit that it passes with the count, or out of
-- memory
abbrev pub IsGameRefusal : Program → SizeFault → Type 0
IsGameRefusal p (TooLarge which count) = game_too_large p ≡ Some (which, count)
IsGameRefusal p NoMemory = Unit {0}

-- a refusal of a program for its instances shows the limit that is passed with the count, or says that memory ran out
abbrev pub IsInstanceFault : Program → SizeFault → Type 0
IsInstanceFault p (TooLarge which count) = past_limit Instances (instance_total p) ≡ Some (which, count)
IsInstanceFault p NoMemory = Unit {0}
