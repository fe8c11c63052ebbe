-- What a fault says of the program that it refuses.
use Rattle.std.specs.Prelude.{◌≡◌, Some}
use Rattle.asp_defs.specs.declared.syntax.Program.{Program}
use Rattle.asp_defs.specs.Checks.{UnsafeRule, HeadedRule, PastLimit, check_refusal}
use Rattle.asp_check.specs.declared.checks.CheckFault.{CheckFault}
use Rattle.asp_check.specs.declared.checks.CheckFault.TheVariants.{Unsafe, NotConstraint, TooLarge, NoMemory}

-- the fault is the program's first refusal; out of memory says nothing
abbrev pub IsRefusal : Program → CheckFault → Type 0
IsRefusal p (Unsafe number variable) = check_refusal p ≡ Some (UnsafeRule number variable)
IsRefusal p (NotConstraint number) = check_refusal p ≡ Some (HeadedRule number)
IsRefusal p (TooLarge which count) = check_refusal p ≡ Some (PastLimit which count)
IsRefusal p NoMemory = Unit {0}
