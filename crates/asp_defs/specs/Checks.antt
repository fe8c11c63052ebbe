-- The checks of a program as it is written, and the refusal that comes first (of this project). All definitions are
-- transparent.
use Rattle.std.specs.Prelude.{ℕ, Bool, ◌≤◌, IsTrue, List, length, Option, is_none, option_map}
use Rattle.std.specs.Option.{option_or}
use Rattle.asp_defs.specs.declared.faults.Var.{Var}
use Rattle.asp_defs.specs.declared.faults.Which.{Which}
use Rattle.asp_defs.specs.declared.faults.Which.TheVariants.{Bytes}
use Rattle.asp_defs.specs.declared.syntax.Program.{Program}
use Rattle.asp_defs.specs.Grammar.{IsText}
use Rattle.asp_defs.specs.Safety.{unsafe_in}
use Rattle.asp_defs.specs.ConstraintPart.{headed_in}
use Rattle.asp_defs.specs.Limits.{limit, too_large_in}

-- why a program is refused: a rule with an unsafe variable, a rule of the constraint part that is no constraint, or a
-- count that passes its limit
pub data CheckRefusal : Type 0 where
  UnsafeRule : ℕ → Var → CheckRefusal
  HeadedRule : ℕ → CheckRefusal
  PastLimit : Which → ℕ → CheckRefusal

-- the refusals of a program for its safety, for the form of its constraint part, and for its size
abbrev pub safety_refusal : Program → Option CheckRefusal
safety_refusal p = option_map (λ found. UnsafeRule found.0 found.1) (unsafe_in p)

abbrev pub form_refusal : Program → Option CheckRefusal
form_refusal p = option_map HeadedRule (headed_in p)

abbrev pub size_refusal : Program → Option CheckRefusal
size_refusal p = option_map (λ found. PastLimit found.0 found.1) (too_large_in p)

-- the first refusal of a program, if any: safety comes before the form of the constraint part, and that before the limits
abbrev pub check_refusal : Program → Option CheckRefusal
check_refusal p = option_or (safety_refusal p) (option_or (form_refusal p) (size_refusal p))

-- whether a program passes all checks: it is safe, its constraint part has constraints alone, and it keeps the limits
abbrev pub is_checked : Program → Bool
is_checked p = is_none (check_refusal p)

-- bytes are an accepted text of a program, but for the limits on constants, atoms and instances
pub record IsCheckedText (bytes : List ℕ) (p : Program) : Type 0 where
  pub short : length bytes ≤ limit Bytes
  pub text : IsText bytes p
  pub checked : IsTrue (is_checked p)
