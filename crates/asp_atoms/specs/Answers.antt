-- Which programs have bases: those whose constants and atoms keep their limits.
use Rattle.std.specs.Prelude.{ℕ, ◌≡◌, nat_lt, if◌then◌else◌, Option, Some, None, IsTrue, ◌≤◌, length}
use Rattle.std.specs.Option.{option_or}
use Rattle.asp_defs.specs.declared.faults.Which.{Which}
use Rattle.asp_defs.specs.declared.faults.Which.TheVariants.{Constants, Atoms}
use Rattle.asp_defs.specs.declared.faults.SizeFault.{SizeFault}
use Rattle.asp_defs.specs.declared.faults.SizeFault.TheVariants as fault
use Rattle.asp_defs.specs.declared.ground.Bases.{Bases}
use Rattle.asp_defs.specs.declared.syntax.Program.{Program}
use Rattle.asp_defs.specs.Games.{atoms_ascend}
use Rattle.asp_defs.specs.Limits.{limit, past_limit}
use Rattle.asp_defs.specs.Sizes.{constant_total, atom_total}

-- the first limit on constants and atoms that is passed, with the count
abbrev pub base_too_large : Program → Option (Which × ℕ)
base_too_large p = option_or (past_limit Constants (constant_total p)) (past_limit Atoms (atom_total p))

-- the first limit that numbers of constants and of atoms pass, with the number
abbrev pub first_past : ℕ → ℕ → Option (Which × ℕ)
first_past size total =
    if nat_lt (limit Constants) size then Some (Constants, size)
    else (if nat_lt (limit Atoms) total then Some (Atoms, total) else None)

abbrev pub IsPast : ℕ → ℕ → SizeFault → Type 0
IsPast size total (fault.TooLarge which count) = first_past size total ≡ Some (which, count)
IsPast size total fault.NoMemory = ⊥

-- a fault is the refusal of a program: the limit that it passes, or out of memory
abbrev pub IsBaseRefusal : Program → SizeFault → Type 0
IsBaseRefusal p (fault.TooLarge which count) = base_too_large p ≡ Some (which, count)
IsBaseRefusal p fault.NoMemory = Unit {0}

-- what is found is what was asked for, and no limit is passed
pub record IsFound {A : Type 0} (p : Program) (asked found : A) : Type 0 where
  pub same : found ≡ asked
  pub small : base_too_large p ≡ None

-- atoms of bases can be searched for: they ascend, and there are few
pub record IsSearchable (bases : Bases) : Type 0 where
  pub ordered : IsTrue (atoms_ascend bases.atoms)
  pub few : length bases.atoms ≤ limit Atoms
