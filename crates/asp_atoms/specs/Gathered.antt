-- What is gathered of a program before any constant or atom is written down.
use Rattle.std.specs.Prelude.{◌≡◌, ◌+◌, ◌≤◌, map, None}
use Rattle.asp_defs.specs.declared.faults.Which.TheVariants.{Arguments}
use Rattle.asp_defs.specs.declared.syntax.Program.{Program}
use Rattle.asp_defs.specs.Lists.{IsIn, numbers_from}
use Rattle.asp_defs.specs.Constants.{universe}
use Rattle.asp_defs.specs.Bases.{Predicate, predicates, last_level}
use Rattle.asp_defs.specs.Limits.{limit}
use Rattle.asp_defs.specs.Sizes.{atom_total}
use Rattle.asp_atoms.specs.declared.gathered.Gathered.{Gathered}
use Rattle.asp_atoms.specs.Universes.{constants_of}
use Rattle.asp_atoms.specs.Signatures.{predicates_of}
use Rattle.asp_atoms.specs.Answers.{base_too_large}

-- the constants and predicates of each level, and the number of atoms; no limit is passed, and no predicate has more
-- arguments than a checked program's may have
pub record IsGathered (p : Program) (g : Gathered) : Type 0 where
  pub constants : map constants_of g.universes.items ≡ map (universe p) (numbers_from 0 (last_level p + 1))
  pub signed : map (λ s. predicates_of s.items) g.signatures.items ≡ map (predicates p) (numbers_from 0 (last_level p + 1))
  pub counted : g.atoms ≡ atom_total p
  pub small : base_too_large p ≡ None
  pub short : (q : Predicate) → IsIn q (predicates p (last_level p)) → q.arity ≤ limit Arguments
