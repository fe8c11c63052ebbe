-- Laws of bases and of the numbers of atoms.
use Rattle.std.specs.Prelude.{ℕ, ◌≡◌, ◌+◌, ◌<◌, List, map, length, IsTrue}
use Rattle.asp_defs.specs.declared.ground.Const.{Const}
use Rattle.asp_defs.specs.declared.syntax.Program.{Program}
use Rattle.asp_defs.specs.Lists.{IsIn}
use Rattle.asp_defs.specs.Constants.{universe}
use Rattle.asp_defs.specs.Bases.{base_atoms, atom_number, last_level}
use Rattle.asp_defs.specs.Games.{atoms_ascend}
use Rattle.asp_defs.specs.Sizes.{atom_total}
use Rattle.asp_atoms.specs.declared.vocabularies.NumberedPredicate.{NumberedPredicate}
use Rattle.asp_atoms.specs.Tuples.{in_base}
use Rattle.asp_atoms.specs.Vocabularies.{const_rank, vocabulary_of}

-- the atoms of each base ascend
abbrev pub BasesAscend : Type 0
BasesAscend = (p : Program) (i : ℕ) → IsTrue (atoms_ascend (base_atoms p i))

-- constants are arguments of a predicate: as many as it has, and members of the last universe
pub record AreArguments (p : Program) (q : NumberedPredicate) (args : List Const) : Type 0 where
  pub known : IsIn q (vocabulary_of p).predicates
  pub long : length args ≡ q.arity
  pub members : (c : Const) → IsIn c args → IsIn c (universe p (last_level p))

-- a predicate's first number and, behind it, the ranks of arguments read in the base of the number of constants
abbrev pub read_number : Program → NumberedPredicate → List Const → ℕ
read_number p q args =
    let constants = universe p (last_level p)
    in q.first + in_base (length constants) (map (const_rank constants) args)

-- the number of an atom is read so
abbrev pub NumbersAreRead : Type 0
NumbersAreRead = (p : Program) (q : NumberedPredicate) (args : List Const) → AreArguments p q args →
    atom_number (base_atoms p (last_level p)) (record { name = q.name; args = args }) ≡ read_number p q args

-- what is read so is a number of the last base
abbrev pub NumbersAreBelow : Type 0
NumbersAreBelow = (p : Program) (q : NumberedPredicate) (args : List Const) → AreArguments p q args →
    read_number p q args < atom_total p
