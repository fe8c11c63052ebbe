-- The greatest counts so far, as far as they are counted.
use Rattle.std.specs.Prelude.{ℕ, min, max, List, map, length}
use Rattle.std.specs.List.{fold}
use Rattle.asp_defs.specs.declared.syntax.Atom.{Atom}

-- the greatest of a number and the counts of the arguments of atoms
abbrev pub arguments_with : ℕ → List Atom → ℕ
arguments_with most atoms = fold max most (map (λ (a : Atom). length a.args) atoms)

-- counts end at the greatest number of 64 bits
abbrev pub capped : ℕ → ℕ
capped n = min n 18446744073709551615
