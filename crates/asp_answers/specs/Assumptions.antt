-- What is assumed of a search for moves, and the part of it that a core names. All definitions are transparent.
use Rattle.std.specs.Prelude.{ℕ, ◌/◌, Bool, ◌==◌, List, ◌++◌, map}
use Rattle.std.specs.List.{list_any, filter}
use Rattle.asp_defs.specs.declared.ground.Lit.{Lit}
use Rattle.asp_defs.specs.Interpretations.{holds}
use Rattle.asp_completion.specs.Codes.{rank, literal}

-- the literals that an interpretation makes true, of the atoms of a base
abbrev pub literals_in : List ℕ → List ℕ → List Lit
literals_in B M = map (λ a. literal (holds M a) a) B

-- whether a core has a literal of an atom of the search, and the literals of the outer move whose atoms it has
abbrev pub names : List ℕ → ℕ → Bool
names core k = list_any (λ c. c / 2 == k) core

abbrev pub outer_part : List ℕ → List ℕ → List ℕ → List ℕ → List Lit
outer_part B L M core = filter (λ l. names core (rank B l.atom)) (literals_in L M)

-- what is assumed: the outer move and the region
abbrev pub assumed_literals : List ℕ → List ℕ → List Lit → List Lit
assumed_literals L M region = literals_in L M ++ region
