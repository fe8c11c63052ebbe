-- The limits on texts and programs, and what they count (of this project). All definitions are transparent.
use Rattle.std.specs.Prelude.{ℕ, ◌+◌, nat_lt, min, max, List, ◌∷◌, ◌++◌, map, length, Option, None, Some, if◌then◌else◌}
use Rattle.std.specs.Option.{option_or}
use Rattle.std.specs.List.{flat_map, fold, sum_by}
use Rattle.asp_defs.specs.declared.faults.Which.{Which}
use Rattle.asp_defs.specs.declared.faults.Which.TheVariants as which
use Rattle.asp_defs.specs.declared.syntax.Atom.{Atom}
use Rattle.asp_defs.specs.declared.syntax.Literal.{Literal}
use Rattle.asp_defs.specs.declared.syntax.Element.{Element}
use Rattle.asp_defs.specs.declared.syntax.Head.{Head}
use Rattle.asp_defs.specs.declared.syntax.Head.TheVariants.{Disj, Choice}
use Rattle.asp_defs.specs.declared.syntax.Rule.{Rule}
use Rattle.asp_defs.specs.declared.syntax.Program.{Program}
use Rattle.asp_defs.specs.Instances.{first_occurrences, pos_atoms, neg_atoms}
use Rattle.asp_defs.specs.Safety.{rule_variables, all_rules}

-- the most bytes of a text, levels of a program, arguments of an atom, literals and variables of a rule, constants of the
-- last universe, atoms of the last base, and instances of all rules
abbrev pub limit : Which → ℕ
limit which.Bytes = 1048576
limit which.Levels = 16
limit which.Arguments = 16
limit which.Literals = 64
limit which.Variables = 16
limit which.Constants = 4096
limit which.Atoms = 262144
limit which.Instances = 4000000

-- the greatest count that a refusal shows
abbrev pub most_shown : ℕ
most_shown = 1000000000000000000

-- a count with its limit's name, where it passes the limit
abbrev pub past_limit : Which → ℕ → Option (Which × ℕ)
past_limit w count = if nat_lt (limit w) count then Some (w, min count most_shown) else None

-- the greatest of counts, and 0 where there is none
abbrev pub greatest : List ℕ → ℕ
greatest counts = fold max 0 counts

-- the atoms of a literal, an element, a head and a rule
abbrev pub literal_atoms : Literal → List Atom
literal_atoms l = pos_atoms l ++ neg_atoms l

abbrev pub element_atoms : Element → List Atom
element_atoms e = e.atom ∷ flat_map literal_atoms e.cond

abbrev pub head_atoms : Head → List Atom
head_atoms (Disj atoms) = atoms
head_atoms (Choice low elements high) = flat_map element_atoms elements

abbrev pub rule_atoms : Rule → List Atom
rule_atoms r = head_atoms r.head ++ flat_map literal_atoms r.body

-- the literals of a head: each atom or element counts as one, and each literal of a condition
abbrev pub head_literals : Head → ℕ
head_literals (Disj atoms) = length atoms
head_literals (Choice low elements high) = sum_by (λ (e : Element). 1 + length e.cond) elements

-- the literals of a rule: those of its head and its body's
abbrev pub rule_literals : Rule → ℕ
rule_literals r = head_literals r.head + length r.body

-- the variables of a rule: the distinct named ones, and each nameless one
abbrev pub variable_count : Rule → ℕ
variable_count r = length (first_occurrences (rule_variables r))

-- the greatest count of arguments of an atom, of literals of a rule and of variables of a rule
abbrev pub most_arguments : Program → ℕ
most_arguments p = greatest (map (λ (a : Atom). length a.args) (flat_map rule_atoms (all_rules p)))

abbrev pub most_literals : Program → ℕ
most_literals p = greatest (map rule_literals (all_rules p))

abbrev pub most_variables : Program → ℕ
most_variables p = greatest (map variable_count (all_rules p))

-- the first limit on a program as it is written that is passed, with the count
abbrev pub too_large_in : Program → Option (Which × ℕ)
too_large_in p =
    option_or (past_limit which.Levels (length p.levels))
    (option_or (past_limit which.Arguments (most_arguments p))
    (option_or (past_limit which.Literals (most_literals p)) (past_limit which.Variables (most_variables p))))
