-- The bases of a program: the atoms over the predicates and constants written so far (Amendola, Ricca and Truszczynski
-- 2019 speak of the Herbrand base; the base that grows from level to level is this project's reading). All definitions
-- are transparent.
use Rattle.std.specs.Prelude.{ℕ, ◌+◌, List, [], ◌∷◌, ◌++◌, map, length, replicate}
use Rattle.std.specs.List.{flat_map, position_or_len}
use Rattle.std.specs.Ordering.{nat_cmp, ordering_then, is_eq}
use Rattle.std.specs.declared.cmp.Ordering.{Ordering}
use Rattle.std.specs.Cmp.Lexicographic.{slice_cmp}
use Rattle.asp_defs.specs.declared.ground.Const.{Const}
use Rattle.asp_defs.specs.declared.ground.GroundAtom.{GroundAtom}
use Rattle.asp_defs.specs.declared.ground.Bases.{Bases}
use Rattle.asp_defs.specs.declared.syntax.Atom.{Atom}
use Rattle.asp_defs.specs.declared.syntax.Literal.{Literal}
use Rattle.asp_defs.specs.declared.syntax.Literal.TheVariants.{Pos, Neg, Cmp}
use Rattle.asp_defs.specs.declared.syntax.Element.{Element}
use Rattle.asp_defs.specs.declared.syntax.Head.{Head}
use Rattle.asp_defs.specs.declared.syntax.Head.TheVariants.{Disj, Choice}
use Rattle.asp_defs.specs.declared.syntax.Rule.{Rule}
use Rattle.asp_defs.specs.declared.syntax.Program.{Program}
use Rattle.asp_defs.specs.Constants.{atom_cmp, distinct, rules_to, universe}
use Rattle.asp_defs.specs.Lists.{numbers_from}

-- a predicate: a name with its arity
pub record Predicate : Type 0 where
  pub name : List ℕ
  pub arity : ℕ

-- the order of predicates: by name, then by arity
abbrev pub predicate_cmp : Predicate → Predicate → Ordering
predicate_cmp p q = ordering_then (slice_cmp nat_cmp p.name q.name) (nat_cmp p.arity q.arity)

-- the predicates that are written in an atom, a literal, an element, a head and a rule
abbrev pub atom_predicate : Atom → Predicate
atom_predicate a = record { name = a.name; arity = length a.args }

abbrev pub literal_predicates : Literal → List Predicate
literal_predicates (Pos a) = atom_predicate a ∷ []
literal_predicates (Neg a) = atom_predicate a ∷ []
literal_predicates (Cmp x op y) = []

abbrev pub element_predicates : Element → List Predicate
element_predicates e = atom_predicate e.atom ∷ flat_map literal_predicates e.cond

abbrev pub head_predicates : Head → List Predicate
head_predicates (Disj atoms) = map atom_predicate atoms
head_predicates (Choice low elements high) = flat_map element_predicates elements

abbrev pub rule_predicates : Rule → List Predicate
rule_predicates r = head_predicates r.head ++ flat_map literal_predicates r.body

-- the predicates written in the levels 1 to i, ascending
abbrev pub predicates : Program → ℕ → List Predicate
predicates p i = distinct predicate_cmp (flat_map rule_predicates (rules_to p i))

-- one member of each list in turn, in all ways, the last list running fastest
abbrev pub product : {A : Type 0} → List (List A) → List (List A)
product [] = [] ∷ []
product (xs ∷ rest) = flat_map (λ x. map (λ tuple. x ∷ tuple) (product rest)) xs

-- the atoms of a predicate over a universe, ascending
abbrev pub predicate_atoms : List Const → Predicate → List GroundAtom
predicate_atoms U q = map (λ tuple. record { name = q.name; args = tuple }) (product (replicate q.arity U))

-- the base of level i: the atoms over its predicates and its universe, ascending
abbrev pub base_atoms : Program → ℕ → List GroundAtom
base_atoms p i = flat_map (predicate_atoms (universe p i)) (predicates p i)

-- an atom's number: its position in an ascending list of atoms, from 0
abbrev pub atom_number : List GroundAtom → GroundAtom → ℕ
atom_number atoms a = position_or_len (λ b. is_eq (atom_cmp a b)) atoms

-- the number of the constraint part, which is the level behind the last
abbrev pub last_level : Program → ℕ
last_level p = length p.levels + 1

-- the bases of the levels 0 to n + 1, by the numbers that the atoms have in the last one
abbrev pub bases_of : Program → Bases
bases_of p =
    let atoms = base_atoms p (last_level p)
    in record {
      atoms = atoms;
      members = map (λ i. map (atom_number atoms) (base_atoms p i)) (numbers_from 0 (last_level p + 1));
    }
