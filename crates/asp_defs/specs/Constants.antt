-- Constants and ground atoms, their order, and the universes of a program: the constants written so far (Amendola,
-- Ricca and Truszczynski 2019 speak of the Herbrand universe; the universe that grows from level to level is this
-- project's reading). All definitions are transparent.
use Rattle.std.specs.Prelude.{ℕ, zero, suc, ℤ, pos, negsuc, ◌+ℤ◌, ◌-ℤ◌, List, [], ◌∷◌, ◌++◌, map, take, length}
use Rattle.std.specs.List.{flat_map}
use Rattle.std.specs.Ordering.{nat_cmp, int_cmp, ordering_then}
use Rattle.std.specs.declared.cmp.Ordering.{Ordering}
use Rattle.std.specs.declared.cmp.Ordering.TheVariants.{Less, Equal, Greater}
use Rattle.std.specs.Cmp.Lexicographic.{slice_cmp}
use Rattle.asp_defs.specs.declared.ground.Const.{Const}
use Rattle.asp_defs.specs.declared.ground.Const.TheVariants as const
use Rattle.asp_defs.specs.declared.ground.GroundAtom.{GroundAtom}
use Rattle.asp_defs.specs.declared.syntax.Term.{Term}
use Rattle.asp_defs.specs.declared.syntax.Term.TheVariants.{Int, Sym, Var, Anon, Range}
use Rattle.asp_defs.specs.declared.syntax.Atom.{Atom}
use Rattle.asp_defs.specs.declared.syntax.Literal.{Literal}
use Rattle.asp_defs.specs.declared.syntax.Literal.TheVariants.{Pos, Neg, Cmp}
use Rattle.asp_defs.specs.declared.syntax.Element.{Element}
use Rattle.asp_defs.specs.declared.syntax.Head.{Head}
use Rattle.asp_defs.specs.declared.syntax.Head.TheVariants.{Disj, Choice}
use Rattle.asp_defs.specs.declared.syntax.Rule.{Rule}
use Rattle.asp_defs.specs.declared.syntax.Program.{Program}

-- the order of constants: integers by value, then symbols by their bytes
abbrev pub const_cmp : Const → Const → Ordering
const_cmp (const.Int x) (const.Int y) = int_cmp x y
const_cmp (const.Int x) (const.Sym t) = Less
const_cmp (const.Sym s) (const.Int y) = Greater
const_cmp (const.Sym s) (const.Sym t) = slice_cmp nat_cmp s t

-- the order of ground atoms: by name, then by arity, then by the arguments from the left
abbrev pub atom_cmp : GroundAtom → GroundAtom → Ordering
atom_cmp a b =
    ordering_then (slice_cmp nat_cmp a.name b.name)
    (ordering_then (nat_cmp (length a.args) (length b.args)) (slice_cmp const_cmp a.args b.args))

-- a member put into an ascending list, unless it stands there
abbrev pub with_member : {A : Type 0} → (A → A → Ordering) → A → List A → List A
with_member order x [] = x ∷ []
with_member order x (y ∷ ys) = elim (order x y) [
  | Less ↦ x ∷ y ∷ ys
  | Equal ↦ y ∷ ys
  | Greater ↦ y ∷ with_member order x ys
]

-- the members of a list in their order, each once
abbrev pub distinct : {A : Type 0} → (A → A → Ordering) → List A → List A
distinct order [] = []
distinct order (x ∷ xs) = with_member order x (distinct order xs)

-- the integers from one on, as many as asked for
abbrev pub integers_from : ℤ → ℕ → List ℤ
integers_from first zero = []
integers_from first (suc count) = first ∷ integers_from (first +ℤ pos 1) count

-- how many integers an interval has: none where its ends are swapped
abbrev pub interval_length : ℤ → ℤ → ℕ
interval_length low high = elim (high -ℤ low) [ pos gap ↦ suc gap | negsuc below ↦ zero ]

-- the integers of an interval
abbrev pub interval : ℤ → ℤ → List ℤ
interval low high = integers_from low (interval_length low high)

-- the constants that are written in a term, an atom, a literal, an element, a head and a rule
abbrev pub term_constants : Term → List Const
term_constants (Int x) = const.Int x ∷ []
term_constants (Sym s) = const.Sym s ∷ []
term_constants (Var v) = []
term_constants (Anon k) = []
term_constants (Range low high) = map const.Int (interval low high)

abbrev pub atom_constants : Atom → List Const
atom_constants a = flat_map term_constants a.args

abbrev pub literal_constants : Literal → List Const
literal_constants (Pos a) = atom_constants a
literal_constants (Neg a) = atom_constants a
literal_constants (Cmp x op y) = term_constants x ++ term_constants y

abbrev pub element_constants : Element → List Const
element_constants e = atom_constants e.atom ++ flat_map literal_constants e.cond

abbrev pub head_constants : Head → List Const
head_constants (Disj atoms) = flat_map atom_constants atoms
head_constants (Choice low elements high) = flat_map element_constants elements

abbrev pub rule_constants : Rule → List Const
rule_constants r = head_constants r.head ++ flat_map literal_constants r.body

-- the rules of the levels 1 to n, and last those of the constraint part, which is level n + 1
abbrev pub level_rules : Program → List (List Rule)
level_rules p = map (λ part. part.rules) p.levels ++ (p.cons ∷ [])

-- the rules of the levels 1 to i
abbrev pub rules_to : Program → ℕ → List Rule
rules_to p i = flat_map (λ rules. rules) (take i (level_rules p))

-- the universe of level i: the constants written in the levels 1 to i, ascending
abbrev pub universe : Program → ℕ → List Const
universe p i = distinct const_cmp (flat_map rule_constants (rules_to p i))
