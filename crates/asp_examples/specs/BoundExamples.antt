-- Small programs with bounds of choices and with strong negation, each written above as a text, for the worked examples of
-- the definitions. All are transparent.
use Rattle.std.specs.Prelude.{ℕ, ℤ, pos, true, List, [], ◌∷◌, Option, None, Some, codes}
use Rattle.asp_defs.specs.declared.syntax.Op.TheVariants.{Gt}
use Rattle.asp_defs.specs.declared.syntax.Term.{Term}
use Rattle.asp_defs.specs.declared.syntax.Term.TheVariants.{Var, Range}
use Rattle.asp_defs.specs.declared.syntax.Atom.{Atom}
use Rattle.asp_defs.specs.declared.syntax.Literal.TheVariants.{Pos, Neg, Cmp}
use Rattle.asp_defs.specs.declared.syntax.Element.{Element}
use Rattle.asp_defs.specs.declared.syntax.Rule.{Rule}
use Rattle.asp_defs.specs.declared.syntax.Program.{Program}
use Rattle.asp_defs.specs.declared.ground.Counted.{Counted}
use Rattle.asp_defs.specs.declared.ground.Bound.{Bound}
use Rattle.asp_defs.specs.Entries.{Entry}
use Rattle.asp_defs.specs.Examples as ex

-- ---- bounds over numbered atoms

abbrev pub counted : ℕ → List ℕ → List ℕ → Counted
counted atom positive negative = record { atom = atom; pos = positive; neg = negative }

abbrev pub bound : List ℕ → List ℕ → Option ℤ → List Counted → Option ℤ → Bound
bound positive negative low terms high =
    record { pos = positive; neg = negative; low = low; high = high; counted = terms }

-- the atoms 1, 2 and 3, each counted without a condition
abbrev pub three : List Counted
three = counted 1 [] [] ∷ counted 2 [] [] ∷ counted 3 [] [] ∷ []

-- none, one, two and all of these atoms, with another one beside them
abbrev pub sets_by_size : List (List ℕ)
sets_by_size = (0 ∷ []) ∷ (0 ∷ 2 ∷ []) ∷ (0 ∷ 1 ∷ 3 ∷ []) ∷ (0 ∷ 1 ∷ 2 ∷ 3 ∷ []) ∷ []

abbrev pub int : ℕ → Option ℤ
int k = Some (pos k)

-- ---- programs of one level

abbrev pub level : List Rule → Program
level rules = ex.program (ex.exists rules ∷ []) []

abbrev pub plain : Atom → Element
plain a = ex.element a []

-- exists: 1 {a;b} 1.
abbrev pub just_one : Program
just_one = level (ex.bounded (int 1) (plain ex.a ∷ plain ex.b ∷ []) (int 1) [] ∷ [])

-- exists: {a}. 1 {b} :- a.
abbrev pub bound_with_body : Program
bound_with_body = level (ex.choice (plain ex.a ∷ []) [] ∷ ex.bounded (int 1) (plain ex.b ∷ []) None (Pos ex.a ∷ []) ∷ [])

-- exists: 2 {a;a}.
abbrev pub two_of_one : Program
two_of_one = level (ex.bounded (int 2) (plain ex.a ∷ plain ex.a ∷ []) None [] ∷ [])

-- exists: {a;a} 1.
abbrev pub one_of_one : Program
one_of_one = level (ex.bounded None (plain ex.a ∷ plain ex.a ∷ []) (int 1) [] ∷ [])

-- exists: 2 {a;b} 1.
abbrev pub swapped_bounds : Program
swapped_bounds = level (ex.bounded (int 2) (plain ex.a ∷ plain ex.b ∷ []) (int 1) [] ∷ [])

-- exists: a. {c}. {a : c} 0.
abbrev pub conditional_bound : Program
conditional_bound = level (ex.rule (ex.a ∷ []) [] ∷ ex.choice (plain ex.c ∷ []) [] ∷ ex.bounded None (ex.element ex.a (Pos ex.c ∷ []) ∷ []) (int 0) [] ∷ [])

-- exists: n(1..3). 7 {p(X) : n(X), X > 1}.
abbrev pub dropped_term : Program
dropped_term = level (ex.rule (ex.at (codes "n") (Range (pos 1) (pos 3)) ∷ []) [] ∷ ex.bounded (int 7) (ex.element (ex.at (codes "p") ex.x) (Pos (ex.at (codes "n") ex.x) ∷ Cmp ex.x Gt (ex.int 1) ∷ []) ∷ []) None [] ∷ [])

-- exists: {a} 1 :- 1 > 2. {b} 2 :- 2 > 1.
abbrev pub dropped_bound : Program
dropped_bound = level (ex.bounded None (plain ex.a ∷ []) (int 1) (Cmp (ex.int 1) Gt (ex.int 2) ∷ []) ∷ ex.bounded None (plain ex.b ∷ []) (int 2) (Cmp (ex.int 2) Gt (ex.int 1) ∷ []) ∷ [])

abbrev pub y : Term
y = Var (codes "Y")

-- a; q(Y,X) : n(Y), not q(X,Y)
abbrev pub of_two_kinds : List Element
of_two_kinds =
    plain ex.a
    ∷ ex.element (ex.atom (codes "q") (y ∷ ex.x ∷ [])) (Pos (ex.at (codes "n") y) ∷ Neg (ex.atom (codes "q") (ex.x ∷ y ∷ [])) ∷ [])
    ∷ []

-- {a; q(Y,X) : n(Y), not q(X,Y)} 1 :- n(X), not a.
abbrev pub two_kinds : Rule
two_kinds = ex.bounded None of_two_kinds (int 1) (Pos (ex.at (codes "n") ex.x) ∷ Neg ex.a ∷ [])

-- exists: n(1..2), and that choice
abbrev pub bounds_in_order : Program
bounds_in_order = level (ex.rule (ex.at (codes "n") (Range (pos 1) (pos 2)) ∷ []) [] ∷ two_kinds ∷ [])

-- the same choice without its bound
abbrev pub unbounded_kinds : Rule
unbounded_kinds = ex.choice of_two_kinds (Pos (ex.at (codes "n") ex.x) ∷ Neg ex.a ∷ [])

-- exists: n(1..2). {b} 3. {p(Z,W)} 1 :- n(X), n(Y).
abbrev pub bounds_of_two_rules : Program
bounds_of_two_rules = level (
    ex.rule (ex.at (codes "n") (Range (pos 1) (pos 2)) ∷ []) []
    ∷ ex.bounded None (plain ex.b ∷ []) (int 3) []
    ∷ ex.bounded None (plain (ex.atom (codes "p") (Var (codes "Z") ∷ Var (codes "W") ∷ [])) ∷ []) (int 1) (Pos (ex.at (codes "n") ex.x) ∷ Pos (ex.at (codes "n") y) ∷ [])
    ∷ []
    )

-- the atoms 1 and 2 in its body, the counted atom 3 with the condition on 4 and 5
abbrev pub five_atoms : List Bound
five_atoms = bound (1 ∷ []) (2 ∷ []) None (counted 3 (4 ∷ []) (5 ∷ []) ∷ []) None ∷ []

-- ---- programs of several levels

-- exists: {a}. forall: {a;b} 1.
abbrev pub outer_counted : Program
outer_counted = ex.program (ex.exists (ex.choice (plain ex.a ∷ []) [] ∷ []) ∷ ex.forall (ex.bounded None (plain ex.a ∷ plain ex.b ∷ []) (int 1) [] ∷ []) ∷ []) []

-- exists: {a}. forall: {b}. 1 {} :- a. constraints: :- b.
abbrev pub bound_alone : Program
bound_alone = ex.program (ex.exists (ex.choice (plain ex.a ∷ []) [] ∷ []) ∷ ex.forall (ex.choice (plain ex.b ∷ []) [] ∷ ex.bounded (int 1) [] None (Pos ex.a ∷ []) ∷ []) ∷ []) (ex.denial (Pos ex.b ∷ []) ∷ [])

-- after a the second level has no move, so that both levels are won; a stands in the second level's bound alone
abbrev pub bound_alone_won : List Entry
bound_alone_won = ex.entry 2 (ex.literal 0 true ∷ []) true (0 ∷ []) ∷ ex.entry 1 [] true [] ∷ []

-- ---- strong negation

abbrev pub minus_a : Atom
minus_a = ex.prop (codes "-a")

-- exists: a. -a.
abbrev pub both_derived : Program
both_derived = level (ex.rule (ex.a ∷ []) [] ∷ ex.rule (minus_a ∷ []) [] ∷ [])

-- exists: {a}. -a :- not a.
abbrev pub either_derived : Program
either_derived = level (ex.choice (plain ex.a ∷ []) [] ∷ ex.rule (minus_a ∷ []) (Neg ex.a ∷ []) ∷ [])

-- exists: {-a}. exists: a.
abbrev pub negated_before : Program
negated_before = ex.program (ex.exists (ex.choice (plain minus_a ∷ []) [] ∷ []) ∷ ex.exists (ex.rule (ex.a ∷ []) [] ∷ []) ∷ []) []

-- exists: -p(1). p(2). p. -a. b.
abbrev pub negated_predicates : Program
negated_predicates = level (ex.rule (ex.at (codes "-p") (ex.int 1) ∷ []) [] ∷ ex.rule (ex.at (codes "p") (ex.int 2) ∷ []) [] ∷ ex.rule (ex.prop (codes "p") ∷ []) [] ∷ ex.rule (minus_a ∷ []) [] ∷ ex.rule (ex.b ∷ []) [] ∷ [])

-- exists: b. -b. a. -a.
abbrev pub two_negated : Program
two_negated = level (ex.rule (ex.b ∷ []) [] ∷ ex.rule (ex.prop (codes "-b") ∷ []) [] ∷ ex.rule (ex.a ∷ []) [] ∷ ex.rule (minus_a ∷ []) [] ∷ [])

-- exists: e(1,2). -e(1,1).
abbrev pub negated_pairs : Program
negated_pairs = level (ex.rule (ex.atom (codes "e") (ex.int 1 ∷ ex.int 2 ∷ []) ∷ []) [] ∷ ex.rule (ex.atom (codes "-e") (ex.int 1 ∷ ex.int 1 ∷ []) ∷ []) [] ∷ [])
