-- Small programs, each written above as a text, for the worked examples of the definitions. All are transparent.
use Rattle.std.specs.Prelude.{ℕ, ℤ, pos, negsuc, Bool, true, false, List, [], ◌∷◌, Option, None, codes}
use Rattle.asp_defs.specs.declared.syntax.Quant.TheVariants.{Exists, Forall}
use Rattle.asp_defs.specs.declared.syntax.Op.TheVariants.{Eq, Gt, Ne}
use Rattle.asp_defs.specs.declared.syntax.Term.{Term}
use Rattle.asp_defs.specs.declared.syntax.Term.TheVariants.{Int, Sym, Var, Anon, Range}
use Rattle.asp_defs.specs.declared.syntax.Atom.{Atom}
use Rattle.asp_defs.specs.declared.syntax.Literal.{Literal}
use Rattle.asp_defs.specs.declared.syntax.Literal.TheVariants.{Pos, Neg, Cmp}
use Rattle.asp_defs.specs.declared.syntax.Element.{Element}
use Rattle.asp_defs.specs.declared.syntax.Head.TheVariants.{Disj, Choice}
use Rattle.asp_defs.specs.declared.syntax.Rule.{Rule}
use Rattle.asp_defs.specs.declared.syntax.Part.{Part}
use Rattle.asp_defs.specs.declared.syntax.Program.{Program}
use Rattle.asp_defs.specs.declared.ground.Lit.{Lit}
use Rattle.asp_defs.specs.declared.faults.Kind.{Kind}
use Rattle.asp_defs.specs.declared.faults.Unknown.{Unknown}
use Rattle.asp_defs.specs.Games.{game_of}
use Rattle.asp_defs.specs.Entries.{Entry}
use Rattle.asp_defs.specs.Words.{Tuning}
use Rattle.asp_defs.specs.Shown.{Evidence}

-- an atom with its arguments, and one without
abbrev pub atom : List ℕ → List Term → Atom
atom name args = record { name = name; args = args }

abbrev pub prop : List ℕ → Atom
prop name = atom name []

-- a disjunctive rule, a constraint, an element without a condition, and a choice
abbrev pub rule : List Atom → List Literal → Rule
rule atoms body = record { head = Disj atoms; body = body }

abbrev pub denial : List Literal → Rule
denial body = rule [] body

abbrev pub element : Atom → List Literal → Element
element chosen cond = record { atom = chosen; cond = cond }

abbrev pub choice : List Element → List Literal → Rule
choice elements body = record { head = Choice None elements None; body = body }

-- a choice between two bounds
abbrev pub bounded : Option ℤ → List Element → Option ℤ → List Literal → Rule
bounded low elements high body = record { head = Choice low elements high; body = body }

-- levels and a program
abbrev pub exists : List Rule → Part
exists rules = record { quant = Exists; rules = rules }

abbrev pub forall : List Rule → Part
forall rules = record { quant = Forall; rules = rules }

abbrev pub program : List Part → List Rule → Program
program levels cons = record { levels = levels; cons = cons }

-- the atoms that most examples use
abbrev pub a : Atom
a = prop (codes "a")

abbrev pub b : Atom
b = prop (codes "b")

abbrev pub c : Atom
c = prop (codes "c")

abbrev pub x : Term
x = Var (codes "X")

abbrev pub at : List ℕ → Term → Atom
at name t = atom name (t ∷ [])

abbrev pub int : ℕ → Term
int k = Int (pos k)

-- ---- programs

-- exists: {a}. constraints: :- not a.
abbrev pub chosen_atom : Program
chosen_atom = program (exists (choice (element a [] ∷ []) [] ∷ []) ∷ []) (denial (Neg a ∷ []) ∷ [])

-- exists: {a;b}. forall: {c}. constraints: :- c, not a.
abbrev pub minimax : Program
minimax = program (exists (choice (element a [] ∷ element b [] ∷ []) [] ∷ []) ∷ forall (choice (element c [] ∷ []) [] ∷ []) ∷ []) (denial (Pos c ∷ Neg a ∷ []) ∷ [])

-- forall: a :- not a. constraints: :- not b.
abbrev pub forall_over_nothing : Program
forall_over_nothing = program (forall (rule (a ∷ []) (Neg a ∷ []) ∷ []) ∷ []) (denial (Neg b ∷ []) ∷ [])

-- exists: a :- not a.
abbrev pub odd_loop : Program
odd_loop = program (exists (rule (a ∷ []) (Neg a ∷ []) ∷ []) ∷ []) []

-- exists: a | b. a :- b. b :- a.
abbrev pub both_of_a_disjunction : Program
both_of_a_disjunction = program (exists (rule (a ∷ b ∷ []) [] ∷ rule (a ∷ []) (Pos b ∷ []) ∷ rule (b ∷ []) (Pos a ∷ []) ∷ []) ∷ []) []

-- exists: a :- b. b :- a. a :- c. {c}.
abbrev pub positive_loop : Program
positive_loop = program (exists (rule (a ∷ []) (Pos b ∷ []) ∷ rule (b ∷ []) (Pos a ∷ []) ∷ rule (a ∷ []) (Pos c ∷ []) ∷ choice (element c [] ∷ []) [] ∷ []) ∷ []) []

-- exists: {a}. forall: a. constraints: :- a.
abbrev pub fixed_false : Program
fixed_false = program (exists (choice (element a [] ∷ []) [] ∷ []) ∷ forall (rule (a ∷ []) [] ∷ []) ∷ []) (denial (Pos a ∷ []) ∷ [])

-- exists: p(1). exists: p(2). constraints: :- not p(2).
abbrev pub grown_universe : Program
grown_universe = program (exists (rule (at (codes "p") (int 1) ∷ []) [] ∷ []) ∷ exists (rule (at (codes "p") (int 2) ∷ []) [] ∷ []) ∷ []) (denial (Neg (at (codes "p") (int 2)) ∷ []) ∷ [])

-- exists: {a}. constraints: :- not a, not b.
abbrev pub unused_atom : Program
unused_atom = program (exists (choice (element a [] ∷ []) [] ∷ []) ∷ []) (denial (Neg a ∷ Neg b ∷ []) ∷ [])

-- exists: {a;b}.
abbrev pub two_choices : Program
two_choices = program (exists (choice (element a [] ∷ element b [] ∷ []) [] ∷ []) ∷ []) []

-- exists: {a}. exists: {b} :- a. forall: {c}. constraints: :- c, not b.
abbrev pub three_levels : Program
three_levels = program (exists (choice (element a [] ∷ []) [] ∷ []) ∷ exists (choice (element b [] ∷ []) (Pos a ∷ []) ∷ []) ∷ forall (choice (element c [] ∷ []) [] ∷ []) ∷ []) (denial (Pos c ∷ Neg b ∷ []) ∷ [])

-- exists: n(1..2). {p(X)} :- n(X), X > 1.
abbrev pub interval_and_comparison : Program
interval_and_comparison = program (exists (rule (at (codes "n") (Range (pos 1) (pos 2)) ∷ []) [] ∷ choice (element (at (codes "p") x) [] ∷ []) (Pos (at (codes "n") x) ∷ Cmp x Gt (int 1) ∷ []) ∷ []) ∷ []) []

-- exists: s(b). s(10). s(-2).
abbrev pub order_of_constants : Program
order_of_constants = program (exists (rule (at (codes "s") (Sym (codes "b")) ∷ []) [] ∷ rule (at (codes "s") (int 10) ∷ []) [] ∷ rule (at (codes "s") (Int (negsuc 1)) ∷ []) [] ∷ []) ∷ []) []

-- exists: q(1). q(2). r :- q(_).
abbrev pub anonymous : Program
anonymous = program (exists (rule (at (codes "q") (int 1) ∷ []) [] ∷ rule (at (codes "q") (int 2) ∷ []) [] ∷ rule (prop (codes "r") ∷ []) (Pos (at (codes "q") (Anon 1)) ∷ []) ∷ []) ∷ []) []

-- exists: n(1). {a : n(X); b : n(X), X > 1}.
abbrev pub conditional_choice : Program
conditional_choice = program (exists (rule (at (codes "n") (int 1) ∷ []) [] ∷ choice (element a (Pos (at (codes "n") x) ∷ []) ∷ element b (Pos (at (codes "n") x) ∷ Cmp x Gt (int 1) ∷ []) ∷ []) [] ∷ []) ∷ []) []

-- exists: p(1). q(2).
abbrev pub larger_base : Program
larger_base = program (exists (rule (at (codes "p") (int 1) ∷ []) [] ∷ rule (at (codes "q") (int 2) ∷ []) [] ∷ []) ∷ []) []

-- exists: p(2..1). q.
abbrev pub swapped_interval : Program
swapped_interval = program (exists (rule (at (codes "p") (Range (pos 2) (pos 1)) ∷ []) [] ∷ rule (prop (codes "q") ∷ []) [] ∷ []) ∷ []) []

-- exists: e(1). e(2). a :- e(X), e(Y), X != Y.
abbrev pub two_variables : Program
two_variables = program (exists (rule (at (codes "e") (int 1) ∷ []) [] ∷ rule (at (codes "e") (int 2) ∷ []) [] ∷ rule (a ∷ []) (Pos (at (codes "e") x) ∷ Pos (at (codes "e") (Var (codes "Y"))) ∷ Cmp x Ne (Var (codes "Y")) ∷ []) ∷ []) ∷ []) []

-- exists: {a}. constraints: :- a. :- not a.
abbrev pub contradiction : Program
contradiction = program (exists (choice (element a [] ∷ []) [] ∷ []) ∷ []) (denial (Pos a ∷ []) ∷ denial (Neg a ∷ []) ∷ [])

-- exists, without rules.
abbrev pub nothing : Program
nothing = program (exists [] ∷ []) []

-- exists: {a}. forall: {c}. constraints: :- c, not a.
abbrev pub duel : Program
duel = program (exists (choice (element a [] ∷ []) [] ∷ []) ∷ forall (choice (element c [] ∷ []) [] ∷ []) ∷ []) (denial (Pos c ∷ Neg a ∷ []) ∷ [])

-- exists: e(1,2). r :- e(_,_).
abbrev pub two_nameless : Program
two_nameless = program (exists (rule (atom (codes "e") (int 1 ∷ int 2 ∷ []) ∷ []) [] ∷ rule (prop (codes "r") ∷ []) (Pos (atom (codes "e") (Anon 1 ∷ Anon 2 ∷ [])) ∷ []) ∷ []) ∷ []) []

-- exists: pa. p(b,1). p. p(1).
abbrev pub order_of_atoms : Program
order_of_atoms = program (exists (rule (prop (codes "pa") ∷ []) [] ∷ rule (atom (codes "p") (Sym (codes "b") ∷ int 1 ∷ []) ∷ []) [] ∷ rule (prop (codes "p") ∷ []) [] ∷ rule (at (codes "p") (int 1) ∷ []) [] ∷ []) ∷ []) []

-- exists: m(1). n(1). {a : m(X)} :- n(X), not b.
abbrev pub body_and_condition : Program
body_and_condition = program (exists (rule (at (codes "m") (int 1) ∷ []) [] ∷ rule (at (codes "n") (int 1) ∷ []) [] ∷ choice (element a (Pos (at (codes "m") x) ∷ []) ∷ []) (Pos (at (codes "n") x) ∷ Neg b ∷ []) ∷ []) ∷ []) []

-- {p(Z) : m(Y)} :- n(X,Y).
abbrev pub three_variables : Rule
three_variables = choice (element (at (codes "p") (Var (codes "Z"))) (Pos (at (codes "m") (Var (codes "Y"))) ∷ []) ∷ []) (Pos (atom (codes "n") (x ∷ Var (codes "Y") ∷ [])) ∷ [])

-- exists: e(1..2,2..3).
abbrev pub two_intervals : Program
two_intervals = program (exists (rule (atom (codes "e") (Range (pos 1) (pos 2) ∷ Range (pos 2) (pos 3) ∷ []) ∷ []) [] ∷ []) ∷ []) []

-- exists: {p : q(1)} :- not r(2), 3 != 4.
abbrev pub written_places : Program
written_places = program (exists (choice (element (prop (codes "p")) (Pos (at (codes "q") (int 1)) ∷ []) ∷ []) (Neg (at (codes "r") (int 2)) ∷ Cmp (int 3) Ne (int 4) ∷ []) ∷ []) ∷ []) []

-- exists: n(1). {p(X)} :- n(X). exists: n(2).
abbrev pub later_constant : Program
later_constant = program (exists (rule (at (codes "n") (int 1) ∷ []) [] ∷ choice (element (at (codes "p") x) [] ∷ []) (Pos (at (codes "n") x) ∷ []) ∷ []) ∷ exists (rule (at (codes "n") (int 2) ∷ []) [] ∷ []) ∷ []) []

-- exists: a :- X = 1.
abbrev pub equated : Program
equated = program (exists (rule (a ∷ []) (Cmp x Eq (int 1) ∷ []) ∷ []) ∷ []) []

-- p(Y) :- n(X,Y).
abbrev pub two_variables_rule : Rule
two_variables_rule = rule (at (codes "p") (Var (codes "Y")) ∷ []) (Pos (atom (codes "n") (x ∷ Var (codes "Y") ∷ [])) ∷ [])

-- ---- histories

abbrev pub literal : ℕ → Bool → Lit
literal atom positive = record { atom = atom; positive = positive }

abbrev pub entry : ℕ → List Lit → Bool → List ℕ → Entry
entry level cube verdict seed = record { level = level; cube = cube; verdict = verdict; seed = seed }

-- both levels of the program without rules are won
abbrev pub won : List Entry
won = entry 2 [] true [] ∷ entry 1 [] true [] ∷ []

-- the contradiction, refuted for each choice of its first level
abbrev pub refuted : List Entry
refuted =
    entry 2 (literal 0 true ∷ []) false (0 ∷ []) ∷ entry 2 (literal 0 false ∷ []) false [] ∷ entry 1 [] false [] ∷ []

-- the same with one choice left out
abbrev pub half_refuted : List Entry
half_refuted = entry 2 (literal 0 true ∷ []) false (0 ∷ []) ∷ entry 1 [] false [] ∷ []

-- the duel: the first level is won by one of its two moves, after which each of the second level's moves is won
abbrev pub duel_won : List Entry
duel_won =
    entry 3 (literal 0 true ∷ []) true (0 ∷ []) ∷ entry 2 (literal 0 true ∷ []) true (0 ∷ []) ∷ entry 1 [] true [] ∷ []

-- the same, where one of the second level's two moves isn't held
abbrev pub duel_half_won : List Entry
duel_half_won =
    entry 3 (literal 0 true ∷ literal 1 false ∷ []) true (0 ∷ []) ∷ entry 2 (literal 0 true ∷ []) true (0 ∷ []) ∷ []

-- after the other move one of the second level's moves is enough to refute it
abbrev pub duel_refuted : List Entry
duel_refuted = entry 3 (literal 0 false ∷ literal 1 true ∷ []) false (1 ∷ []) ∷ entry 2 (literal 0 false ∷ []) false [] ∷ []

-- a verdict of the first level, and a set of it, which nothing justifies
abbrev pub bare_verdict : List Entry
bare_verdict = entry 1 [] true [] ∷ []

abbrev pub bare_set : List Entry
bare_set = entry 2 (literal 0 true ∷ []) true (0 ∷ []) ∷ []

-- minimax, where b stands in a rule of the first level alone: the second level is won after a and b, by a cube with these
-- literals
abbrev pub minimax_won : List Lit → List Entry
minimax_won cube = entry 3 (literal 0 true ∷ []) true (0 ∷ []) ∷ entry 2 cube true (0 ∷ 1 ∷ []) ∷ []

-- ---- open answers

abbrev pub unknown : Kind → ℕ → ℕ → Unknown
unknown kind level budget = record { kind = kind; level = level; budget = budget }

-- what a run that solved the duel with these cells is left with: a search was spent once at level 1, a check at level 2, and
-- the store refused two entries of level 2
abbrev pub evidence : List Entry → ℕ → Evidence
evidence history allowed = record {
  game = game_of duel;
  budget = 2;
  allowed = allowed;
  history = history;
  searches = 1 ∷ 0 ∷ [];
  checks = 0 ∷ 1 ∷ [];
  refusals = 0 ∷ 2 ∷ 0 ∷ [];
}

-- a tuning with the budget of that run
abbrev pub tuning : Tuning
tuning = record { budget = 2; cells = 9; teams = 1 ∷ [] }
