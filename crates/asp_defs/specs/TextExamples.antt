-- Small texts and the programs that they are, for the worked examples of the definitions of texts. All are transparent.
use Rattle.std.specs.Prelude.{ℕ, pos, negsuc, true, false, List, [], ◌∷◌, codes, replicate, None, Some}
use Rattle.asp_defs.specs.declared.syntax.Op.TheVariants.{Eq, Ne}
use Rattle.asp_defs.specs.declared.syntax.Term.{Term}
use Rattle.asp_defs.specs.declared.syntax.Term.TheVariants.{Int, Var, Anon, Range}
use Rattle.asp_defs.specs.declared.syntax.Atom.{Atom}
use Rattle.asp_defs.specs.declared.syntax.Literal.TheVariants.{Pos, Neg, Cmp}
use Rattle.asp_defs.specs.declared.syntax.Rule.{Rule}
use Rattle.asp_defs.specs.declared.syntax.Program.{Program}
use Rattle.asp_defs.specs.declared.ground.Const.TheVariants as const
use Rattle.asp_defs.specs.declared.ground.Bases.{Bases}
use Rattle.asp_defs.specs.Entries.{Entry}
use Rattle.asp_defs.specs.Examples as ex

abbrev pub d : Atom
d = ex.prop (codes "d")

abbrev pub e : Atom
e = ex.prop (codes "e")

abbrev pub f : Atom
f = ex.prop (codes "f")

abbrev pub y : Term
y = Var (codes "Y")

-- a text with a comment, a condition and few blanks, and its program
abbrev pub close_text : List ℕ
close_text = codes "%@exists\na:-b ,not c. % x\n{ d ; e:f }.\n"

abbrev pub close_rule : Rule
close_rule = ex.rule (ex.a ∷ []) (Pos ex.b ∷ Neg ex.c ∷ [])

abbrev pub close_choice : Rule
close_choice = ex.choice (ex.element d [] ∷ ex.element e (Pos f ∷ []) ∷ []) []

abbrev pub close_program : Program
close_program = ex.program (ex.exists (close_rule ∷ close_choice ∷ []) ∷ []) []

-- p(X) :- not q(X). Its variable stands in no positive body atom
abbrev pub unbound_rule : Rule
unbound_rule = ex.rule (ex.at (codes "p") ex.x ∷ []) (Neg (ex.at (codes "q") ex.x) ∷ [])

-- :- Y = X, Y = 1. Both variables are bound by a chain of equations
abbrev pub chained_rule : Rule
chained_rule = ex.denial (Cmp y Eq ex.x ∷ Cmp y Eq (ex.int 1) ∷ [])

-- {p(X) : q(X); p(Y)} :- not r(X). The condition binds X in its element, but not in the body; nothing binds Y
abbrev pub half_bound_rule : Rule
half_bound_rule =
    ex.choice
    (ex.element (ex.at (codes "p") ex.x) (Pos (ex.at (codes "q") ex.x) ∷ [])
    ∷ ex.element (ex.at (codes "p") y) [] ∷ [])
    (Neg (ex.at (codes "r") ex.x) ∷ [])

-- one existential level with a fact a, and behind it the constraint part :- a. p :- not q.
abbrev pub headed_program : Program
headed_program =
    ex.program (ex.exists (ex.rule (ex.a ∷ []) [] ∷ []) ∷ [])
    (ex.denial (Pos ex.a ∷ []) ∷ ex.rule (ex.prop (codes "p") ∷ []) (Neg (ex.prop (codes "q")) ∷ []) ∷ [])

-- seventeen levels without rules
abbrev pub deep_program : Program
deep_program = ex.program (replicate 17 (ex.exists [])) []

-- p(1..3). t(X,_) | u :- X != 2, not v(_,-1). A rule of each kind of term
abbrev pub terms_program : Program
terms_program =
    ex.program (ex.forall (
    ex.rule (ex.at (codes "p") (Range (pos 1) (pos 3)) ∷ []) []
    ∷ ex.rule (ex.atom (codes "t") (ex.x ∷ Anon 1 ∷ []) ∷ ex.prop (codes "u") ∷ [])
    (Cmp ex.x Ne (ex.int 2) ∷ Neg (ex.atom (codes "v") (Anon 2 ∷ Int (negsuc 0) ∷ [])) ∷ []) ∷ []) ∷ [])
    (ex.denial [] ∷ [])

-- the bases of one level with the atoms a and p(-2,b), and of a constraint part with the atom q too
abbrev pub small_bases : Bases
small_bases = record {
  atoms =
      record { name = codes "a"; args = [] }
      ∷ record { name = codes "p"; args = const.Int (negsuc 1) ∷ const.Sym (codes "b") ∷ [] }
      ∷ record { name = codes "q"; args = [] } ∷ [];
  members = [] ∷ (0 ∷ 1 ∷ []) ∷ (0 ∷ 1 ∷ 2 ∷ []) ∷ [];
}

-- bases of one level and a constraint part without atoms
abbrev pub no_bases : Bases
no_bases = record { atoms = []; members = [] ∷ [] ∷ [] ∷ [] }

-- the constraint part holds of every move, and so does the first level; and an entry with a literal and a seed
abbrev pub two_entries : List Entry
two_entries = ex.entry 2 [] true [] ∷ ex.entry 1 [] true [] ∷ []

abbrev pub cube_entry : Entry
cube_entry = ex.entry 2 (ex.literal 0 false ∷ ex.literal 1 true ∷ []) false (1 ∷ [])

-- a text with a negated fact, head and body atom, and a negative number, and its program
abbrev pub strong_text : List ℕ
strong_text = codes "%@exists -p(1..2). - a:-not -b,p(-5)."

abbrev pub strong_fact : Rule
strong_fact = ex.rule (ex.at (codes "-p") (Range (pos 1) (pos 2)) ∷ []) []

abbrev pub strong_rule : Rule
strong_rule =
    ex.rule (ex.prop (codes "-a") ∷ [])
    (Neg (ex.prop (codes "-b")) ∷ Pos (ex.at (codes "p") (Int (negsuc 4))) ∷ [])

abbrev pub strong_program : Program
strong_program = ex.program (ex.exists (strong_fact ∷ strong_rule ∷ []) ∷ []) []

-- a text with choices that have both bounds, an upper one and a lower one, and its program
abbrev pub bounded_text : List ℕ
bounded_text = codes "%@exists 1{a;-b}2:-c. {a}-1. 0 {b}."

abbrev pub both_bounds : Rule
both_bounds =
    ex.bounded (Some (pos 1)) (ex.element ex.a [] ∷ ex.element (ex.prop (codes "-b")) [] ∷ []) (Some (pos 2))
    (Pos ex.c ∷ [])

abbrev pub upper_bound : Rule
upper_bound = ex.bounded None (ex.element ex.a [] ∷ []) (Some (negsuc 0)) []

abbrev pub lower_bound : Rule
lower_bound = ex.bounded (Some (pos 0)) (ex.element ex.b [] ∷ []) None []

abbrev pub bounded_program : Program
bounded_program = ex.program (ex.exists (both_bounds ∷ upper_bound ∷ lower_bound ∷ []) ∷ []) []

-- a text with an interval, two nameless variables and a constraint without literals, and its program
abbrev pub nameless_text : List ℕ
nameless_text = codes "%@forall p(1..2). q:-p(_),p(_). %@constraint :-."

abbrev pub interval_fact : Rule
interval_fact = ex.rule (ex.at (codes "p") (Range (pos 1) (pos 2)) ∷ []) []

abbrev pub nameless_rule : Rule
nameless_rule =
    ex.rule (ex.prop (codes "q") ∷ []) (Pos (ex.at (codes "p") (Anon 1)) ∷ Pos (ex.at (codes "p") (Anon 2)) ∷ [])

abbrev pub nameless_program : Program
nameless_program = ex.program (ex.forall (interval_fact ∷ nameless_rule ∷ []) ∷ []) (ex.denial [] ∷ [])
