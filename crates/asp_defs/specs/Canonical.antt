-- The canonical text of a program (of this project). All definitions are transparent.
use Rattle.std.specs.Prelude.{ℕ, ℤ, List, [], ◌∷◌, ◌++◌, codes, Option, None, Some}
use Rattle.std.specs.List.{flat_map, join_by}
use Rattle.std.specs.Fmt.{signed_decimal}
use Rattle.asp_defs.specs.declared.syntax.Op.{Op}
use Rattle.asp_defs.specs.declared.syntax.Op.TheVariants.{Eq, Ne, Lt, Le, Gt, Ge}
use Rattle.asp_defs.specs.declared.syntax.Term.{Term}
use Rattle.asp_defs.specs.declared.syntax.Term.TheVariants.{Int, Sym, Var, Anon, Range}
use Rattle.asp_defs.specs.declared.syntax.Atom.{Atom}
use Rattle.asp_defs.specs.declared.syntax.Literal.{Literal}
use Rattle.asp_defs.specs.declared.syntax.Literal.TheVariants.{Pos, Neg, Cmp}
use Rattle.asp_defs.specs.declared.syntax.Element.{Element}
use Rattle.asp_defs.specs.declared.syntax.Head.{Head}
use Rattle.asp_defs.specs.declared.syntax.Head.TheVariants.{Disj, Choice}
use Rattle.asp_defs.specs.declared.syntax.Rule.{Rule}
use Rattle.asp_defs.specs.declared.syntax.Part.{Part}
use Rattle.asp_defs.specs.declared.syntax.Program.{Program}
use Rattle.asp_defs.specs.Grammar.{quant_word}
use Rattle.asp_defs.specs.Lines.{line}

-- a term
abbrev pub term_text : Term → List ℕ
term_text (Int x) = signed_decimal x
term_text (Sym s) = s
term_text (Var v) = v
term_text (Anon k) = codes "_"
term_text (Range low high) = signed_decimal low ++ codes ".." ++ signed_decimal high

-- a name, and its arguments in parentheses with commas between them, where there are any
abbrev pub applied_text : {A : Type 0} → (A → List ℕ) → List ℕ → List A → List ℕ
applied_text text name [] = name
applied_text text name (x ∷ xs) = name ++ codes "(" ++ join_by text (codes ",") (x ∷ xs) ++ codes ")"

abbrev pub atom_text : Atom → List ℕ
atom_text a = applied_text term_text a.name a.args

abbrev pub op_text : Op → List ℕ
op_text Eq = codes "="
op_text Ne = codes "!="
op_text Lt = codes "<"
op_text Le = codes "<="
op_text Gt = codes ">"
op_text Ge = codes ">="

abbrev pub literal_text : Literal → List ℕ
literal_text (Pos a) = atom_text a
literal_text (Neg a) = codes "not " ++ atom_text a
literal_text (Cmp x op y) = term_text x ++ codes " " ++ op_text op ++ codes " " ++ term_text y

-- literals with commas and blanks between them
abbrev pub literals_text : List Literal → List ℕ
literals_text body = join_by literal_text (codes ", ") body

-- a body behind a sign, and nothing where it is empty
abbrev pub behind_sign : List ℕ → List Literal → List ℕ
behind_sign sign [] = []
behind_sign sign (l ∷ body) = sign ++ literals_text (l ∷ body)

abbrev pub element_text : Element → List ℕ
element_text e = atom_text e.atom ++ behind_sign (codes " : ") e.cond

-- the bounds of a choice, with a blank between a bound and the brace
abbrev pub low_text : Option ℤ → List ℕ
low_text None = []
low_text (Some x) = signed_decimal x ++ codes " "

abbrev pub high_text : Option ℤ → List ℕ
high_text None = []
high_text (Some x) = codes " " ++ signed_decimal x

abbrev pub head_text : Head → List ℕ
head_text (Disj atoms) = join_by atom_text (codes " | ") atoms
head_text (Choice low elements high) =
    low_text low ++ codes "{" ++ join_by element_text (codes "; ") elements ++ codes "}" ++ high_text high

-- a rule with a head, and a constraint, which has its arrow also where it has no literals
abbrev pub headed_text : Head → List Literal → List ℕ
headed_text head body = head_text head ++ behind_sign (codes " :- ") body

abbrev pub statement_text : Head → List Literal → List ℕ
statement_text (Disj []) body = codes ":- " ++ literals_text body
statement_text (Disj (a ∷ atoms)) body = headed_text (Disj (a ∷ atoms)) body
statement_text (Choice low elements high) body = headed_text (Choice low elements high) body

-- a rule's line
abbrev pub rule_line : Rule → List ℕ
rule_line r = line (statement_text r.head r.body ++ codes ".")

-- the lines of a level and of a constraint part, which has none where it is empty
abbrev pub level_text : Part → List ℕ
level_text part = line (codes "%@" ++ quant_word part.quant) ++ flat_map rule_line part.rules

abbrev pub constraint_part_text : List Rule → List ℕ
constraint_part_text [] = []
constraint_part_text (r ∷ rules) = line (codes "%@constraint") ++ flat_map rule_line (r ∷ rules)

-- the canonical text of a program
abbrev pub program_text : Program → List ℕ
program_text p = flat_map level_text p.levels ++ constraint_part_text p.cons
