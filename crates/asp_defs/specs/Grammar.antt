-- The grammar: which tokens are which program (of this project, in the form that ASP systems share). Each production is
-- a relation between a part of a program, the tokens that begin with it, and the tokens that follow it. All definitions
-- are transparent.
use Rattle.std.specs.Prelude.{ℕ, ℤ, ◌≡◌, ◌⊎◌, Bool, true, false, not, IsTrue, List, [], ◌∷◌, ◌++◌, length, codes, Option, None, Some, Ok}
use Rattle.std.specs.List.{flat_map}
use Rattle.asp_defs.specs.declared.syntax.Quant.{Quant}
use Rattle.asp_defs.specs.declared.syntax.Quant.TheVariants.{Exists, Forall}
use Rattle.asp_defs.specs.declared.syntax.Op.{Op}
use Rattle.asp_defs.specs.declared.syntax.Op.TheVariants.{Eq, Ne, Lt, Le, Gt, Ge}
use Rattle.asp_defs.specs.declared.syntax.Term.{Term}
use Rattle.asp_defs.specs.declared.syntax.Term.TheVariants.{Int, Sym, Var, Anon, Range}
use Rattle.asp_defs.specs.declared.syntax.Atom.{Atom}
use Rattle.asp_defs.specs.declared.syntax.Literal.{Literal}
use Rattle.asp_defs.specs.declared.syntax.Literal.TheVariants.{Pos, Neg, Cmp}
use Rattle.asp_defs.specs.declared.syntax.Element.{Element}
use Rattle.asp_defs.specs.declared.syntax.Head.{Head}
use Rattle.asp_defs.specs.declared.syntax.Head.TheVariants.{Disj, Choice}
use Rattle.asp_defs.specs.declared.syntax.Rule.{Rule}
use Rattle.asp_defs.specs.declared.syntax.Part.{Part}
use Rattle.asp_defs.specs.declared.syntax.Program.{Program}
use Rattle.asp_defs.specs.Lists.{is_empty, numbers_from}
use Rattle.asp_defs.specs.Tokens.{Token, Placed, tokens_of, without_places, DirectiveToken, NotToken, NameToken, VariableToken, AnonymousToken, NumberToken, MinusToken, ArrowToken, ColonToken, DotToken, DotsToken, CommaToken, SemicolonToken, BarToken, LeftParenToken, RightParenToken, LeftBraceToken, RightBraceToken, EqToken, NeToken, NeAngleToken, LtToken, LeToken, GtToken, GeToken}

-- a production: the tokens begin with a form of the part, and the rest follows it
abbrev pub Production : Type 0 → Type 1
Production A = A → List Token → List Token → Type 0

-- any number of parts, one behind the other
abbrev pub AllAt : {A : Type 0} → Production A → Production (List A)
AllAt At [] ts rest = ts ≡ rest
AllAt At (x ∷ xs) ts rest = (mid : List Token) × At x ts mid × AllAt At xs mid rest

-- one part or more, with a sign between each two
abbrev pub JoinedAt : {A : Type 0} → (Token → Bool) → Production A → Production (List A)
JoinedAt joins At [] ts rest = ⊥
JoinedAt joins At (x ∷ []) ts rest = At x ts rest
JoinedAt joins At (x ∷ y ∷ more) ts rest =
    (sign : Token) × (mid : List Token) × IsTrue (joins sign) × At x ts (sign ∷ mid) × JoinedAt joins At (y ∷ more) mid rest

-- no part, or some with a sign between each two
abbrev pub AnyJoinedAt : {A : Type 0} → (Token → Bool) → Production A → Production (List A)
AnyJoinedAt joins At [] ts rest = ts ≡ rest
AnyJoinedAt joins At (x ∷ xs) ts rest = JoinedAt joins At (x ∷ xs) ts rest

abbrev pub is_comma : Token → Bool
is_comma CommaToken = true
is_comma other = false

abbrev pub is_semicolon : Token → Bool
is_semicolon SemicolonToken = true
is_semicolon other = false

-- the signs of a disjunction
abbrev pub is_or : Token → Bool
is_or BarToken = true
is_or SemicolonToken = true
is_or other = false

-- a term: a name, a number, a variable or `_`; an interval is none
abbrev pub TermAt : Production Term
TermAt (Int x) ts rest = ts ≡ NumberToken x ∷ rest
TermAt (Sym s) ts rest = ts ≡ NameToken s ∷ rest
TermAt (Var v) ts rest = ts ≡ VariableToken v ∷ rest
TermAt (Anon k) ts rest = ts ≡ AnonymousToken ∷ rest
TermAt (Range low high) ts rest = ⊥

-- a term of a fact: a term or an interval
abbrev pub WideTermAt : Production Term
WideTermAt (Int x) ts rest = TermAt (Int x) ts rest
WideTermAt (Sym s) ts rest = TermAt (Sym s) ts rest
WideTermAt (Var v) ts rest = TermAt (Var v) ts rest
WideTermAt (Anon k) ts rest = TermAt (Anon k) ts rest
WideTermAt (Range low high) ts rest = ts ≡ NumberToken low ∷ DotsToken ∷ NumberToken high ∷ rest

-- arguments: nothing where there are none, or in parentheses terms with commas between them
abbrev pub ArgumentsAt : Production Term → Production (List Term)
ArgumentsAt At args ts rest =
    ((args ≡ []) × (ts ≡ rest))
    ⊎ ((mid : List Token) × (ts ≡ LeftParenToken ∷ mid) × AnyJoinedAt is_comma At args mid (RightParenToken ∷ rest))

-- the name of an atom: a name, or a minus and a name, which together are the name
abbrev pub PredicateAt : Production (List ℕ)
PredicateAt name ts rest =
    (ts ≡ NameToken name ∷ rest)
    ⊎ ((bare : List ℕ) × (name ≡ codes "-" ++ bare) × (ts ≡ MinusToken ∷ NameToken bare ∷ rest))

-- an atom whose arguments have a given form: its name and the arguments
abbrev pub AtomWithAt : Production Term → Production Atom
AtomWithAt At a ts rest = (mid : List Token) × PredicateAt a.name ts mid × ArgumentsAt At a.args mid rest

-- an atom, and the wide atom of a fact
abbrev pub AtomAt : Production Atom
AtomAt = AtomWithAt TermAt

abbrev pub WideAtomAt : Production Atom
WideAtomAt = AtomWithAt WideTermAt

-- whether a token is a sign of an operator
abbrev pub is_operator : Op → Token → Bool
is_operator Eq EqToken = true
is_operator Ne NeToken = true
is_operator Ne NeAngleToken = true
is_operator Lt LtToken = true
is_operator Le LeToken = true
is_operator Gt GtToken = true
is_operator Ge GeToken = true
is_operator op other = false

-- a literal: an atom, `not` and an atom, or an operator between two terms
abbrev pub LiteralAt : Production Literal
LiteralAt (Pos a) ts rest = AtomAt a ts rest
LiteralAt (Neg a) ts rest = (mid : List Token) × (ts ≡ NotToken ∷ mid) × AtomAt a mid rest
LiteralAt (Cmp x op y) ts rest =
    (sign : Token) × (mid : List Token) × IsTrue (is_operator op sign) × TermAt x ts (sign ∷ mid) × TermAt y mid rest

-- a body: literals with commas between them, or nothing
abbrev pub BodyAt : Production (List Literal)
BodyAt = AnyJoinedAt is_comma LiteralAt

-- a sign and a body behind it; where the body is empty, the sign may be left out
abbrev pub SignedBodyAt : Token → Production (List Literal)
SignedBodyAt sign body ts rest =
    ((body ≡ []) × (ts ≡ rest)) ⊎ ((mid : List Token) × (ts ≡ sign ∷ mid) × BodyAt body mid rest)

-- an element of a choice: an atom, and behind a colon its condition
abbrev pub ElementAt : Production Element
ElementAt e ts rest = (mid : List Token) × AtomAt e.atom ts mid × SignedBodyAt ColonToken e.cond mid rest

-- a bound of a choice: a number, or nothing
abbrev pub BoundAt : Production (Option ℤ)
BoundAt None ts rest = ts ≡ rest
BoundAt (Some x) ts rest = ts ≡ NumberToken x ∷ rest

-- a head: atoms of a disjunction, or in braces the elements of a choice, between its bounds
abbrev pub HeadAt : Production Head
HeadAt (Disj atoms) ts rest = JoinedAt is_or AtomAt atoms ts rest
HeadAt (Choice low elements high) ts rest =
    (mid : List Token) × (closed : List Token) × BoundAt low ts (LeftBraceToken ∷ mid)
    × AnyJoinedAt is_semicolon ElementAt elements mid (RightBraceToken ∷ closed) × BoundAt high closed rest

-- a fact: a wide atom and a full stop
abbrev pub FactAt : Production Rule
FactAt r ts rest =
    (a : Atom) × (r.head ≡ Disj (a ∷ [])) × (r.body ≡ []) × WideAtomAt a ts (DotToken ∷ rest)

-- a rule: a head, behind an arrow its body, and a full stop
abbrev pub RuleAt : Production Rule
RuleAt r ts rest =
    (mid : List Token) × HeadAt r.head ts mid × SignedBodyAt ArrowToken r.body mid (DotToken ∷ rest)

-- a constraint: an arrow, a body and a full stop
abbrev pub ConstraintAt : Production Rule
ConstraintAt r ts rest =
    (mid : List Token) × (r.head ≡ Disj []) × (ts ≡ ArrowToken ∷ mid) × BodyAt r.body mid (DotToken ∷ rest)

-- the numbers of the nameless variables of a term, an atom, a literal, an element, a head and a rule, from the left
abbrev pub term_anonymous : Term → List ℕ
term_anonymous (Int x) = []
term_anonymous (Sym s) = []
term_anonymous (Var v) = []
term_anonymous (Anon k) = k ∷ []
term_anonymous (Range low high) = []

abbrev pub atom_anonymous : Atom → List ℕ
atom_anonymous a = flat_map term_anonymous a.args

abbrev pub literal_anonymous : Literal → List ℕ
literal_anonymous (Pos a) = atom_anonymous a
literal_anonymous (Neg a) = atom_anonymous a
literal_anonymous (Cmp x op y) = term_anonymous x ++ term_anonymous y

abbrev pub element_anonymous : Element → List ℕ
element_anonymous e = atom_anonymous e.atom ++ flat_map literal_anonymous e.cond

abbrev pub head_anonymous : Head → List ℕ
head_anonymous (Disj atoms) = flat_map atom_anonymous atoms
head_anonymous (Choice low elements high) = flat_map element_anonymous elements

abbrev pub rule_anonymous : Rule → List ℕ
rule_anonymous r = head_anonymous r.head ++ flat_map literal_anonymous r.body

-- a rule's nameless variables are numbered from 1 through the rule
abbrev pub IsNumbered : Rule → Type 0
IsNumbered r = rule_anonymous r ≡ numbers_from 1 (length (rule_anonymous r))

-- a statement: a fact, a rule or a constraint, its nameless variables numbered
abbrev pub StatementAt : Production Rule
StatementAt r ts rest = IsNumbered r × (FactAt r ts rest ⊎ (RuleAt r ts rest ⊎ ConstraintAt r ts rest))

-- the word of a level's directive
abbrev pub quant_word : Quant → List ℕ
quant_word Exists = codes "exists"
quant_word Forall = codes "forall"

-- a level: its directive and statements
abbrev pub LevelAt : Production Part
LevelAt part ts rest =
    (mid : List Token) × (ts ≡ DirectiveToken (quant_word part.quant) ∷ mid) × AllAt StatementAt part.rules mid rest

-- a constraint part: its directive and statements; where it has none, it may be left out
abbrev pub ConstraintPartAt : Production (List Rule)
ConstraintPartAt cons ts rest =
    ((cons ≡ []) × (ts ≡ rest))
    ⊎ ((mid : List Token) × (ts ≡ DirectiveToken (codes "constraint") ∷ mid) × AllAt StatementAt cons mid rest)

-- tokens are a program: one level or more, and a constraint part
abbrev pub IsProgram : List Token → Program → Type 0
IsProgram ts p =
    (mid : List Token) × IsTrue (not (is_empty p.levels)) × AllAt LevelAt p.levels ts mid × ConstraintPartAt p.cons mid []

-- bytes are a text of a program
abbrev pub IsText : List ℕ → Program → Type 0
IsText bytes p = (ts : List Placed) × (tokens_of bytes ≡ Ok ts) × IsProgram (without_places ts) p
