-- What may still come: in each state, the tokens with which the tree becomes a program.
use Rattle.std.proofs.Common.{ℕ, ◌≡◌, ◌⊎◌, refl, sym, subst, Bool, true, false, List, [], ◌∷◌, ◌++◌, append_assoc, append-nil}
use Rattle.std.specs.Prelude.{ℤ, pos, IsTrue, Option, Some, None, codes}
use Rattle.asp_defs.specs.declared.syntax.Quant.{Quant}
use Rattle.asp_defs.specs.declared.syntax.Op.{Op}
use Rattle.asp_defs.specs.declared.syntax.Op.TheVariants.{Eq}
use Rattle.asp_defs.specs.declared.syntax.Term.{Term}
use Rattle.asp_defs.specs.declared.syntax.Term.TheVariants.{Int, Sym, Range}
use Rattle.asp_defs.specs.declared.syntax.Atom.{Atom}
use Rattle.asp_defs.specs.declared.syntax.Literal.{Literal}
use Rattle.asp_defs.specs.declared.syntax.Literal.TheVariants.{Pos, Neg, Cmp}
use Rattle.asp_defs.specs.declared.syntax.Element.{Element}
use Rattle.asp_defs.specs.declared.syntax.Head.{Head}
use Rattle.asp_defs.specs.declared.syntax.Head.TheVariants.{Disj, Choice}
use Rattle.asp_defs.specs.declared.syntax.Rule.{Rule}
use Rattle.asp_defs.specs.declared.syntax.Part.{Part}
use Rattle.asp_defs.specs.declared.syntax.Program.{Program}
use Rattle.asp_defs.specs.Tokens.{Token, DirectiveToken, NameToken, NumberToken, ArrowToken, ColonToken, DotToken, DotsToken, RightParenToken, LeftBraceToken, RightBraceToken}
use Rattle.asp_defs.specs.Grammar.{Production, AllAt, JoinedAt, AnyJoinedAt, is_comma, is_semicolon, is_or, is_operator, TermAt, WideTermAt, ArgumentsAt, AtomAt, LiteralAt, SignedBodyAt, ElementAt, BoundAt, IsNumbered, StatementAt, quant_word, LevelAt, ConstraintPartAt}
use Rattle.asp_defs.proofs.Numbering.{make_atom, make_element, make_rule}
use Rattle.asp_grammar.specs.declared.state.Side.{Side}
use Rattle.asp_grammar.specs.declared.state.Side.TheVariants.{Body, Condition}
use Rattle.asp_grammar.specs.declared.state.Role.{Role}
use Rattle.asp_grammar.specs.declared.state.Role.TheVariants.{First, Wide, Further, Chosen, Positive, Negative}
use Rattle.asp_grammar.specs.declared.state.State.{State}
use Rattle.asp_grammar.specs.declared.state.State.TheVariants.{Start, Statement, NextHead, AfterHead, AfterFact, AfterLower, FirstElement, NextElement, AfterChosen, AfterChoice, AfterUpper, FirstLiteral, NextLiteral, AfterNot, AfterLeft, AfterOperator, AfterLiteral, AfterName, AfterMinus, AfterNegated, FirstArgument, NextArgument, AfterArgument, AfterNumber, AfterDots}
use Rattle.asp_grammar.specs.declared.tree.Tree.{Tree}

-- ---- lists: some of whose parts are done

-- further parts, a sign before each
abbrev pub MoreAt : {A : Type 0} → (Token → Bool) → Production A → Production (List A)
MoreAt joins At [] ts rest = ts ≡ rest
MoreAt joins At (x ∷ xs) ts rest =
    (sign : Token) × (next : List Token) × (mid : List Token) × IsTrue (joins sign) × (ts ≡ sign ∷ next) × At x next mid × MoreAt joins At xs mid rest

-- behind a part; where a part has to stand; and where one may stand
pub record Rest {A : Type 0} (joins : Token → Bool) (At : Production A) (End : List A → List Token → Type 0) (done : List A) (ts : List Token) : Type 0 where
  pub more : List A
  pub mid : List Token
  pub parts : MoreAt joins At more ts mid
  pub end : End (done ++ more) mid

pub record Next {A : Type 0} (joins : Token → Bool) (At : Production A) (End : List A → List Token → Type 0) (done : List A) (ts : List Token) : Type 0 where
  pub first : A
  pub mid : List Token
  pub part : At first ts mid
  pub rest : Rest joins At End (done ++ first ∷ []) mid

pub record Any {A : Type 0} (joins : Token → Bool) (At : Production A) (End : List A → List Token → Type 0) (done : List A) (ts : List Token) : Type 0 where
  pub all : List A
  pub mid : List Token
  pub parts : AnyJoinedAt joins At all ts mid
  pub end : End (done ++ all) mid

pub joined : {A : Type 0} (joins : Token → Bool) (At : Production A) (x : A) (xs : List A) (ts mid rest : List Token) → At x ts mid → MoreAt joins At xs mid rest → JoinedAt joins At (x ∷ xs) ts rest
joined joins At x [] ts mid rest h e = subst (At x ts) e h
joined joins At x (y ∷ xs) ts mid rest h (sign, next, behind, j, e, k, more) =
    (sign, next, j, subst (At x ts) e h, joined joins At y xs next behind rest k more)

module _ {A : Type 0} {joins : Token → Bool} {At : Production A} {End : List A → List Token → Type 0} (done : List A) (ts : List Token) where
  pub rest_close : End done ts → Rest joins At End done ts
  rest_close h = record { more = []; mid = ts; parts = refl; end = subst (λ xs. End xs ts) (sym (append-nil done)) h }

  pub any_close : End done ts → Any joins At End done ts
  any_close h = record { all = []; mid = ts; parts = refl; end = subst (λ xs. End xs ts) (sym (append-nil done)) h }

  pub rest_next : (sign : Token) → joins sign ≡ true → Next joins At End done ts → Rest joins At End done (sign ∷ ts)
  rest_next sign j n = record {
    more = n.first ∷ n.rest.more;
    mid = n.rest.mid;
    parts = (sign, ts, n.mid, j, refl, n.part, n.rest.parts);
    end = subst (λ xs. End xs n.rest.mid) (append_assoc done (n.first ∷ []) n.rest.more) n.rest.end;
  }

  pub any_next : Next joins At End done ts → Any joins At End done ts
  any_next n = record {
    all = n.first ∷ n.rest.more;
    mid = n.rest.mid;
    parts = joined joins At n.first n.rest.more ts n.mid n.rest.mid n.part n.rest.parts;
    end = subst (λ xs. End xs n.rest.mid) (append_assoc done (n.first ∷ []) n.rest.more) n.rest.end;
  }

-- ---- what the rest depends on

-- the tree without what the open atom and comparison add to it, and also without the open disjunction and literals
abbrev pub atom_frame : Tree → Tree
atom_frame tree = record tree { name = []; args = []; left = Int (pos 0); op = Eq; low = pos 0; anonymous = 0 }

abbrev pub rule_frame : Tree → Tree
rule_frame tree = record tree { atoms = []; literals = []; name = []; args = []; left = Int (pos 0); op = Eq; low = pos 0; anonymous = 0 }

-- ---- statements

-- statements that finish the open part, and the parts behind it
abbrev pub Between : Bool → List Part → Quant → List Rule → List Token → Program → Type 0
Between true levels quant rules ts p =
    (more : List Rule) × AllAt StatementAt more ts [] × (p.levels ≡ levels) × (p.cons ≡ rules ++ more)
Between false levels quant rules ts p =
    (more : List Rule) × (mid : List Token) × (parts : List Part) × (last : List Token) × AllAt StatementAt more ts mid × AllAt LevelAt parts mid last
    × ConstraintPartAt p.cons last [] × (p.levels ≡ levels ++ record { quant = quant; rules = rules ++ more } ∷ parts)

-- what may come behind a rule, before its full stop, and behind its head
abbrev pub Closed : Tree → Program → Rule → List Token → Type 0
Closed tree p r ts = IsNumbered r × Between tree.in_constraint tree.levels tree.quant (tree.rules ++ r ∷ []) ts p

abbrev pub Dotted : Tree → Program → Rule → List Token → Type 0
Dotted tree p r ts = (rest : List Token) × (ts ≡ DotToken ∷ rest) × Closed tree p r rest

abbrev pub HeadEnd : Tree → Program → Head → List Token → Type 0
HeadEnd tree p head ts = (body : List Literal) × (rest : List Token) × SignedBodyAt ArrowToken body ts (DotToken ∷ rest) × Closed tree p (make_rule head body) rest

-- behind all atoms of a disjunction, all elements of a choice, all literals
abbrev pub AtomsEnd : Tree → Program → List Atom → List Token → Type 0
AtomsEnd tree p atoms ts = HeadEnd tree p (Disj atoms) ts

-- behind the closing brace of a choice
abbrev pub ChoiceEnd : Tree → Program → List Element → List Token → Type 0
ChoiceEnd tree p elements ts =
    (upper : Option ℤ) × (mid : List Token) × BoundAt upper ts mid × HeadEnd tree p (Choice tree.lower elements upper) mid

abbrev pub ElementsEnd : Tree → Program → List Element → List Token → Type 0
ElementsEnd tree p elements ts = (rest : List Token) × (ts ≡ RightBraceToken ∷ rest) × ChoiceEnd tree p elements rest

abbrev pub AtomsRest : Tree → Program → List Atom → List Token → Type 0
AtomsRest tree p atoms ts = Rest is_or AtomAt (AtomsEnd tree p) atoms ts

abbrev pub ElementsRest : Tree → Program → List Element → List Token → Type 0
ElementsRest tree p elements ts = Rest is_semicolon ElementAt (ElementsEnd tree p) elements ts

abbrev pub LiteralsEnd : Side → Tree → Program → List Literal → List Token → Type 0
LiteralsEnd Body tree p literals ts = Dotted tree p (make_rule tree.head literals) ts
LiteralsEnd Condition tree p literals ts = ElementsRest tree p (tree.elements ++ make_element tree.element literals ∷ []) ts

abbrev pub LiteralsRest : Side → Tree → Program → List Literal → List Token → Type 0
LiteralsRest side tree p literals ts = Rest is_comma LiteralAt (LiteralsEnd side (rule_frame tree) p) literals ts

-- behind an element's atom
abbrev pub ChosenEnd : Tree → Program → Atom → List Token → Type 0
ChosenEnd tree p a ts =
    (cond : List Literal) × (mid : List Token) × SignedBodyAt ColonToken cond ts mid × ElementsRest tree p (tree.elements ++ make_element a cond ∷ []) mid

-- behind a comparison's operator, and behind its left side
abbrev pub RightSide : Side → Tree → Program → Term → Op → List Token → Type 0
RightSide side tree p x op ts =
    (y : Term) × (mid : List Token) × TermAt y ts mid × LiteralsRest side tree p (tree.literals ++ Cmp x op y ∷ []) mid

abbrev pub Compared : Side → Tree → Program → Term → List Token → Type 0
Compared side tree p x ts =
    (op : Op) × (sign : Token) × (mid : List Token) × IsTrue (is_operator op sign) × (ts ≡ sign ∷ mid) × RightSide side tree p x op mid

-- behind a whole atom
abbrev pub AtomEnd : Role → Tree → Program → Atom → List Token → Type 0
AtomEnd First tree p a ts = AtomsRest tree p (tree.atoms ++ a ∷ []) ts
AtomEnd Wide tree p a ts = Dotted tree p (make_rule (Disj (tree.atoms ++ a ∷ [])) []) ts
AtomEnd Further tree p a ts = AtomsRest tree p (tree.atoms ++ a ∷ []) ts
AtomEnd Chosen tree p a ts = ChosenEnd tree p a ts
AtomEnd (Positive side) tree p a ts = LiteralsRest side tree p (tree.literals ++ Pos a ∷ []) ts
AtomEnd (Negative side) tree p a ts = LiteralsRest side tree p (tree.literals ++ Neg a ∷ []) ts

-- the ways to read an open atom: the first of a statement is one of a disjunction or of a fact
abbrev pub Ways : Role → Tree → Program → (Production Term → (Atom → List Token → Type 0) → Type 0) → Type 0
Ways First tree p Way = Way TermAt (AtomEnd First tree p) ⊎ Way WideTermAt (AtomEnd Wide tree p)
Ways Wide tree p Way = Way WideTermAt (AtomEnd Wide tree p)
Ways Further tree p Way = Way TermAt (AtomEnd Further tree p)
Ways Chosen tree p Way = Way TermAt (AtomEnd Chosen tree p)
Ways (Positive side) tree p Way = Way TermAt (AtomEnd (Positive side) tree p)
Ways (Negative side) tree p Way = Way TermAt (AtomEnd (Negative side) tree p)

-- behind all arguments
abbrev pub ArgumentsEnd : List ℕ → (Atom → List Token → Type 0) → List Term → List Token → Type 0
ArgumentsEnd name End args ts = (rest : List Token) × (ts ≡ RightParenToken ∷ rest) × End (make_atom name args) rest

-- behind a name
abbrev pub NameEnd : List ℕ → List Token → Production Term → (Atom → List Token → Type 0) → Type 0
NameEnd name ts At End = (args : List Term) × (mid : List Token) × ArgumentsAt At args ts mid × End (make_atom name args) mid

abbrev pub LeftName : Role → Tree → Program → List Token → Type 0
LeftName (Positive side) tree p ts = Compared side tree p (Sym tree.name) ts
LeftName role tree p ts = ⊥

-- behind the sign of an interval, and behind its first number
abbrev pub High : Tree → Program → List Token → Type 0
High tree p ts =
    (high : ℤ) × (mid : List Token) × (ts ≡ NumberToken high ∷ mid)
    × Rest is_comma WideTermAt (ArgumentsEnd tree.name (AtomEnd Wide (atom_frame tree) p)) (tree.args ++ Range tree.low high ∷ []) mid

abbrev pub Dots : Tree → Program → List Token → Type 0
Dots tree p ts = (mid : List Token) × (ts ≡ DotsToken ∷ mid) × High tree p mid

abbrev pub Interval : Role → Tree → Program → List Token → Type 0
Interval First tree p ts = Dots tree p ts
Interval Wide tree p ts = Dots tree p ts
Interval role tree p ts = ⊥

-- the tokens that make the tree a program
abbrev pub Completes : State → Tree → List Token → Program → Type 0
Completes Start tree ts p =
    (quant : Quant) × (next : List Token) × (ts ≡ DirectiveToken (quant_word quant) ∷ next) × Between tree.in_constraint tree.levels quant tree.rules next p
Completes Statement tree ts p = Between tree.in_constraint tree.levels tree.quant tree.rules ts p
Completes NextHead tree ts p = Next is_or AtomAt (AtomsEnd tree p) tree.atoms ts
Completes AfterHead tree ts p = AtomsRest tree p tree.atoms ts
Completes AfterFact tree ts p = Dotted tree p (make_rule (Disj tree.atoms) []) ts
Completes AfterLower tree ts p =
    (next : List Token) × (ts ≡ LeftBraceToken ∷ next) × Any is_semicolon ElementAt (ElementsEnd tree p) tree.elements next
Completes FirstElement tree ts p = Any is_semicolon ElementAt (ElementsEnd tree p) tree.elements ts
Completes NextElement tree ts p = Next is_semicolon ElementAt (ElementsEnd tree p) tree.elements ts
Completes AfterChosen tree ts p = ChosenEnd tree p tree.element ts
Completes AfterChoice tree ts p = ChoiceEnd tree p tree.elements ts
Completes AfterUpper tree ts p = HeadEnd tree p tree.head ts
Completes (FirstLiteral side) tree ts p = Any is_comma LiteralAt (LiteralsEnd side (rule_frame tree) p) tree.literals ts
Completes (NextLiteral side) tree ts p = Next is_comma LiteralAt (LiteralsEnd side (rule_frame tree) p) tree.literals ts
Completes (AfterNot side) tree ts p =
    (a : Atom) × (mid : List Token) × AtomAt a ts mid × LiteralsRest side tree p (tree.literals ++ Neg a ∷ []) mid
Completes (AfterLeft side) tree ts p = Compared side tree p tree.left ts
Completes (AfterOperator side) tree ts p = RightSide side tree p tree.left tree.op ts
Completes (AfterLiteral side) tree ts p = LiteralsRest side tree p tree.literals ts
Completes (AfterName role) tree ts p = Ways role (atom_frame tree) p (NameEnd tree.name ts) ⊎ LeftName role tree p ts
Completes (AfterMinus role) tree ts p =
    (name : List ℕ) × (next : List Token) × (ts ≡ NameToken name ∷ next) × Ways role (atom_frame tree) p (NameEnd (codes "-" ++ name) next)
Completes (AfterNegated role) tree ts p = Ways role (atom_frame tree) p (NameEnd tree.name ts)
Completes (FirstArgument role) tree ts p = Ways role (atom_frame tree) p (λ At End. Any is_comma At (ArgumentsEnd tree.name End) tree.args ts)
Completes (NextArgument role) tree ts p = Ways role (atom_frame tree) p (λ At End. Next is_comma At (ArgumentsEnd tree.name End) tree.args ts)
Completes (AfterArgument role) tree ts p = Ways role (atom_frame tree) p (λ At End. Rest is_comma At (ArgumentsEnd tree.name End) tree.args ts)
Completes (AfterNumber role) tree ts p =
    Ways role (atom_frame tree) p (λ At End. Rest is_comma At (ArgumentsEnd tree.name End) (tree.args ++ Int tree.low ∷ []) ts) ⊎ Interval role tree p ts
Completes AfterDots tree ts p = High tree p ts

-- the same behind a token that may come
abbrev pub Then : Option State → Tree → List Token → Program → Type 0
Then None tree ts p = ⊥
Then (Some state) tree ts p = Completes state tree ts p
