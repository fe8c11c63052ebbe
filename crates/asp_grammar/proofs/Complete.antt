-- The machine goes through every program: each part leads from the state before it to the state behind it.
use Rattle.std.proofs.Common.{ℕ, ◌≡◌, refl, sym, subst, inl, inr, Bool, true, false, not, List, [], ◌∷◌, codes}
use Rattle.std.specs.Prelude.{ℤ, IsTrue, Option, Some, None}
use Rattle.asp_defs.specs.declared.syntax.Quant.{Quant}
use Rattle.asp_defs.specs.declared.syntax.Quant.TheVariants.{Exists, Forall}
use Rattle.asp_defs.specs.declared.syntax.Op.{Op}
use Rattle.asp_defs.specs.declared.syntax.Op.TheVariants.{Eq, Ne, Lt, Le, Gt, Ge}
use Rattle.asp_defs.specs.declared.syntax.Term.{Term}
use Rattle.asp_defs.specs.declared.syntax.Term.TheVariants.{Int, Sym, Var, Anon, Range}
use Rattle.asp_defs.specs.declared.syntax.Literal.{Literal}
use Rattle.asp_defs.specs.declared.syntax.Literal.TheVariants.{Pos, Neg, Cmp}
use Rattle.asp_defs.specs.declared.syntax.Element.{Element}
use Rattle.asp_defs.specs.declared.syntax.Head.{Head}
use Rattle.asp_defs.specs.declared.syntax.Head.TheVariants.{Disj, Choice}
use Rattle.asp_defs.specs.declared.syntax.Rule.{Rule}
use Rattle.asp_defs.specs.declared.syntax.Part.{Part}
use Rattle.asp_defs.specs.declared.syntax.Program.{Program}
use Rattle.asp_defs.specs.Lists.{is_empty}
use Rattle.asp_defs.specs.Tokens.{Token, DirectiveToken, NotToken, NameToken, VariableToken, AnonymousToken, NumberToken, MinusToken, ArrowToken, ColonToken, DotToken, DotsToken, CommaToken, SemicolonToken, BarToken, LeftParenToken, RightParenToken, LeftBraceToken, RightBraceToken, EqToken, NeToken, NeAngleToken, LtToken, LeToken, GtToken, GeToken}
use Rattle.asp_defs.specs.Grammar.{Production, AllAt, JoinedAt, AnyJoinedAt, is_comma, is_semicolon, is_or, is_operator, TermAt, WideTermAt, ArgumentsAt, AtomAt, LiteralAt, BodyAt, SignedBodyAt, ElementAt, BoundAt, HeadAt, StatementAt, quant_word, LevelAt, ConstraintPartAt, IsProgram}
use Rattle.asp_defs.proofs.TextRefutations.{clash}
use Rattle.asp_grammar.specs.declared.state.Side.{Side}
use Rattle.asp_grammar.specs.declared.state.Side.TheVariants.{Body, Condition}
use Rattle.asp_grammar.specs.declared.state.Role.{Role}
use Rattle.asp_grammar.specs.declared.state.Role.TheVariants.{First, Wide, Further, Chosen, Positive, Negative}
use Rattle.asp_grammar.specs.declared.state.State.{State}
use Rattle.asp_grammar.specs.declared.state.State.TheVariants.{Start, Statement, NextHead, AfterHead, FirstElement, NextElement, AfterChosen, AfterChoice, AfterUpper, FirstLiteral, NextLiteral, AfterNot, AfterLeft, AfterOperator, AfterLiteral, AfterName, AfterNegated, FirstArgument, NextArgument, AfterArgument}
use Rattle.asp_grammar.specs.Machine.{behind}
use Rattle.asp_grammar.proofs.Walks.{Accepts, alike, behind_number, first_argument, first_element, first_literal, behind_name, behind_negated}

-- ---- lists

-- a part leads back: where what follows it is good, so is what begins with it
abbrev Leads : {A : Type 0} → Production A → (List Token → Type 0) → (List Token → Type 0) → Type 0
Leads {A} At Before After = (x : A) (ts rest : List Token) → At x ts rest → After rest → Before ts

module _ {A : Type 0} {At : Production A} {Before After : List Token → Type 0} (item : Leads At Before After) (joins : Token → Bool) (sign : (t : Token) (ts : List Token) → joins t ≡ true → Before ts → After (t ∷ ts)) where
  joined_leads : Leads (JoinedAt joins At) Before After
  joined_leads [] ts rest h good = absurd h
  joined_leads (x ∷ []) ts rest h good = item x ts rest h good
  joined_leads (x ∷ y ∷ more) ts rest (t, mid, j, h, others) good =
      item x ts (t ∷ mid) h (sign t mid j (joined_leads (y ∷ more) mid rest others good))

  any_leads : {From : List Token → Type 0} → ((ts : List Token) → Before ts → From ts) → (xs : List A) (ts rest : List Token) → AnyJoinedAt joins At xs ts rest → From rest → After rest → From ts
  any_leads {From} wider [] ts rest e none good = subst From (sym e) none
  any_leads wider (x ∷ xs) ts rest h none good = wider ts (joined_leads (x ∷ xs) ts rest h good)

-- ---- terms and atoms

term_leads : (f : Bool) (r : Role) → Leads TermAt (Accepts f (NextArgument r)) (Accepts f (AfterArgument r))
term_leads f r (Int x) ts rest e good = alike f (NextArgument r) ts (NumberToken x ∷ rest) e (behind_number f r rest good)
term_leads f r (Sym s) ts rest e good = alike f (NextArgument r) ts (NameToken s ∷ rest) e good
term_leads f r (Var v) ts rest e good = alike f (NextArgument r) ts (VariableToken v ∷ rest) e good
term_leads f r (Anon k) ts rest e good = alike f (NextArgument r) ts (AnonymousToken ∷ rest) e good
term_leads f r (Range low high) ts rest e good = absurd e

comma_leads : (f : Bool) (r : Role) (t : Token) (ts : List Token) → is_comma t ≡ true → Accepts f (NextArgument r) ts → Accepts f (AfterArgument r) (t ∷ ts)
comma_leads f r CommaToken ts j h = h
comma_leads f r other ts j h = clash j

-- behind a name, with a minus or without
record Named (f : Bool) (r : Role) (state : State) : Type 0 where
  bare : (ts : List Token) → Accepts f (behind r) ts → Accepts f state ts
  opened : (ts : List Token) → Accepts f (FirstArgument r) ts → Accepts f state (LeftParenToken ∷ ts)

plainly : (f : Bool) (r : Role) → Named f r (AfterName r)
plainly f r = record { bare = behind_name f r; opened = λ ts h. h }

negatedly : (f : Bool) (r : Role) → Named f r (AfterNegated r)
negatedly f r = record { bare = behind_negated f r; opened = λ ts h. h }

arguments_lead : (f : Bool) (r : Role) (state : State) → Named f r state → Leads (ArgumentsAt TermAt) (Accepts f state) (Accepts f (behind r))
arguments_lead f r state named args ts rest (inl (none, e)) good = alike f state ts rest e (named.bare rest good)
arguments_lead f r state named args ts rest (inr (mid, e, h)) good =
    alike f state ts (LeftParenToken ∷ mid) e
    (named.opened mid (any_leads (term_leads f r) is_comma (comma_leads f r) (first_argument f r) args mid (RightParenToken ∷ rest) h good good))

-- the arguments of a fact: with an interval or without, only a full stop has to be possible
abbrev Both : Bool → (Role → State) → List Token → Type 0
Both f state ts = Accepts f (state First) ts × Accepts f (state Wide) ts

wide_leads : (f : Bool) → Leads WideTermAt (Both f NextArgument) (Both f AfterArgument)
wide_leads f (Int x) ts rest e good = (term_leads f First (Int x) ts rest e good.0, term_leads f Wide (Int x) ts rest e good.1)
wide_leads f (Sym s) ts rest e good = (term_leads f First (Sym s) ts rest e good.0, term_leads f Wide (Sym s) ts rest e good.1)
wide_leads f (Var v) ts rest e good = (term_leads f First (Var v) ts rest e good.0, term_leads f Wide (Var v) ts rest e good.1)
wide_leads f (Anon k) ts rest e good = (term_leads f First (Anon k) ts rest e good.0, term_leads f Wide (Anon k) ts rest e good.1)
wide_leads f (Range low high) ts rest e good =
    let us = NumberToken low ∷ DotsToken ∷ NumberToken high ∷ rest in
    (alike f (NextArgument First) ts us e good.1, alike f (NextArgument Wide) ts us e good.1)

wide_comma : (f : Bool) (t : Token) (ts : List Token) → is_comma t ≡ true → Both f NextArgument ts → Both f AfterArgument (t ∷ ts)
wide_comma f t ts j h = (comma_leads f First t ts j h.0, comma_leads f Wide t ts j h.1)

wide_arguments : (f : Bool) (state : State) → Named f First state → (args : List Term) (ts rest : List Token) → ArgumentsAt WideTermAt args ts (DotToken ∷ rest) → Accepts f Statement rest → Accepts f state ts
wide_arguments f state named args ts rest (inl (none, e)) good = alike f state ts (DotToken ∷ rest) e (named.bare (DotToken ∷ rest) good)
wide_arguments f state named args ts rest (inr (mid, e, h)) good =
    alike f state ts (LeftParenToken ∷ mid) e
    (named.opened mid (any_leads (wide_leads f) is_comma (wide_comma f) {From = Accepts f (FirstArgument First)} (λ us k. first_argument f First us k.0) args mid (RightParenToken ∷ DotToken ∷ rest) h good (good, good)))

-- a state where an atom may begin
record Begins (f : Bool) (r : Role) (state : State) : Type 0 where
  named : (name : List ℕ) (ts : List Token) → Accepts f (AfterName r) ts → Accepts f state (NameToken name ∷ ts)
  negated : (name : List ℕ) (ts : List Token) → Accepts f (AfterNegated r) ts → Accepts f state (MinusToken ∷ NameToken name ∷ ts)

atom_leads : (f : Bool) (r : Role) (state : State) → Begins f r state → Leads AtomAt (Accepts f state) (Accepts f (behind r))
atom_leads f r state begins a ts rest (mid, inl e, h) good =
    alike f state ts (NameToken a.name ∷ mid) e (begins.named a.name mid (arguments_lead f r (AfterName r) (plainly f r) a.args mid rest h good))
atom_leads f r state begins a ts rest (mid, inr (bare, n, e), h) good =
    alike f state ts (MinusToken ∷ NameToken bare ∷ mid) e
    (begins.negated bare mid (arguments_lead f r (AfterNegated r) (negatedly f r) a.args mid rest h good))

begins_statement : (f : Bool) → Begins f First Statement
begins_statement f = record { named = λ name ts h. h; negated = λ name ts h. h }

begins_head : (f : Bool) → Begins f Further NextHead
begins_head f = record { named = λ name ts h. h; negated = λ name ts h. h }

begins_element : (f : Bool) → Begins f Chosen NextElement
begins_element f = record { named = λ name ts h. h; negated = λ name ts h. h }

begins_literal : (f : Bool) (side : Side) → Begins f (Positive side) (NextLiteral side)
begins_literal f side = record { named = λ name ts h. h; negated = λ name ts h. h }

begins_not : (f : Bool) (side : Side) → Begins f (Negative side) (AfterNot side)
begins_not f side = record { named = λ name ts h. h; negated = λ name ts h. h }

-- ---- literals

right_leads : (f : Bool) (side : Side) → Leads TermAt (Accepts f (AfterOperator side)) (Accepts f (AfterLiteral side))
right_leads f side (Int x) ts rest e good = alike f (AfterOperator side) ts (NumberToken x ∷ rest) e good
right_leads f side (Sym s) ts rest e good = alike f (AfterOperator side) ts (NameToken s ∷ rest) e good
right_leads f side (Var v) ts rest e good = alike f (AfterOperator side) ts (VariableToken v ∷ rest) e good
right_leads f side (Anon k) ts rest e good = alike f (AfterOperator side) ts (AnonymousToken ∷ rest) e good
right_leads f side (Range low high) ts rest e good = absurd e

-- behind a left side, be it a name or not
abbrev AfterSide : Bool → Side → List Token → Type 0
AfterSide f side ts = Accepts f (AfterLeft side) ts × Accepts f (AfterName (Positive side)) ts

operator_leads : (f : Bool) (side : Side) (op : Op) (t : Token) (ts : List Token) → is_operator op t ≡ true → Accepts f (AfterOperator side) ts → AfterSide f side (t ∷ ts)
operator_leads f side Eq EqToken ts o h = (h, h)
operator_leads f side Ne NeToken ts o h = (h, h)
operator_leads f side Ne NeAngleToken ts o h = (h, h)
operator_leads f side Lt LtToken ts o h = (h, h)
operator_leads f side Le LeToken ts o h = (h, h)
operator_leads f side Gt GtToken ts o h = (h, h)
operator_leads f side Ge GeToken ts o h = (h, h)
operator_leads f side op other ts o h = clash o

left_leads : (f : Bool) (side : Side) → Leads TermAt (Accepts f (NextLiteral side)) (AfterSide f side)
left_leads f side (Int x) ts rest e good = alike f (NextLiteral side) ts (NumberToken x ∷ rest) e good.0
left_leads f side (Sym s) ts rest e good = alike f (NextLiteral side) ts (NameToken s ∷ rest) e good.1
left_leads f side (Var v) ts rest e good = alike f (NextLiteral side) ts (VariableToken v ∷ rest) e good.0
left_leads f side (Anon k) ts rest e good = alike f (NextLiteral side) ts (AnonymousToken ∷ rest) e good.0
left_leads f side (Range low high) ts rest e good = absurd e

literal_leads : (f : Bool) (side : Side) → Leads LiteralAt (Accepts f (NextLiteral side)) (Accepts f (AfterLiteral side))
literal_leads f side (Pos a) ts rest h good = atom_leads f (Positive side) (NextLiteral side) (begins_literal f side) a ts rest h good
literal_leads f side (Neg a) ts rest (mid, e, h) good =
    alike f (NextLiteral side) ts (NotToken ∷ mid) e (atom_leads f (Negative side) (AfterNot side) (begins_not f side) a mid rest h good)
literal_leads f side (Cmp x op y) ts rest (sign, mid, o, left, right) good =
    left_leads f side x ts (sign ∷ mid) left (operator_leads f side op sign mid o (right_leads f side y mid rest right good))

next_literal_leads : (f : Bool) (side : Side) (t : Token) (ts : List Token) → is_comma t ≡ true → Accepts f (NextLiteral side) ts → Accepts f (AfterLiteral side) (t ∷ ts)
next_literal_leads f side CommaToken ts j h = h
next_literal_leads f side other ts j h = clash j

body_leads : (f : Bool) (side : Side) (body : List Literal) (ts rest : List Token) → BodyAt body ts rest → Accepts f (FirstLiteral side) rest → Accepts f (AfterLiteral side) rest → Accepts f (FirstLiteral side) ts
body_leads f side body ts rest h none good =
    any_leads (literal_leads f side) is_comma (next_literal_leads f side) (first_literal f side) body ts rest h none good

-- ---- elements and heads

-- behind an element, be its condition empty or not
abbrev AfterElement : Bool → List Token → Type 0
AfterElement f ts = Accepts f AfterChosen ts × Accepts f (FirstLiteral Condition) ts × Accepts f (AfterLiteral Condition) ts

condition_leads : (f : Bool) (cond : List Literal) (ts rest : List Token) → SignedBodyAt ColonToken cond ts rest → AfterElement f rest → Accepts f AfterChosen ts
condition_leads f cond ts rest (inl (none, e)) good = alike f AfterChosen ts rest e good.0
condition_leads f cond ts rest (inr (mid, e, h)) good =
    alike f AfterChosen ts (ColonToken ∷ mid) e (body_leads f Condition cond mid rest h good.1 good.2)

element_leads : (f : Bool) → Leads ElementAt (Accepts f NextElement) (AfterElement f)
element_leads f e ts rest (mid, h, c) good =
    atom_leads f Chosen NextElement (begins_element f) e.atom ts mid h (condition_leads f e.cond mid rest c good)

next_element_leads : (f : Bool) (t : Token) (ts : List Token) → is_semicolon t ≡ true → Accepts f NextElement ts → AfterElement f (t ∷ ts)
next_element_leads f SemicolonToken ts j h = (h, h, h)
next_element_leads f other ts j h = clash j

next_head_leads : (f : Bool) (t : Token) (ts : List Token) → is_or t ≡ true → Accepts f NextHead ts → Accepts f AfterHead (t ∷ ts)
next_head_leads f BarToken ts j h = h
next_head_leads f SemicolonToken ts j h = h
next_head_leads f other ts j h = clash j

further_leads : (f : Bool) → Leads AtomAt (Accepts f NextHead) (Accepts f AfterHead)
further_leads f = atom_leads f Further NextHead (begins_head f)

disjunction_leads : (f : Bool) → Leads (JoinedAt is_or AtomAt) (Accepts f Statement) (Accepts f AfterHead)
disjunction_leads f [] ts rest h good = absurd h
disjunction_leads f (a ∷ []) ts rest h good = atom_leads f First Statement (begins_statement f) a ts rest h good
disjunction_leads f (a ∷ b ∷ more) ts rest (sign, mid, j, h, others) good =
    atom_leads f First Statement (begins_statement f) a ts (sign ∷ mid) h
    (next_head_leads f sign mid j (joined_leads (further_leads f) is_or (next_head_leads f) (b ∷ more) mid rest others good))

lower_leads : (f : Bool) (lower : Option ℤ) (ts rest : List Token) → BoundAt lower ts (LeftBraceToken ∷ rest) → Accepts f FirstElement rest → Accepts f Statement ts
lower_leads f None ts rest e good = alike f Statement ts (LeftBraceToken ∷ rest) e good
lower_leads f (Some x) ts rest e good = alike f Statement ts (NumberToken x ∷ LeftBraceToken ∷ rest) e good

-- behind a choice, be there an upper bound or not
abbrev AfterBounds : Bool → List Token → Type 0
AfterBounds f ts = Accepts f AfterChoice ts × Accepts f AfterUpper ts

upper_leads : (f : Bool) (upper : Option ℤ) (ts rest : List Token) → BoundAt upper ts rest → AfterBounds f rest → Accepts f AfterChoice ts
upper_leads f None ts rest e good = alike f AfterChoice ts rest e good.0
upper_leads f (Some x) ts rest e good = alike f AfterChoice ts (NumberToken x ∷ rest) e good.1

choice_leads : (f : Bool) (lower : Option ℤ) (elements : List Element) (upper : Option ℤ) (ts rest : List Token) → HeadAt (Choice lower elements upper) ts rest → AfterBounds f rest → Accepts f Statement ts
choice_leads f lower elements upper ts rest (mid, closed, l, h, u) good =
    let behind = upper_leads f upper closed rest u good in
    lower_leads f lower ts mid l
    (any_leads (element_leads f) is_semicolon (next_element_leads f) (first_element f) elements mid (RightBraceToken ∷ closed) h behind (behind, behind, behind))

-- ---- statements, levels and programs

-- behind a head that may be followed by an arrow or a full stop
tail_leads : (f : Bool) (state : State) → ((ts : List Token) → Accepts f (FirstLiteral Body) ts → Accepts f state (ArrowToken ∷ ts)) → ((ts : List Token) → Accepts f Statement ts → Accepts f state (DotToken ∷ ts)) → (body : List Literal) (ts rest : List Token) → SignedBodyAt ArrowToken body ts (DotToken ∷ rest) → Accepts f Statement rest → Accepts f state ts
tail_leads f state arrow dot body ts rest (inl (none, e)) good = alike f state ts (DotToken ∷ rest) e (dot rest good)
tail_leads f state arrow dot body ts rest (inr (mid, e, h)) good =
    alike f state ts (ArrowToken ∷ mid) e (arrow mid (body_leads f Body body mid (DotToken ∷ rest) h good good))

rule_leads : (f : Bool) (head : Head) (body : List Literal) (ts mid rest : List Token) → HeadAt head ts mid → SignedBodyAt ArrowToken body mid (DotToken ∷ rest) → Accepts f Statement rest → Accepts f Statement ts
rule_leads f (Disj atoms) body ts mid rest h b good =
    disjunction_leads f atoms ts mid h (tail_leads f AfterHead (λ us k. k) (λ us k. k) body mid rest b good)
rule_leads f (Choice lower elements upper) body ts mid rest h b good =
    choice_leads f lower elements upper ts mid h
    (tail_leads f AfterChoice (λ us k. k) (λ us k. k) body mid rest b good, tail_leads f AfterUpper (λ us k. k) (λ us k. k) body mid rest b good)

statement_leads : (f : Bool) → Leads StatementAt (Accepts f Statement) (Accepts f Statement)
statement_leads f r ts rest (n, inl (a, eh, eb, (mid, inl e, args))) good =
    alike f Statement ts (NameToken a.name ∷ mid) e (wide_arguments f (AfterName First) (plainly f First) a.args mid rest args good)
statement_leads f r ts rest (n, inl (a, eh, eb, (mid, inr (bare, name, e), args))) good =
    alike f Statement ts (MinusToken ∷ NameToken bare ∷ mid) e (wide_arguments f (AfterNegated First) (negatedly f First) a.args mid rest args good)
statement_leads f r ts rest (n, inr (inl (mid, h, b))) good = rule_leads f r.head r.body ts mid rest h b good
statement_leads f r ts rest (n, inr (inr (mid, eh, e, b))) good =
    alike f Statement ts (ArrowToken ∷ mid) e (body_leads f Body r.body mid (DotToken ∷ rest) b good good)

statements_lead : (f : Bool) → Leads (AllAt StatementAt) (Accepts f Statement) (Accepts f Statement)
statements_lead f [] ts rest e good = alike f Statement ts rest e good
statements_lead f (r ∷ rules) ts rest (mid, h, more) good =
    statement_leads f r ts mid h (statements_lead f rules mid rest more good)

directive_leads : (q : Quant) (ts : List Token) → Accepts false Statement ts → Accepts false Start (DirectiveToken (quant_word q) ∷ ts) × Accepts false Statement (DirectiveToken (quant_word q) ∷ ts)
directive_leads Exists ts h = (h, h)
directive_leads Forall ts h = (h, h)

level_leads : (part : Part) (ts rest : List Token) → LevelAt part ts rest → Accepts false Statement rest → Accepts false Start ts × Accepts false Statement ts
level_leads part ts rest (mid, e, h) good =
    let us = DirectiveToken (quant_word part.quant) ∷ mid in
    let d = directive_leads part.quant mid (statements_lead false part.rules mid rest h good) in
    (alike false Start ts us e d.0, alike false Statement ts us e d.1)

levels_lead : Leads (AllAt LevelAt) (Accepts false Statement) (Accepts false Statement)
levels_lead [] ts rest e good = alike false Statement ts rest e good
levels_lead (part ∷ parts) ts rest (mid, h, more) good =
    (level_leads part ts mid h (levels_lead parts mid rest more good)).1

constraint_leads : (cons : List Rule) (ts : List Token) → ConstraintPartAt cons ts [] → Accepts false Statement ts
constraint_leads cons ts (inl (none, e)) = alike false Statement ts [] e refl
constraint_leads cons ts (inr (mid, e, h)) =
    alike false Statement ts (DirectiveToken (codes "constraint") ∷ mid) e (statements_lead true cons mid [] h refl)

some_leads : (parts : List Part) (ts mid : List Token) → IsTrue (not (is_empty parts)) → AllAt LevelAt parts ts mid → Accepts false Statement mid → Accepts false Start ts
some_leads [] ts mid some h good = clash some
some_leads (part ∷ parts) ts mid some (next, h, more) good =
    (level_leads part ts next h (levels_lead parts next mid more good)).0

-- the machine goes through a program to the end of a statement
pub programs_lead : (ts : List Token) (p : Program) → IsProgram ts p → Accepts false Start ts
programs_lead ts p (mid, some, levels, cons) = some_leads p.levels ts mid some levels (constraint_leads p.cons mid cons)
