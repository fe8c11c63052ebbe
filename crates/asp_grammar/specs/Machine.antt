-- The grammar as a machine over tokens (of this project): from each state, which token may come and which state is behind
-- it, and what the token adds to the tree. All definitions are transparent.
use Rattle.std.specs.Prelude.{ℕ, ℤ, suc, pos, Bool, true, false, if◌then◌else◌, List, [], ◌∷◌, ◌++◌, Option, None, Some, Result, Ok, Err, codes, bytes_eq}
use Rattle.asp_defs.specs.declared.syntax.Quant.TheVariants.{Exists, Forall}
use Rattle.asp_defs.specs.declared.syntax.Op.{Op}
use Rattle.asp_defs.specs.declared.syntax.Op.TheVariants.{Eq, Ne, Lt, Le, Gt, Ge}
use Rattle.asp_defs.specs.declared.syntax.Term.{Term}
use Rattle.asp_defs.specs.declared.syntax.Term.TheVariants.{Int, Sym, Var, Anon, Range}
use Rattle.asp_defs.specs.declared.syntax.Atom.{Atom}
use Rattle.asp_defs.specs.declared.syntax.Literal.{Literal}
use Rattle.asp_defs.specs.declared.syntax.Literal.TheVariants.{Pos, Neg, Cmp}
use Rattle.asp_defs.specs.declared.syntax.Head.{Head}
use Rattle.asp_defs.specs.declared.syntax.Head.TheVariants.{Disj, Choice}
use Rattle.asp_defs.specs.declared.syntax.Program.{Program}
use Rattle.asp_defs.specs.declared.faults.TextFault.{TextFault}
use Rattle.asp_defs.specs.declared.faults.TextFault.TheVariants.{NoLevel, Unfinished, UnknownDirective, AfterConstraint, Unexpected}
use Rattle.asp_defs.specs.Tokens.{Token, Placed, tokens_of, DirectiveToken, NotToken, NameToken, VariableToken, AnonymousToken, NumberToken, MinusToken, ArrowToken, ColonToken, DotToken, DotsToken, CommaToken, SemicolonToken, BarToken, LeftParenToken, RightParenToken, LeftBraceToken, RightBraceToken, EqToken, NeToken, NeAngleToken, LtToken, LeToken, GtToken, GeToken}
use Rattle.asp_defs.specs.TextRefusals.{is_known_word, first_refusal}
use Rattle.asp_grammar.specs.declared.state.Directive.{Directive}
use Rattle.asp_grammar.specs.declared.state.Directive.TheVariants.{Level, Constraint}
use Rattle.asp_grammar.specs.declared.state.Side.{Side}
use Rattle.asp_grammar.specs.declared.state.Side.TheVariants.{Body, Condition}
use Rattle.asp_grammar.specs.declared.state.Role.{Role}
use Rattle.asp_grammar.specs.declared.state.Role.TheVariants.{First, Wide, Further, Chosen, Positive, Negative}
use Rattle.asp_grammar.specs.declared.state.State.{State}
use Rattle.asp_grammar.specs.declared.state.State.TheVariants.{Start, Statement, NextHead, AfterHead, AfterFact, AfterLower, FirstElement, NextElement, AfterChosen, AfterChoice, AfterUpper, FirstLiteral, NextLiteral, AfterNot, AfterLeft, AfterOperator, AfterLiteral, AfterName, AfterMinus, AfterNegated, FirstArgument, NextArgument, AfterArgument, AfterNumber, AfterDots}
use Rattle.asp_grammar.specs.declared.tree.Tree.{Tree}
use Rattle.asp_grammar.specs.declared.tree.Builder.{Builder}

-- ---- the next state

-- what a directive's word opens, if it is known
abbrev pub directive_of : List ℕ → Option Directive
directive_of word =
    if bytes_eq word (codes "exists") then Some (Level Exists)
    else if bytes_eq word (codes "forall") then Some (Level Forall)
    else if bytes_eq word (codes "constraint") then Some Constraint
    else None

-- behind a first directive, which opens a level
abbrev pub after_first : Option Directive → Option State
after_first None = None
after_first (Some (Level quant)) = Some Statement
after_first (Some Constraint) = None

-- behind a further directive: none stands behind the constraint part
abbrev pub after_directive : Bool → Option Directive → Option State
after_directive true directive = None
after_directive false None = None
after_directive false (Some directive) = Some Statement

abbrev pub next_start : Token → Option State
next_start (DirectiveToken word) = after_first (directive_of word)
next_start other = None

abbrev pub next_statement : Bool → Token → Option State
next_statement in_constraint (DirectiveToken word) = after_directive in_constraint (directive_of word)
next_statement in_constraint (NameToken name) = Some (AfterName First)
next_statement in_constraint MinusToken = Some (AfterMinus First)
next_statement in_constraint (NumberToken x) = Some AfterLower
next_statement in_constraint LeftBraceToken = Some FirstElement
next_statement in_constraint ArrowToken = Some (FirstLiteral Body)
next_statement in_constraint other = None

-- where only an atom may begin
abbrev pub next_atom : Role → Token → Option State
next_atom role (NameToken name) = Some (AfterName role)
next_atom role MinusToken = Some (AfterMinus role)
next_atom role other = None

-- behind an atom of a disjunction
abbrev pub next_head : Token → Option State
next_head BarToken = Some NextHead
next_head SemicolonToken = Some NextHead
next_head ArrowToken = Some (FirstLiteral Body)
next_head DotToken = Some Statement
next_head other = None

-- behind an atom with an interval
abbrev pub next_fact : Token → Option State
next_fact DotToken = Some Statement
next_fact other = None

-- behind a lower bound
abbrev pub next_lower : Token → Option State
next_lower LeftBraceToken = Some FirstElement
next_lower other = None

-- behind an opening brace
abbrev pub next_first_element : Token → Option State
next_first_element (NameToken name) = Some (AfterName Chosen)
next_first_element MinusToken = Some (AfterMinus Chosen)
next_first_element RightBraceToken = Some AfterChoice
next_first_element other = None

-- behind the atom of an element
abbrev pub next_chosen : Token → Option State
next_chosen ColonToken = Some (FirstLiteral Condition)
next_chosen SemicolonToken = Some NextElement
next_chosen RightBraceToken = Some AfterChoice
next_chosen other = None

-- behind an upper bound, and behind a choice, where one may come
abbrev pub next_upper : Token → Option State
next_upper ArrowToken = Some (FirstLiteral Body)
next_upper DotToken = Some Statement
next_upper other = None

abbrev pub next_choice : Token → Option State
next_choice (NumberToken x) = Some AfterUpper
next_choice other = next_upper other

-- where a literal has to begin
abbrev pub next_literal : Side → Token → Option State
next_literal side NotToken = Some (AfterNot side)
next_literal side (NameToken name) = Some (AfterName (Positive side))
next_literal side MinusToken = Some (AfterMinus (Positive side))
next_literal side (NumberToken x) = Some (AfterLeft side)
next_literal side (VariableToken name) = Some (AfterLeft side)
next_literal side AnonymousToken = Some (AfterLeft side)
next_literal side other = None

-- where literals may end
abbrev pub next_close : Side → Token → Option State
next_close Body DotToken = Some Statement
next_close Condition SemicolonToken = Some NextElement
next_close Condition RightBraceToken = Some AfterChoice
next_close side other = None

-- behind an arrow or a colon
abbrev pub next_first_literal : Side → Token → Option State
next_first_literal Body DotToken = Some Statement
next_first_literal Condition SemicolonToken = Some NextElement
next_first_literal Condition RightBraceToken = Some AfterChoice
next_first_literal side other = next_literal side other

-- behind a literal
abbrev pub next_after_literal : Side → Token → Option State
next_after_literal side CommaToken = Some (NextLiteral side)
next_after_literal side other = next_close side other

-- behind a left side
abbrev pub is_operator_sign : Token → Bool
is_operator_sign EqToken = true
is_operator_sign NeToken = true
is_operator_sign NeAngleToken = true
is_operator_sign LtToken = true
is_operator_sign LeToken = true
is_operator_sign GtToken = true
is_operator_sign GeToken = true
is_operator_sign other = false

abbrev pub next_left : Side → Token → Option State
next_left side t = if is_operator_sign t then Some (AfterOperator side) else None

-- where a right side has to stand
abbrev pub next_right : Side → Token → Option State
next_right side (NumberToken x) = Some (AfterLiteral side)
next_right side (NameToken name) = Some (AfterLiteral side)
next_right side (VariableToken name) = Some (AfterLiteral side)
next_right side AnonymousToken = Some (AfterLiteral side)
next_right side other = None

-- the state behind a whole atom
abbrev pub behind : Role → State
behind First = AfterHead
behind Wide = AfterFact
behind Further = AfterHead
behind Chosen = AfterChosen
behind (Positive side) = AfterLiteral side
behind (Negative side) = AfterLiteral side

-- behind a whole atom
abbrev pub next_behind : Role → Token → Option State
next_behind First t = next_head t
next_behind Wide t = next_fact t
next_behind Further t = next_head t
next_behind Chosen t = next_chosen t
next_behind (Positive side) t = next_after_literal side t
next_behind (Negative side) t = next_after_literal side t

-- behind a name that no parenthesis follows: a left side, or a whole atom
abbrev pub next_bare : Role → Token → Option State
next_bare (Positive side) t = if is_operator_sign t then Some (AfterOperator side) else next_after_literal side t
next_bare role t = next_behind role t

abbrev pub next_name : Role → Token → Option State
next_name role LeftParenToken = Some (FirstArgument role)
next_name role other = next_bare role other

-- behind a minus, and behind the name behind it, which is no left side
abbrev pub next_minus : Role → Token → Option State
next_minus role (NameToken name) = Some (AfterNegated role)
next_minus role other = None

abbrev pub next_negated : Role → Token → Option State
next_negated role LeftParenToken = Some (FirstArgument role)
next_negated role other = next_behind role other

-- where an argument has to stand
abbrev pub next_argument : Role → Token → Option State
next_argument role (NumberToken x) = Some (AfterNumber role)
next_argument role (NameToken name) = Some (AfterArgument role)
next_argument role (VariableToken name) = Some (AfterArgument role)
next_argument role AnonymousToken = Some (AfterArgument role)
next_argument role other = None

-- behind an opening parenthesis
abbrev pub next_first_argument : Role → Token → Option State
next_first_argument role RightParenToken = Some (behind role)
next_first_argument role other = next_argument role other

-- behind an argument
abbrev pub next_after_argument : Role → Token → Option State
next_after_argument role CommaToken = Some (NextArgument role)
next_after_argument role RightParenToken = Some (behind role)
next_after_argument role other = None

-- behind a number among arguments: the first atom of a statement may have an interval
abbrev pub next_dots : Role → Option State
next_dots First = Some AfterDots
next_dots Wide = Some AfterDots
next_dots other = None

abbrev pub next_number : Role → Token → Option State
next_number role DotsToken = next_dots role
next_number role other = next_after_argument role other

-- behind the sign of an interval
abbrev pub next_high : Token → Option State
next_high (NumberToken x) = Some (AfterArgument Wide)
next_high other = None

-- the state behind a token, where it may come; the first argument says whether the constraint part is open
abbrev pub next_state : Bool → State → Token → Option State
next_state in_constraint Start t = next_start t
next_state in_constraint Statement t = next_statement in_constraint t
next_state in_constraint NextHead t = next_atom Further t
next_state in_constraint AfterHead t = next_head t
next_state in_constraint AfterFact t = next_fact t
next_state in_constraint AfterLower t = next_lower t
next_state in_constraint FirstElement t = next_first_element t
next_state in_constraint NextElement t = next_atom Chosen t
next_state in_constraint AfterChosen t = next_chosen t
next_state in_constraint AfterChoice t = next_choice t
next_state in_constraint AfterUpper t = next_upper t
next_state in_constraint (FirstLiteral side) t = next_first_literal side t
next_state in_constraint (NextLiteral side) t = next_literal side t
next_state in_constraint (AfterNot side) t = next_atom (Negative side) t
next_state in_constraint (AfterLeft side) t = next_left side t
next_state in_constraint (AfterOperator side) t = next_right side t
next_state in_constraint (AfterLiteral side) t = next_after_literal side t
next_state in_constraint (AfterName role) t = next_name role t
next_state in_constraint (AfterMinus role) t = next_minus role t
next_state in_constraint (AfterNegated role) t = next_negated role t
next_state in_constraint (FirstArgument role) t = next_first_argument role t
next_state in_constraint (NextArgument role) t = next_argument role t
next_state in_constraint (AfterArgument role) t = next_after_argument role t
next_state in_constraint (AfterNumber role) t = next_number role t
next_state in_constraint AfterDots t = next_high t

-- ---- what a token adds to the tree

-- a term's token, where so many nameless variables stand before it, and how many stand behind it
abbrev pub term_of : ℕ → Token → Term
term_of count (NumberToken x) = Int x
term_of count (NameToken name) = Sym name
term_of count (VariableToken name) = Var name
term_of count other = Anon (suc count)

abbrev pub counted : ℕ → Token → ℕ
counted count (NumberToken x) = count
counted count (NameToken name) = count
counted count (VariableToken name) = count
counted count other = suc count

abbrev pub op_of : Token → Op
op_of EqToken = Eq
op_of NeToken = Ne
op_of NeAngleToken = Ne
op_of LtToken = Lt
op_of LeToken = Le
op_of GtToken = Gt
op_of GeToken = Ge
op_of other = Eq

-- no bytes, and an atom of no bytes: what stays where a part was taken away
abbrev pub no_atom : Atom
no_atom = record { name = []; args = [] }

-- the open level, or the constraint part, is whole
abbrev pub close_part : Tree → Tree
close_part tree = record tree { levels = tree.levels ++ record { quant = tree.quant; rules = tree.rules } ∷ []; rules = [] }

abbrev pub open_part : Directive → Tree → Tree
open_part (Level quant) tree = record tree { quant = quant }
open_part Constraint tree = record tree { in_constraint = true }

abbrev pub add_directive : Option Directive → Tree → Tree
add_directive None tree = tree
add_directive (Some directive) tree = open_part directive (close_part tree)

abbrev pub first_directive : Option Directive → Tree → Tree
first_directive None tree = tree
first_directive (Some directive) tree = open_part directive tree

-- a rule is whole
abbrev pub close_rule : Head → List Literal → Tree → Tree
close_rule head body tree = record tree { rules = tree.rules ++ record { head = head; body = body } ∷ [] }

-- the open element, with its condition, is whole
abbrev pub close_element : List Literal → Tree → Tree
close_element cond tree = record tree { elements = tree.elements ++ record { atom = tree.element; cond = cond } ∷ []; element = no_atom }

-- the elements between the bounds are the head, and the atoms are
abbrev pub close_choice : Option ℤ → Tree → Tree
close_choice upper tree = record tree { head = Choice tree.lower tree.elements upper; elements = [] }

abbrev pub close_disjunction : Tree → Tree
close_disjunction tree = record tree { head = Disj tree.atoms; atoms = [] }

-- a body begins
abbrev pub open_literals : Tree → Tree
open_literals tree = record tree { literals = [] }

-- the open atom without and with arguments
abbrev pub bare_atom : Tree → Atom
bare_atom tree = record { name = tree.name; args = [] }

abbrev pub whole_atom : Tree → Atom
whole_atom tree = record { name = tree.name; args = tree.args }

-- an atom takes its place
abbrev pub add_atom : Role → Atom → Tree → Tree
add_atom First a tree = record tree { atoms = tree.atoms ++ a ∷ [] }
add_atom Wide a tree = record tree { atoms = tree.atoms ++ a ∷ [] }
add_atom Further a tree = record tree { atoms = tree.atoms ++ a ∷ [] }
add_atom Chosen a tree = record tree { element = a }
add_atom (Positive side) a tree = record tree { literals = tree.literals ++ Pos a ∷ [] }
add_atom (Negative side) a tree = record tree { literals = tree.literals ++ Neg a ∷ [] }

abbrev pub add_bare : Role → Tree → Tree
add_bare role tree = add_atom role (bare_atom tree) (record tree { name = [] })

abbrev pub add_whole : Role → Tree → Tree
add_whole role tree = add_atom role (whole_atom tree) (record tree { name = []; args = [] })

-- an argument
abbrev pub add_argument : Term → Tree → Tree
add_argument x tree = record tree { args = tree.args ++ x ∷ [] }

abbrev pub add_term : Token → Tree → Tree
add_term t tree = record tree { args = tree.args ++ term_of tree.anonymous t ∷ []; anonymous = counted tree.anonymous t }

-- the name of an atom
abbrev pub add_name : Token → Tree → Tree
add_name (NameToken name) tree = record tree { name = name }
add_name other tree = tree

-- a comparison is whole
abbrev pub add_right : Token → Tree → Tree
add_right t tree = record tree {
  literals = tree.literals ++ Cmp tree.left tree.op (term_of tree.anonymous t) ∷ [];
  left = Int (pos 0);
  anonymous = counted tree.anonymous t;
}

-- the name of an atom behind a minus
abbrev pub add_negated : Token → Tree → Tree
add_negated (NameToken name) tree = record tree { name = codes "-" ++ name }
add_negated other tree = tree

-- a statement begins
abbrev pub open_atoms : Tree → Tree
open_atoms tree = record tree { atoms = []; anonymous = 0 }

abbrev pub open_head : List ℕ → Tree → Tree
open_head name tree = record tree { atoms = []; name = name; anonymous = 0 }

abbrev pub open_choice : Option ℤ → Tree → Tree
open_choice lower tree = record tree { lower = lower; elements = []; anonymous = 0 }

abbrev pub open_constraint : Tree → Tree
open_constraint tree = record tree { head = Disj []; literals = []; anonymous = 0 }

abbrev pub add_start : Token → Tree → Tree
add_start (DirectiveToken word) tree = first_directive (directive_of word) tree
add_start other tree = tree

abbrev pub add_statement : Token → Tree → Tree
add_statement (DirectiveToken word) tree = add_directive (directive_of word) tree
add_statement (NameToken name) tree = open_head name tree
add_statement MinusToken tree = open_atoms tree
add_statement (NumberToken x) tree = open_choice (Some x) tree
add_statement LeftBraceToken tree = open_choice None tree
add_statement ArrowToken tree = open_constraint tree
add_statement other tree = tree

-- behind an atom of a disjunction
abbrev pub add_head : Token → Tree → Tree
add_head ArrowToken tree = open_literals (close_disjunction tree)
add_head DotToken tree = close_rule (Disj tree.atoms) [] (record tree { atoms = [] })
add_head other tree = tree

-- behind the atom of an element
abbrev pub add_chosen : Token → Tree → Tree
add_chosen ColonToken tree = open_literals tree
add_chosen SemicolonToken tree = close_element [] tree
add_chosen RightBraceToken tree = close_element [] tree
add_chosen other tree = tree

-- behind an upper bound, and behind a choice, where one may come
abbrev pub add_upper : Token → Tree → Tree
add_upper ArrowToken tree = open_literals tree
add_upper DotToken tree = close_rule tree.head [] (record tree { head = Disj [] })
add_upper other tree = tree

abbrev pub add_choice : Token → Tree → Tree
add_choice (NumberToken x) tree = close_choice (Some x) tree
add_choice other tree = add_upper other (close_choice None tree)

-- where a literal has to begin
abbrev pub add_literal : Token → Tree → Tree
add_literal (NameToken name) tree = record tree { name = name }
add_literal (NumberToken x) tree = record tree { left = Int x }
add_literal (VariableToken name) tree = record tree { left = Var name }
add_literal AnonymousToken tree = record tree { left = Anon (suc tree.anonymous); anonymous = suc tree.anonymous }
add_literal other tree = tree

-- where literals end
abbrev pub add_close : Token → Tree → Tree
add_close DotToken tree = close_rule tree.head tree.literals (record tree { head = Disj []; literals = [] })
add_close SemicolonToken tree = close_element tree.literals (record tree { literals = [] })
add_close RightBraceToken tree = close_element tree.literals (record tree { literals = [] })
add_close other tree = tree

-- behind an arrow or a colon
abbrev pub add_first_literal : Token → Tree → Tree
add_first_literal DotToken tree = add_close DotToken tree
add_first_literal SemicolonToken tree = add_close SemicolonToken tree
add_first_literal RightBraceToken tree = add_close RightBraceToken tree
add_first_literal other tree = add_literal other tree

-- behind a whole atom
abbrev pub add_behind : Role → Token → Tree → Tree
add_behind First t tree = add_head t tree
add_behind Wide t tree = add_head t tree
add_behind Further t tree = add_head t tree
add_behind Chosen t tree = add_chosen t tree
add_behind (Positive side) t tree = add_close t tree
add_behind (Negative side) t tree = add_close t tree

-- behind a name that no parenthesis follows
abbrev pub add_bare_name : Role → Token → Tree → Tree
add_bare_name (Positive side) t tree =
    if is_operator_sign t then record tree { left = Sym tree.name; name = []; op = op_of t }
    else add_close t (add_bare (Positive side) tree)
add_bare_name role t tree = add_behind role t (add_bare role tree)

abbrev pub add_after_name : Role → Token → Tree → Tree
add_after_name role LeftParenToken tree = record tree { args = [] }
add_after_name role other tree = add_bare_name role other tree

-- behind a minus and a name
abbrev pub add_after_negated : Role → Token → Tree → Tree
add_after_negated role LeftParenToken tree = record tree { args = [] }
add_after_negated role other tree = add_behind role other (add_bare role tree)

-- where an argument has to stand
abbrev pub add_next_argument : Token → Tree → Tree
add_next_argument (NumberToken x) tree = record tree { low = x }
add_next_argument other tree = add_term other tree

abbrev pub add_first_argument : Role → Token → Tree → Tree
add_first_argument role RightParenToken tree = add_whole role tree
add_first_argument role other tree = add_next_argument other tree

-- behind an argument
abbrev pub add_after_argument : Role → Token → Tree → Tree
add_after_argument role RightParenToken tree = add_whole role tree
add_after_argument role other tree = tree

-- behind a number among arguments
abbrev pub add_after_number : Role → Token → Tree → Tree
add_after_number role DotsToken tree = tree
add_after_number role other tree = add_after_argument role other (add_argument (Int tree.low) tree)

-- behind the sign of an interval
abbrev pub add_high : Token → Tree → Tree
add_high (NumberToken x) tree = add_argument (Range tree.low x) tree
add_high other tree = tree

-- the tree behind a token that may come
abbrev pub add : State → Token → Tree → Tree
add Start t tree = add_start t tree
add Statement t tree = add_statement t tree
add NextHead t tree = add_name t tree
add AfterHead t tree = add_head t tree
add AfterFact t tree = add_head t tree
add AfterLower t tree = tree
add FirstElement t tree = add_name t tree
add NextElement t tree = add_name t tree
add AfterChosen t tree = add_chosen t tree
add AfterChoice t tree = add_choice t tree
add AfterUpper t tree = add_upper t tree
add (FirstLiteral side) t tree = add_first_literal t tree
add (NextLiteral side) t tree = add_literal t tree
add (AfterNot side) t tree = add_name t tree
add (AfterLeft side) t tree = record tree { op = op_of t }
add (AfterOperator side) t tree = add_right t tree
add (AfterLiteral side) t tree = add_close t tree
add (AfterName role) t tree = add_after_name role t tree
add (AfterMinus role) t tree = add_negated t tree
add (AfterNegated role) t tree = add_after_negated role t tree
add (FirstArgument role) t tree = add_first_argument role t tree
add (NextArgument role) t tree = add_next_argument t tree
add (AfterArgument role) t tree = add_after_argument role t tree
add (AfterNumber role) t tree = add_after_number role t tree
add AfterDots t tree = add_high t tree

-- ---- runs

-- nothing was read
abbrev pub start : Builder
start = record {
  state = Start;
  tree = record {
    levels = [];
    quant = Exists;
    in_constraint = false;
    rules = [];
    head = Disj [];
    atoms = [];
    lower = None;
    elements = [];
    element = no_atom;
    literals = [];
    name = [];
    args = [];
    left = Int (pos 0);
    op = Eq;
    low = pos 0;
    anonymous = 0;
  };
}

-- one token, where it may come
abbrev pub moved : Builder → Token → Option State → Option Builder
moved b t None = None
moved b t (Some state) = Some (record { state = state; tree = add b.state t b.tree })

abbrev pub step : Builder → Token → Option Builder
step b t = moved b t (next_state b.tree.in_constraint b.state t)

-- tokens, where each may come behind those before it
abbrev pub run : Builder → List Token → Option Builder
run b [] = Some b
run b (t ∷ ts) = elim (step b t) [ None ↦ None | Some c ↦ run c ts ]

-- the program of a tree whose statements are all whole
abbrev pub program_of : Tree → Program
program_of tree =
    if tree.in_constraint then record { levels = tree.levels; cons = tree.rules }
    else record { levels = tree.levels ++ record { quant = tree.quant; rules = tree.rules } ∷ []; cons = [] }

-- the program that the tokens are, if they are one
abbrev pub finish_at : State → Tree → Option Program
finish_at Statement tree = Some (program_of tree)
finish_at other tree = None

abbrev pub finish : Builder → Option Program
finish b = finish_at b.state b.tree

abbrev pub finished : Option Builder → Option Program
finished None = None
finished (Some b) = finish b

abbrev pub program_from : List Token → Option Program
program_from ts = finished (run start ts)

-- ---- refusals

-- whether a statement may begin at a state
abbrev pub begins_statement : State → Bool
begins_statement Statement = true
begins_statement other = false

-- the refusal of a token that can't come in a state behind other tokens
abbrev pub later_refusal : State → Token → ℕ → TextFault
later_refusal state (DirectiveToken word) at =
    if is_known_word word then if begins_statement state then AfterConstraint at else Unexpected at
    else UnknownDirective at
later_refusal state other at = Unexpected at

-- the refusal of a token that can't come in a state
abbrev pub refusal_at : State → Token → ℕ → TextFault
refusal_at Start t at = first_refusal t at
refusal_at state t at = later_refusal state t at

-- ---- answers

-- behind the last token
abbrev pub end_answer : Option Program → Result Program TextFault
end_answer None = Err Unfinished
end_answer (Some program) = Ok program

-- the program of the tokens, or the refusal of the first one that can't come
abbrev pub answer_from : Builder → List Placed → Result Program TextFault
answer_from b [] = end_answer (finish b)
answer_from b (t ∷ ts) = elim (step b t.token) [ None ↦ Err (refusal_at b.state t.token t.begins) | Some c ↦ answer_from c ts ]

abbrev pub answer : List Placed → Result Program TextFault
answer [] = Err NoLevel
answer (t ∷ ts) = answer_from start (t ∷ ts)

-- the program of a text, or its refusal
abbrev pub text_answer : List ℕ → Result Program TextFault
text_answer bytes = elim (tokens_of bytes) [ Ok ts ↦ answer ts | Err fault ↦ Err fault ]
