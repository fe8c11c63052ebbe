-- A token adds at most one to the tree's count of nameless variables.
use Rattle.std.proofs.Common.{arith, ◌≡◌, refl, ◌∙◌, Bool, true, false, []}
use Rattle.std.specs.Prelude.{ℕ, suc, ◌≤◌, if◌then◌else◌, Option, Some, None}
use Rattle.asp_defs.specs.declared.syntax.Term.TheVariants.{Int, Sym}
use Rattle.asp_defs.specs.declared.syntax.Atom.{Atom}
use Rattle.asp_defs.specs.Tokens.{Token, DirectiveToken, NameToken, NumberToken, MinusToken, VariableToken, AnonymousToken, ArrowToken, DotToken, DotsToken, RightParenToken, LeftParenToken, LeftBraceToken, SemicolonToken, RightBraceToken}
use Rattle.asp_grammar.specs.declared.state.Directive.{Directive}
use Rattle.asp_grammar.specs.declared.state.Directive.TheVariants.{Level, Constraint}
use Rattle.asp_grammar.specs.declared.state.Role.{Role}
use Rattle.asp_grammar.specs.declared.state.Role.TheVariants.{First, Wide, Further, Chosen, Positive, Negative}
use Rattle.asp_grammar.specs.declared.state.State.{State}
use Rattle.asp_grammar.specs.declared.state.State.TheVariants.{Start, Statement, NextHead, AfterHead, AfterFact, AfterLower, FirstElement, NextElement, AfterChosen, AfterChoice, AfterUpper, FirstLiteral, NextLiteral, AfterNot, AfterLeft, AfterOperator, AfterLiteral, AfterName, AfterMinus, AfterNegated, FirstArgument, NextArgument, AfterArgument, AfterNumber, AfterDots}
use Rattle.asp_grammar.specs.declared.tree.Tree.{Tree}
use Rattle.asp_grammar.specs.Machine.{directive_of, first_directive, add_directive, add_atom, add_bare, add_whole, add_argument, add_name, op_of, is_operator_sign, counted, add_start, add_statement, add_head, add_chosen, close_choice, add_upper, add_choice, add_literal, add_close, add_first_literal, add_behind, add_bare_name, add_after_name, add_negated, add_after_negated, add_next_argument, add_first_argument, add_after_argument, add_after_number, add_high, add}

-- a change that leaves the count, and one that adds at most one
abbrev Leaves : (Tree → Tree) → Type 0
Leaves change = (tree : Tree) → (change tree).anonymous ≡ tree.anonymous

abbrev Grows : (Tree → Tree) → Type 0
Grows change = (tree : Tree) → (change tree).anonymous ≤ suc tree.anonymous

at_most : (m n : ℕ) → m ≡ n → m ≤ suc n
at_most m n e = omega (arith, e)

least : (n : ℕ) → 0 ≤ suc n
least n = omega arith

most : (n : ℕ) → suc n ≤ suc n
most n = omega arith

counted_grows : (t : Token) (n : ℕ) → counted n t ≤ suc n
counted_grows (NumberToken x) n = at_most n n refl
counted_grows (NameToken name) n = at_most n n refl
counted_grows (VariableToken name) n = at_most n n refl
counted_grows other n = most n

leaves_directive : (d : Option Directive) → Leaves (add_directive d)
leaves_directive None tree = refl
leaves_directive (Some (Level quant)) tree = refl
leaves_directive (Some Constraint) tree = refl

leaves_first : (d : Option Directive) → Leaves (first_directive d)
leaves_first None tree = refl
leaves_first (Some (Level quant)) tree = refl
leaves_first (Some Constraint) tree = refl

leaves_start : (t : Token) → Leaves (add_start t)
leaves_start (DirectiveToken word) tree = leaves_first (directive_of word) tree
leaves_start other tree = refl

statement_grows : (t : Token) → Grows (add_statement t)
statement_grows (DirectiveToken word) tree = at_most _ _ (leaves_directive (directive_of word) tree)
statement_grows (NameToken name) tree = least tree.anonymous
statement_grows MinusToken tree = least tree.anonymous
statement_grows (NumberToken x) tree = least tree.anonymous
statement_grows LeftBraceToken tree = least tree.anonymous
statement_grows ArrowToken tree = least tree.anonymous
statement_grows other tree = at_most tree.anonymous tree.anonymous refl

leaves_name : (t : Token) → Leaves (add_name t)
leaves_name (NameToken name) tree = refl
leaves_name other tree = refl

leaves_head : (t : Token) → Leaves (add_head t)
leaves_head DotToken tree = refl
leaves_head other tree = refl

leaves_chosen : (t : Token) → Leaves (add_chosen t)
leaves_chosen DotToken tree = refl
leaves_chosen other tree = refl

leaves_upper : (t : Token) → Leaves (add_upper t)
leaves_upper DotToken tree = refl
leaves_upper other tree = refl

leaves_choice : (t : Token) → Leaves (add_choice t)
leaves_choice (NumberToken x) tree = refl
leaves_choice other tree = leaves_upper other (close_choice None tree)

literal_grows : (t : Token) → Grows (add_literal t)
literal_grows AnonymousToken tree = most tree.anonymous
literal_grows other tree = at_most tree.anonymous tree.anonymous refl

leaves_close : (t : Token) → Leaves (add_close t)
leaves_close DotToken tree = refl
leaves_close other tree = refl

first_literal_grows : (t : Token) → Grows (add_first_literal t)
first_literal_grows DotToken tree = at_most tree.anonymous tree.anonymous refl
first_literal_grows SemicolonToken tree = at_most tree.anonymous tree.anonymous refl
first_literal_grows RightBraceToken tree = at_most tree.anonymous tree.anonymous refl
first_literal_grows other tree = literal_grows other tree

leaves_atom : (role : Role) (a : Atom) → Leaves (add_atom role a)
leaves_atom First a tree = refl
leaves_atom Wide a tree = refl
leaves_atom Further a tree = refl
leaves_atom Chosen a tree = refl
leaves_atom (Positive side) a tree = refl
leaves_atom (Negative side) a tree = refl

leaves_behind : (role : Role) (t : Token) → Leaves (add_behind role t)
leaves_behind First t tree = leaves_head t tree
leaves_behind Wide t tree = leaves_head t tree
leaves_behind Further t tree = leaves_head t tree
leaves_behind Chosen t tree = leaves_chosen t tree
leaves_behind (Positive side) t tree = leaves_close t tree
leaves_behind (Negative side) t tree = leaves_close t tree

leaves_bare : (role : Role) (t : Token) → Leaves (add_bare_name role t)
leaves_bare (Positive side) t tree = by_test (is_operator_sign t)
  where
    by_test : (b : Bool) → (if b then record tree { left = Sym tree.name; name = []; op = op_of t } else add_close t (add_bare (Positive side) tree)).anonymous ≡ tree.anonymous
    by_test true = refl
    by_test false = leaves_close t (add_bare (Positive side) tree)
leaves_bare First t tree = leaves_behind First t (add_bare First tree)
leaves_bare Wide t tree = leaves_behind Wide t (add_bare Wide tree)
leaves_bare Further t tree = leaves_behind Further t (add_bare Further tree)
leaves_bare Chosen t tree = leaves_behind Chosen t (add_bare Chosen tree)
leaves_bare (Negative side) t tree = leaves_behind (Negative side) t (add_bare (Negative side) tree)

leaves_after_name : (role : Role) (t : Token) → Leaves (add_after_name role t)
leaves_after_name role LeftParenToken tree = refl
leaves_after_name role other tree = leaves_bare role other tree

leaves_negated : (t : Token) → Leaves (add_negated t)
leaves_negated (NameToken name) tree = refl
leaves_negated other tree = refl

leaves_after_negated : (role : Role) (t : Token) → Leaves (add_after_negated role t)
leaves_after_negated role LeftParenToken tree = refl
leaves_after_negated role other tree = leaves_behind role other (add_bare role tree) ∙ leaves_atom role (record { name = tree.name; args = [] }) (record tree { name = [] })

argument_grows : (t : Token) → Grows (add_next_argument t)
argument_grows (NumberToken x) tree = at_most tree.anonymous tree.anonymous refl
argument_grows other tree = counted_grows other tree.anonymous

leaves_whole : (role : Role) → Leaves (add_whole role)
leaves_whole role tree = leaves_atom role (record { name = tree.name; args = tree.args }) (record tree { name = []; args = [] })

first_argument_grows : (role : Role) (t : Token) → Grows (add_first_argument role t)
first_argument_grows role RightParenToken tree = at_most _ _ (leaves_whole role tree)
first_argument_grows role other tree = argument_grows other tree

leaves_after_argument : (role : Role) (t : Token) → Leaves (add_after_argument role t)
leaves_after_argument role RightParenToken tree = leaves_whole role tree
leaves_after_argument role other tree = refl

leaves_after_number : (role : Role) (t : Token) → Leaves (add_after_number role t)
leaves_after_number role DotsToken tree = refl
leaves_after_number role other tree = leaves_after_argument role other (add_argument (Int tree.low) tree)

leaves_high : (t : Token) → Leaves (add_high t)
leaves_high (NumberToken x) tree = refl
leaves_high other tree = refl

pub count_grows : (state : State) (t : Token) → Grows (add state t)
count_grows Start t tree = at_most _ _ (leaves_start t tree)
count_grows Statement t tree = statement_grows t tree
count_grows NextHead t tree = at_most _ _ (leaves_name t tree)
count_grows AfterHead t tree = at_most _ _ (leaves_head t tree)
count_grows AfterFact t tree = at_most _ _ (leaves_head t tree)
count_grows AfterLower t tree = at_most tree.anonymous tree.anonymous refl
count_grows FirstElement t tree = at_most _ _ (leaves_name t tree)
count_grows NextElement t tree = at_most _ _ (leaves_name t tree)
count_grows AfterChosen t tree = at_most _ _ (leaves_chosen t tree)
count_grows AfterChoice t tree = at_most _ _ (leaves_choice t tree)
count_grows AfterUpper t tree = at_most _ _ (leaves_upper t tree)
count_grows (FirstLiteral side) t tree = first_literal_grows t tree
count_grows (NextLiteral side) t tree = literal_grows t tree
count_grows (AfterNot side) t tree = at_most _ _ (leaves_name t tree)
count_grows (AfterLeft side) t tree = at_most tree.anonymous tree.anonymous refl
count_grows (AfterOperator side) t tree = counted_grows t tree.anonymous
count_grows (AfterLiteral side) t tree = at_most _ _ (leaves_close t tree)
count_grows (AfterName role) t tree = at_most _ _ (leaves_after_name role t tree)
count_grows (AfterMinus role) t tree = at_most _ _ (leaves_negated t tree)
count_grows (AfterNegated role) t tree = at_most _ _ (leaves_after_negated role t tree)
count_grows (FirstArgument role) t tree = first_argument_grows role t tree
count_grows (NextArgument role) t tree = argument_grows t tree
count_grows (AfterArgument role) t tree = at_most _ _ (leaves_after_argument role t tree)
count_grows (AfterNumber role) t tree = at_most _ _ (leaves_after_number role t tree)
count_grows AfterDots t tree = at_most _ _ (leaves_high t tree)
