-- The tree's mark of the constraint part is the one that the walk without a tree carries along.
use Rattle.std.proofs.Common.{◌≡◌, refl, sym, ◌∙◌, ap, subst, Bool, true, false, List, [], ◌∷◌}
use Rattle.std.specs.Prelude.{ℕ, if◌then◌else◌, Option, Some, None, is_some}
use Rattle.asp_defs.specs.declared.syntax.Term.TheVariants.{Int, Sym}
use Rattle.asp_defs.specs.declared.syntax.Atom.{Atom}
use Rattle.asp_defs.specs.Tokens.{Token, DirectiveToken, NameToken, NumberToken, MinusToken, ArrowToken, DotToken, DotsToken, RightParenToken, LeftParenToken, LeftBraceToken}
use Rattle.asp_grammar.specs.declared.state.Directive.{Directive}
use Rattle.asp_grammar.specs.declared.state.Directive.TheVariants.{Level, Constraint}
use Rattle.asp_grammar.specs.declared.state.Side.{Side}
use Rattle.asp_grammar.specs.declared.state.Side.TheVariants.{Body, Condition}
use Rattle.asp_grammar.specs.declared.state.Role.{Role}
use Rattle.asp_grammar.specs.declared.state.Role.TheVariants.{First, Wide, Further, Chosen, Positive, Negative}
use Rattle.asp_grammar.specs.declared.state.State.{State}
use Rattle.asp_grammar.specs.declared.state.State.TheVariants.{Start, Statement, NextHead, AfterHead, AfterFact, AfterLower, FirstElement, NextElement, AfterChosen, AfterChoice, AfterUpper, FirstLiteral, NextLiteral, AfterNot, AfterLeft, AfterOperator, AfterLiteral, AfterName, AfterMinus, AfterNegated, FirstArgument, NextArgument, AfterArgument, AfterNumber, AfterDots}
use Rattle.asp_grammar.specs.declared.tree.Tree.{Tree}
use Rattle.asp_grammar.specs.declared.tree.Builder.{Builder}
use Rattle.asp_grammar.specs.Machine.{directive_of, after_first, after_directive, first_directive, add_directive, add_atom, add_bare, add_whole, add_argument, add_name, op_of, is_operator_sign, next_state, next_close, next_first_literal, next_behind, next_bare, add_head, add_chosen, close_choice, add_upper, add_choice, add_literal, add_close, add_first_literal, add_behind, add_bare_name, add_after_name, add_negated, add_after_negated, add_next_argument, add_first_argument, add_after_argument, add_after_number, add_high, add, moved, run, finish_at, finished}
use Rattle.asp_grammar.proofs.Walks.{opens, open_behind, is_end, walk}

-- ---- inside a statement the mark stays

abbrev Keeps : (Tree → Tree) → Type 0
Keeps change = (tree : Tree) → (change tree).in_constraint ≡ tree.in_constraint

keeps_name : (t : Token) → Keeps (add_name t)
keeps_name (NameToken name) tree = refl
keeps_name other tree = refl

keeps_head : (t : Token) → Keeps (add_head t)
keeps_head DotToken tree = refl
keeps_head other tree = refl

keeps_chosen : (t : Token) → Keeps (add_chosen t)
keeps_chosen DotToken tree = refl
keeps_chosen other tree = refl

keeps_upper : (t : Token) → Keeps (add_upper t)
keeps_upper DotToken tree = refl
keeps_upper other tree = refl

keeps_choice : (t : Token) → Keeps (add_choice t)
keeps_choice (NumberToken x) tree = refl
keeps_choice other tree = keeps_upper other (close_choice None tree)

keeps_literal : (t : Token) → Keeps (add_literal t)
keeps_literal DotToken tree = refl
keeps_literal other tree = refl

keeps_close : (t : Token) → Keeps (add_close t)
keeps_close DotToken tree = refl
keeps_close other tree = refl

keeps_first_literal : (t : Token) → Keeps (add_first_literal t)
keeps_first_literal DotToken tree = refl
keeps_first_literal other tree = refl

keeps_atom : (role : Role) (a : Atom) → Keeps (add_atom role a)
keeps_atom First a tree = refl
keeps_atom Wide a tree = refl
keeps_atom Further a tree = refl
keeps_atom Chosen a tree = refl
keeps_atom (Positive side) a tree = refl
keeps_atom (Negative side) a tree = refl

keeps_behind : (role : Role) (t : Token) → Keeps (add_behind role t)
keeps_behind First t tree = keeps_head t tree
keeps_behind Wide t tree = keeps_head t tree
keeps_behind Further t tree = keeps_head t tree
keeps_behind Chosen t tree = keeps_chosen t tree
keeps_behind (Positive side) t tree = keeps_close t tree
keeps_behind (Negative side) t tree = keeps_close t tree

keeps_bare : (role : Role) (t : Token) → Keeps (add_bare_name role t)
keeps_bare (Positive side) t tree = by_test (is_operator_sign t)
  where
    by_test : (b : Bool) → (if b then record tree { left = Sym tree.name; name = []; op = op_of t } else add_close t (add_bare (Positive side) tree)).in_constraint ≡ tree.in_constraint
    by_test true = refl
    by_test false = keeps_close t (add_bare (Positive side) tree)
keeps_bare First t tree = keeps_behind First t (add_bare First tree)
keeps_bare Wide t tree = keeps_behind Wide t (add_bare Wide tree)
keeps_bare Further t tree = keeps_behind Further t (add_bare Further tree)
keeps_bare Chosen t tree = keeps_behind Chosen t (add_bare Chosen tree)
keeps_bare (Negative side) t tree = keeps_behind (Negative side) t (add_bare (Negative side) tree)

keeps_after_name : (role : Role) (t : Token) → Keeps (add_after_name role t)
keeps_after_name role LeftParenToken tree = refl
keeps_after_name role other tree = keeps_bare role other tree

keeps_negated : (t : Token) → Keeps (add_negated t)
keeps_negated (NameToken name) tree = refl
keeps_negated other tree = refl

keeps_after_negated : (role : Role) (t : Token) → Keeps (add_after_negated role t)
keeps_after_negated role LeftParenToken tree = refl
keeps_after_negated role other tree = keeps_behind role other (add_bare role tree) ∙ keeps_atom role (record { name = tree.name; args = [] }) (record tree { name = [] })

keeps_next_argument : (t : Token) → Keeps (add_next_argument t)
keeps_next_argument (NumberToken x) tree = refl
keeps_next_argument other tree = refl

keeps_whole : (role : Role) → Keeps (add_whole role)
keeps_whole role tree = keeps_atom role (record { name = tree.name; args = tree.args }) (record tree { name = []; args = [] })

keeps_first_argument : (role : Role) (t : Token) → Keeps (add_first_argument role t)
keeps_first_argument role RightParenToken tree = keeps_whole role tree
keeps_first_argument role other tree = keeps_next_argument other tree

keeps_after_argument : (role : Role) (t : Token) → Keeps (add_after_argument role t)
keeps_after_argument role RightParenToken tree = keeps_whole role tree
keeps_after_argument role other tree = refl

keeps_after_number : (role : Role) (t : Token) → Keeps (add_after_number role t)
keeps_after_number role DotsToken tree = refl
keeps_after_number role other tree = keeps_after_argument role other (add_argument (Int tree.low) tree)

keeps_high : (t : Token) → Keeps (add_high t)
keeps_high (NumberToken x) tree = refl
keeps_high other tree = refl

-- ---- each token

-- a fact of a token that may come
abbrev pub Holds : Option State → Type 0 → Type 0
Holds None A = Unit {0}
Holds (Some state) A = A

pub holds : (o : Option State) (A : Type 0) → A → Holds o A
holds None A a = tt
holds (Some state) A a = a

-- inside a statement no directive may come
by_none : (o : Option State) (A : Type 0) → o ≡ None → Holds o A
by_none o A e = subst (λ q. Holds q A) (sym e) tt

none_close : (side : Side) (word : List ℕ) → next_close side (DirectiveToken word) ≡ None
none_close Body word = refl
none_close Condition word = refl

none_first_literal : (side : Side) (word : List ℕ) → next_first_literal side (DirectiveToken word) ≡ None
none_first_literal Body word = refl
none_first_literal Condition word = refl

none_bare : (role : Role) (word : List ℕ) → next_bare role (DirectiveToken word) ≡ None
none_bare First word = refl
none_bare Wide word = refl
none_bare Further word = refl
none_bare Chosen word = refl
none_bare (Positive side) word = none_close side word
none_bare (Negative side) word = none_close side word

none_behind : (role : Role) (word : List ℕ) → next_behind role (DirectiveToken word) ≡ None
none_behind First word = refl
none_behind Wide word = refl
none_behind Further word = refl
none_behind Chosen word = refl
none_behind (Positive side) word = none_close side word
none_behind (Negative side) word = none_close side word

abbrev Marks : Bool → State → Token → Tree → Type 0
Marks f state t tree = Holds (next_state f state t) ((add state t tree).in_constraint ≡ open_behind tree.in_constraint t)

inner : (f : Bool) (state : State) (t : Token) (tree : Tree) → (add state t tree).in_constraint ≡ tree.in_constraint → ((word : List ℕ) → next_state f state (DirectiveToken word) ≡ None) → Marks f state t tree
inner f state (DirectiveToken word) tree kept none = by_none _ _ (none word)
inner f state other tree kept none = holds _ _ kept

marks_start : (f : Bool) (t : Token) (tree : Tree) → Marks f Start t tree
marks_start f (DirectiveToken word) tree = by_directive (directive_of word)
  where
    by_directive : (d : Option Directive) → Holds (after_first d) ((first_directive d tree).in_constraint ≡ opens tree.in_constraint d)
    by_directive None = tt
    by_directive (Some (Level quant)) = refl
    by_directive (Some Constraint) = tt
marks_start f other tree = tt

marks_statement : (f : Bool) (t : Token) (tree : Tree) → Marks f Statement t tree
marks_statement f (DirectiveToken word) tree = by_directive f (directive_of word)
  where
    by_directive : (f : Bool) (d : Option Directive) → Holds (after_directive f d) ((add_directive d tree).in_constraint ≡ opens tree.in_constraint d)
    by_directive true d = tt
    by_directive false None = tt
    by_directive false (Some (Level quant)) = refl
    by_directive false (Some Constraint) = refl
marks_statement f (NameToken name) tree = refl
marks_statement f MinusToken tree = refl
marks_statement f (NumberToken x) tree = refl
marks_statement f LeftBraceToken tree = refl
marks_statement f ArrowToken tree = refl
marks_statement f other tree = tt

marks : (f : Bool) (state : State) (t : Token) (tree : Tree) → Marks f state t tree
marks f Start t tree = marks_start f t tree
marks f Statement t tree = marks_statement f t tree
marks f NextHead t tree = inner f NextHead t tree (keeps_name t tree) (λ word. refl)
marks f AfterHead t tree = inner f AfterHead t tree (keeps_head t tree) (λ word. refl)
marks f AfterFact t tree = inner f AfterFact t tree (keeps_head t tree) (λ word. refl)
marks f AfterLower t tree = inner f AfterLower t tree refl (λ word. refl)
marks f FirstElement t tree = inner f FirstElement t tree (keeps_name t tree) (λ word. refl)
marks f NextElement t tree = inner f NextElement t tree (keeps_name t tree) (λ word. refl)
marks f AfterChosen t tree = inner f AfterChosen t tree (keeps_chosen t tree) (λ word. refl)
marks f AfterChoice t tree = inner f AfterChoice t tree (keeps_choice t tree) (λ word. refl)
marks f AfterUpper t tree = inner f AfterUpper t tree (keeps_upper t tree) (λ word. refl)
marks f (FirstLiteral side) t tree = inner f (FirstLiteral side) t tree (keeps_first_literal t tree) (none_first_literal side)
marks f (NextLiteral side) t tree = inner f (NextLiteral side) t tree (keeps_literal t tree) (λ word. refl)
marks f (AfterNot side) t tree = inner f (AfterNot side) t tree (keeps_name t tree) (λ word. refl)
marks f (AfterLeft side) t tree = inner f (AfterLeft side) t tree refl (λ word. refl)
marks f (AfterOperator side) t tree = inner f (AfterOperator side) t tree refl (λ word. refl)
marks f (AfterLiteral side) t tree = inner f (AfterLiteral side) t tree (keeps_close t tree) (none_close side)
marks f (AfterName role) t tree = inner f (AfterName role) t tree (keeps_after_name role t tree) (none_bare role)
marks f (AfterMinus role) t tree = inner f (AfterMinus role) t tree (keeps_negated t tree) (λ word. refl)
marks f (AfterNegated role) t tree = inner f (AfterNegated role) t tree (keeps_after_negated role t tree) (none_behind role)
marks f (FirstArgument role) t tree = inner f (FirstArgument role) t tree (keeps_first_argument role t tree) (λ word. refl)
marks f (NextArgument role) t tree = inner f (NextArgument role) t tree (keeps_next_argument t tree) (λ word. refl)
marks f (AfterArgument role) t tree = inner f (AfterArgument role) t tree (keeps_after_argument role t tree) (λ word. refl)
marks f (AfterNumber role) t tree = inner f (AfterNumber role) t tree (keeps_after_number role t tree) (λ word. refl)
marks f AfterDots t tree = inner f AfterDots t tree (keeps_high t tree) (λ word. refl)

-- ---- the machine goes where the walk goes

ends_finished : (state : State) (tree : Tree) → is_end state ≡ is_some (finish_at state tree)
ends_finished Statement tree = refl
ends_finished other tree = refl

walks_token : (b : Builder) (t : Token) (ts : List Token) → ((c : Builder) → walk c.tree.in_constraint c.state ts ≡ is_some (finished (run c ts))) → (o : Option State) → Holds o ((add b.state t b.tree).in_constraint ≡ open_behind b.tree.in_constraint t) → (elim o [ None ↦ false | Some next ↦ walk (open_behind b.tree.in_constraint t) next ts ]) ≡ is_some (finished (elim (moved b t o) [ None ↦ None | Some c ↦ run c ts ]))
walks_token b t ts on None mark = refl
walks_token b t ts on (Some next) mark =
    ap (λ f. walk f next ts) (sym mark) ∙ on (record { state = next; tree = add b.state t b.tree })

-- the walk says whether the machine finds a program
pub walks : (ts : List Token) (b : Builder) → walk b.tree.in_constraint b.state ts ≡ is_some (finished (run b ts))
walks [] b = ends_finished b.state b.tree
walks (t ∷ ts) b =
    walks_token b t ts (walks ts) (next_state b.tree.in_constraint b.state t) (marks b.tree.in_constraint b.state t b.tree)
