-- The nameless variables of the open rule are numbered from 1, and the tree counts them.
use Rattle.std.proofs.Common.{arith, ℕ, zero, suc, ◌+◌, ◌≡◌, refl, sym, ◌∙◌, ap, Bool, true, false, List, [], ◌∷◌, ◌++◌, append_assoc, append-nil}
use Rattle.std.specs.Prelude.{length, if◌then◌else◌, Option, Some, None}
use Rattle.std.specs.List.{flat_map}
use Rattle.std.proofs.lemmas.List.{flat_map_more}
use Rattle.asp_defs.specs.declared.syntax.Term.{Term}
use Rattle.asp_defs.specs.declared.syntax.Term.TheVariants.{Int, Sym, Range}
use Rattle.asp_defs.specs.declared.syntax.Atom.{Atom}
use Rattle.asp_defs.specs.declared.syntax.Literal.{Literal}
use Rattle.asp_defs.specs.declared.syntax.Literal.TheVariants.{Pos, Neg, Cmp}
use Rattle.asp_defs.specs.declared.syntax.Rule.{Rule}
use Rattle.asp_defs.specs.Lists.{numbers_from}
use Rattle.asp_defs.specs.Tokens.{Token, DirectiveToken, NotToken, NameToken, VariableToken, AnonymousToken, NumberToken, MinusToken, ArrowToken, ColonToken, DotToken, DotsToken, CommaToken, SemicolonToken, BarToken, LeftParenToken, RightParenToken, LeftBraceToken, RightBraceToken}
use Rattle.asp_defs.specs.Grammar.{term_anonymous, atom_anonymous, literal_anonymous, element_anonymous, head_anonymous, rule_anonymous, IsNumbered}
use Rattle.asp_defs.proofs.Numbering.{make_element}
use Rattle.asp_grammar.specs.declared.state.Directive.{Directive}
use Rattle.asp_grammar.specs.declared.state.Directive.TheVariants.{Level, Constraint}
use Rattle.asp_grammar.specs.declared.state.Side.{Side}
use Rattle.asp_grammar.specs.declared.state.Side.TheVariants.{Body, Condition}
use Rattle.asp_grammar.specs.declared.state.Role.{Role}
use Rattle.asp_grammar.specs.declared.state.Role.TheVariants.{First, Wide, Further, Chosen, Positive, Negative}
use Rattle.asp_grammar.specs.declared.state.State.{State}
use Rattle.asp_grammar.specs.declared.state.State.TheVariants.{Start, Statement, NextHead, AfterHead, AfterFact, AfterLower, FirstElement, NextElement, AfterChosen, AfterChoice, AfterUpper, FirstLiteral, NextLiteral, AfterNot, AfterLeft, AfterOperator, AfterLiteral, AfterName, AfterMinus, AfterNegated, FirstArgument, NextArgument, AfterArgument, AfterNumber, AfterDots}
use Rattle.asp_grammar.specs.declared.tree.Tree.{Tree}
use Rattle.asp_grammar.proofs.Rests.{atom_frame, rule_frame}
use Rattle.asp_grammar.specs.Machine.{directive_of, after_first, after_directive, first_directive, add_directive, behind, bare_atom, add_atom, add_bare, add_whole, add_argument, next_start, next_statement, next_head, next_fact, next_lower, next_first_element, next_chosen, next_upper, next_choice, next_literal, next_close, next_first_literal, next_after_literal, next_left, next_right, next_behind, next_name, next_minus, next_negated, next_argument, next_first_argument, next_after_argument, next_number, next_high, next_state, add_start, add_statement, add_head, add_chosen, add_upper, add_choice, close_choice, add_literal, add_close, add_first_literal, add_right, add_behind, add_after_name, add_negated, add_after_negated, add_next_argument, add_first_argument, add_after_argument, add_after_number, add_high, add, add_term, add_name, term_of, counted, whole_atom, is_operator_sign, op_of, next_atom, next_bare, add_bare_name, next_dots}

-- ---- numbers from one on

length_numbers : (first count : ℕ) → length (numbers_from first count) ≡ count
length_numbers first zero = refl
length_numbers first (suc count) = ap suc (length_numbers (suc first) count)

numbers_snoc : (first count : ℕ) → numbers_from first (suc count) ≡ numbers_from first count ++ (first + count) ∷ []
numbers_snoc first zero = let e : first ≡ first + 0 = omega arith in ap (λ k. k ∷ []) e
numbers_snoc first (suc count) =
    let e : suc first + count ≡ first + suc count = omega arith in
    ap (λ ks. first ∷ ks) (numbers_snoc (suc first) count) ∙ ap (λ k. first ∷ (numbers_from (suc first) count ++ k ∷ [])) e

-- one number more
pub one_more : (ks : List ℕ) (count : ℕ) → ks ≡ numbers_from 1 count → ks ++ suc count ∷ [] ≡ numbers_from 1 (suc count)
one_more ks count e =
    let one : 1 + count ≡ suc count = omega arith in
    ap (λ ms. ms ++ suc count ∷ []) e ∙ ap (λ k. numbers_from 1 count ++ k ∷ []) (sym one) ∙ sym (numbers_snoc 1 count)

pub numbered : (r : Rule) (count : ℕ) → rule_anonymous r ≡ numbers_from 1 count → IsNumbered r
numbered r count e = e ∙ ap (numbers_from 1) (sym (ap length e ∙ length_numbers 1 count))

-- ---- the numbers of the open rule

-- before the literals, up to them, and up to the open atom
abbrev before_literals : Side → Tree → List ℕ
before_literals Body tree = head_anonymous tree.head
before_literals Condition tree = flat_map element_anonymous tree.elements ++ atom_anonymous tree.element

abbrev of_literals : Side → Tree → List ℕ
of_literals side tree = before_literals side (rule_frame tree) ++ flat_map literal_anonymous tree.literals

abbrev before_atom : Role → Tree → List ℕ
before_atom First tree = flat_map atom_anonymous tree.atoms
before_atom Wide tree = flat_map atom_anonymous tree.atoms
before_atom Further tree = flat_map atom_anonymous tree.atoms
before_atom Chosen tree = flat_map element_anonymous tree.elements
before_atom (Positive side) tree = of_literals side tree
before_atom (Negative side) tree = of_literals side tree

abbrev of_arguments : Role → Tree → List ℕ
of_arguments role tree = before_atom role (atom_frame tree) ++ flat_map term_anonymous tree.args

abbrev numbers : State → Tree → List ℕ
numbers Start tree = []
numbers Statement tree = []
numbers NextHead tree = flat_map atom_anonymous tree.atoms
numbers AfterHead tree = flat_map atom_anonymous tree.atoms
numbers AfterFact tree = flat_map atom_anonymous tree.atoms
numbers AfterLower tree = flat_map element_anonymous tree.elements
numbers FirstElement tree = flat_map element_anonymous tree.elements
numbers NextElement tree = flat_map element_anonymous tree.elements
numbers AfterChosen tree = flat_map element_anonymous tree.elements ++ atom_anonymous tree.element
numbers AfterChoice tree = flat_map element_anonymous tree.elements
numbers AfterUpper tree = head_anonymous tree.head
numbers (FirstLiteral side) tree = of_literals side tree
numbers (NextLiteral side) tree = of_literals side tree
numbers (AfterNot side) tree = of_literals side tree
numbers (AfterLeft side) tree = of_literals side tree ++ term_anonymous tree.left
numbers (AfterOperator side) tree = of_literals side tree ++ term_anonymous tree.left
numbers (AfterLiteral side) tree = of_literals side tree
numbers (AfterName role) tree = before_atom role (atom_frame tree)
numbers (AfterMinus role) tree = before_atom role (atom_frame tree)
numbers (AfterNegated role) tree = before_atom role (atom_frame tree)
numbers (FirstArgument role) tree = of_arguments role tree
numbers (NextArgument role) tree = of_arguments role tree
numbers (AfterArgument role) tree = of_arguments role tree
numbers (AfterNumber role) tree = of_arguments role tree
numbers AfterDots tree = of_arguments Wide tree

-- inside a statement the tree counts them
abbrev pub Counts : State → Tree → Type 0
Counts Start tree = Unit {0}
Counts Statement tree = Unit {0}
Counts state tree = numbers state tree ≡ numbers_from 1 tree.anonymous

abbrev pub AllCount : Option State → Tree → Type 0
AllCount None tree = Unit {0}
AllCount (Some state) tree = Counts state tree

-- ---- each token keeps the count

-- nothing more at the end
same : (ks : List ℕ) (count : ℕ) → ks ≡ numbers_from 1 count → ks ++ [] ≡ numbers_from 1 count
same ks count e = append-nil ks ∙ e

-- a part more
longer : {A : Type 0} (f : A → List ℕ) (front : List ℕ) (xs : List A) (x : A) (all : List ℕ) → (front ++ flat_map f xs) ++ f x ≡ all → front ++ flat_map f (xs ++ x ∷ []) ≡ all
longer f front xs x all e = sym (flat_map_more f front xs x) ∙ e

-- an atom takes its place
pub placed : (role : Role) (a : Atom) (tree : Tree) (all : List ℕ) → before_atom role (atom_frame tree) ++ atom_anonymous a ≡ all → numbers (behind role) (add_atom role a tree) ≡ all
placed First a tree all e = longer atom_anonymous [] tree.atoms a all e
placed Wide a tree all e = longer atom_anonymous [] tree.atoms a all e
placed Further a tree all e = longer atom_anonymous [] tree.atoms a all e
placed Chosen a tree all e = e
placed (Positive side) a tree all e = longer literal_anonymous (before_literals side (rule_frame tree)) tree.literals (Pos a) all e
placed (Negative side) a tree all e = longer literal_anonymous (before_literals side (rule_frame tree)) tree.literals (Neg a) all e

pub counts_bare : (role : Role) (tree : Tree) → Counts (AfterName role) tree → Counts (behind role) (add_bare role tree)
counts_bare role tree e = counted_bare role (placed role (bare_atom tree) (record tree { name = [] }) (numbers_from 1 tree.anonymous) (same _ _ e))
  where
    counted_bare : (role : Role) → numbers (behind role) (add_bare role tree) ≡ numbers_from 1 tree.anonymous → Counts (behind role) (add_bare role tree)
    counted_bare First h = h
    counted_bare Wide h = h
    counted_bare Further h = h
    counted_bare Chosen h = h
    counted_bare (Positive side) h = h
    counted_bare (Negative side) h = h

pub counts_whole : (role : Role) (tree : Tree) → of_arguments role tree ≡ numbers_from 1 tree.anonymous → Counts (behind role) (add_whole role tree)
counts_whole role tree e = counted_whole role (placed role (whole_atom tree) (record tree { name = []; args = [] }) (numbers_from 1 tree.anonymous) e)
  where
    counted_whole : (role : Role) → numbers (behind role) (add_whole role tree) ≡ numbers_from 1 tree.anonymous → Counts (behind role) (add_whole role tree)
    counted_whole First h = h
    counted_whole Wide h = h
    counted_whole Further h = h
    counted_whole Chosen h = h
    counted_whole (Positive side) h = h
    counted_whole (Negative side) h = h

-- a term more: a nameless variable is counted
counts_term : (front : List ℕ) (t : Token) (count : ℕ) → front ≡ numbers_from 1 count → front ++ term_anonymous (term_of count t) ≡ numbers_from 1 (counted count t)
counts_term front (NumberToken x) count e = same front count e
counts_term front (NameToken name) count e = same front count e
counts_term front (VariableToken name) count e = same front count e
counts_term front other count e = one_more front count e

counts_argument : (role : Role) (t : Token) (tree : Tree) → of_arguments role tree ≡ numbers_from 1 tree.anonymous → of_arguments role (add_term t tree) ≡ numbers_from 1 (counted tree.anonymous t)
counts_argument role t tree e =
    longer term_anonymous (before_atom role (atom_frame tree)) tree.args (term_of tree.anonymous t) (numbers_from 1 (counted tree.anonymous t)) (counts_term (of_arguments role tree) t tree.anonymous e)

-- an interval, or a number, among arguments
counts_number : (role : Role) (x : Term) (tree : Tree) → term_anonymous x ≡ [] → of_arguments role tree ≡ numbers_from 1 tree.anonymous → of_arguments role (add_argument x tree) ≡ numbers_from 1 tree.anonymous
counts_number role x tree none e =
    longer term_anonymous (before_atom role (atom_frame tree)) tree.args x (numbers_from 1 tree.anonymous) (ap (λ ks. of_arguments role tree ++ ks) none ∙ same (of_arguments role tree) tree.anonymous e)

-- an element more
counts_element : (tree : Tree) (cond : List Literal) (all : List ℕ) → (flat_map element_anonymous tree.elements ++ atom_anonymous tree.element) ++ flat_map literal_anonymous cond ≡ all → flat_map element_anonymous (tree.elements ++ make_element tree.element cond ∷ []) ≡ all
counts_element tree cond all e =
    longer element_anonymous [] tree.elements (make_element tree.element cond) all (sym (append_assoc (flat_map element_anonymous tree.elements) (atom_anonymous tree.element) (flat_map literal_anonymous cond)) ∙ e)

counts_right : (side : Side) (t : Token) (tree : Tree) → Counts (AfterOperator side) tree → Counts (AfterLiteral side) (add_right t tree)
counts_right side t tree e =
    longer literal_anonymous (before_literals side (rule_frame tree)) tree.literals (Cmp tree.left tree.op (term_of tree.anonymous t)) (numbers_from 1 (counted tree.anonymous t))
    (sym (append_assoc (of_literals side tree) (term_anonymous tree.left) (term_anonymous (term_of tree.anonymous t)))
    ∙ counts_term (numbers (AfterOperator side) tree) t tree.anonymous e)

counts_start : (t : Token) (tree : Tree) → AllCount (next_start t) (add_start t tree)
counts_start (DirectiveToken word) tree = by_directive (directive_of word)
  where
    by_directive : (d : Option Directive) → AllCount (after_first d) (first_directive d tree)
    by_directive None = tt
    by_directive (Some (Level quant)) = tt
    by_directive (Some Constraint) = tt
counts_start other tree = tt

counts_statement : (f : Bool) (t : Token) (tree : Tree) → AllCount (next_statement f t) (add_statement t tree)
counts_statement f (DirectiveToken word) tree = by_directive f (directive_of word)
  where
    by_directive : (f : Bool) (d : Option Directive) → AllCount (after_directive f d) (add_directive d tree)
    by_directive true d = tt
    by_directive false None = tt
    by_directive false (Some d) = tt
counts_statement f (NameToken name) tree = refl
counts_statement f MinusToken tree = refl
counts_statement f (NumberToken x) tree = refl
counts_statement f LeftBraceToken tree = refl
counts_statement f ArrowToken tree = refl
counts_statement f other tree = tt

counts_head : (t : Token) (tree : Tree) → Counts AfterHead tree → AllCount (next_head t) (add_head t tree)
counts_head BarToken tree e = e
counts_head SemicolonToken tree e = e
counts_head ArrowToken tree e = same _ _ e
counts_head DotToken tree e = tt
counts_head other tree e = tt

counts_fact : (t : Token) (tree : Tree) → AllCount (next_fact t) (add_head t tree)
counts_fact DotToken tree = tt
counts_fact other tree = tt

counts_lower : (t : Token) (tree : Tree) → Counts AfterLower tree → AllCount (next_lower t) tree
counts_lower LeftBraceToken tree e = e
counts_lower other tree e = tt

counts_first_element : (t : Token) (tree : Tree) → Counts FirstElement tree → AllCount (next_first_element t) (add_name t tree)
counts_first_element (NameToken name) tree e = e
counts_first_element MinusToken tree e = e
counts_first_element RightBraceToken tree e = e
counts_first_element other tree e = tt

counts_chosen : (t : Token) (tree : Tree) → Counts AfterChosen tree → AllCount (next_chosen t) (add_chosen t tree)
counts_chosen ColonToken tree e = same _ _ e
counts_chosen SemicolonToken tree e = counts_element tree [] _ (same _ _ e)
counts_chosen RightBraceToken tree e = counts_element tree [] _ (same _ _ e)
counts_chosen other tree e = tt

counts_upper : (t : Token) (tree : Tree) → Counts AfterUpper tree → AllCount (next_upper t) (add_upper t tree)
counts_upper ArrowToken tree e = same _ _ e
counts_upper DotToken tree e = tt
counts_upper other tree e = tt

counts_choice : (t : Token) (tree : Tree) → Counts AfterChoice tree → AllCount (next_choice t) (add_choice t tree)
counts_choice (NumberToken x) tree e = e
counts_choice other tree e = counts_upper other (close_choice None tree) e

counts_literal : (side : Side) (t : Token) (tree : Tree) → Counts (NextLiteral side) tree → AllCount (next_literal side t) (add_literal t tree)
counts_literal side NotToken tree e = e
counts_literal side (NameToken name) tree e = e
counts_literal side MinusToken tree e = e
counts_literal side (NumberToken x) tree e = same _ _ e
counts_literal side (VariableToken name) tree e = same _ _ e
counts_literal side AnonymousToken tree e = one_more _ _ e
counts_literal side other tree e = tt

counts_close : (side : Side) (t : Token) (tree : Tree) → Counts (AfterLiteral side) tree → AllCount (next_close side t) (add_close t tree)
counts_close Body DotToken tree e = tt
counts_close Body other tree e = tt
counts_close Condition SemicolonToken tree e = counts_element tree tree.literals _ e
counts_close Condition RightBraceToken tree e = counts_element tree tree.literals _ e
counts_close Condition other tree e = tt

counts_first_literal : (side : Side) (t : Token) (tree : Tree) → Counts (FirstLiteral side) tree → AllCount (next_first_literal side t) (add_first_literal t tree)
counts_first_literal Body DotToken tree e = tt
counts_first_literal Body SemicolonToken tree e = tt
counts_first_literal Body RightBraceToken tree e = tt
counts_first_literal Body other tree e = counts_literal Body other tree e
counts_first_literal Condition DotToken tree e = tt
counts_first_literal Condition SemicolonToken tree e = counts_close Condition SemicolonToken tree e
counts_first_literal Condition RightBraceToken tree e = counts_close Condition RightBraceToken tree e
counts_first_literal Condition other tree e = counts_literal Condition other tree e

counts_after_literal : (side : Side) (t : Token) (tree : Tree) → Counts (AfterLiteral side) tree → AllCount (next_after_literal side t) (add_close t tree)
counts_after_literal side CommaToken tree e = e
counts_after_literal side other tree e = counts_close side other tree e

counts_left : (side : Side) (t : Token) (tree : Tree) → Counts (AfterLeft side) tree → AllCount (next_left side t) (record tree { op = op_of t })
counts_left side t tree e = by_test (is_operator_sign t)
  where
    by_test : (b : Bool) → AllCount (if b then Some (AfterOperator side) else None) (record tree { op = op_of t })
    by_test true = e
    by_test false = tt

counts_after_operator : (side : Side) (t : Token) (tree : Tree) → Counts (AfterOperator side) tree → AllCount (next_right side t) (add_right t tree)
counts_after_operator side (NumberToken x) tree e = counts_right side (NumberToken x) tree e
counts_after_operator side (NameToken name) tree e = counts_right side (NameToken name) tree e
counts_after_operator side (VariableToken name) tree e = counts_right side (VariableToken name) tree e
counts_after_operator side AnonymousToken tree e = counts_right side AnonymousToken tree e
counts_after_operator side other tree e = tt

counts_atom : (role : Role) (t : Token) (state : State) (tree : Tree) → before_atom role (atom_frame tree) ≡ numbers_from 1 tree.anonymous → AllCount (next_atom role t) (add_name t tree)
counts_atom role (NameToken name) state tree e = e
counts_atom role MinusToken state tree e = e
counts_atom role other state tree e = tt

counts_behind : (role : Role) (t : Token) (tree : Tree) → Counts (behind role) tree → AllCount (next_behind role t) (add_behind role t tree)
counts_behind First t tree e = counts_head t tree e
counts_behind Wide t tree e = counts_fact t tree
counts_behind Further t tree e = counts_head t tree e
counts_behind Chosen t tree e = counts_chosen t tree e
counts_behind (Positive side) t tree e = counts_after_literal side t tree e
counts_behind (Negative side) t tree e = counts_after_literal side t tree e

counts_bare_name : (role : Role) (t : Token) (tree : Tree) → Counts (AfterName role) tree → AllCount (next_bare role t) (add_bare_name role t tree)
counts_bare_name (Positive side) t tree e = by_test (is_operator_sign t)
  where
    by_test : (b : Bool) → AllCount (if b then Some (AfterOperator side) else next_after_literal side t) (if b then record tree { left = Sym tree.name; name = []; op = op_of t } else add_close t (add_bare (Positive side) tree))
    by_test true = same _ _ e
    by_test false = counts_after_literal side t (add_bare (Positive side) tree) (counts_bare (Positive side) tree e)
counts_bare_name First t tree e = counts_behind First t (add_bare First tree) (counts_bare First tree e)
counts_bare_name Wide t tree e = counts_behind Wide t (add_bare Wide tree) (counts_bare Wide tree e)
counts_bare_name Further t tree e = counts_behind Further t (add_bare Further tree) (counts_bare Further tree e)
counts_bare_name Chosen t tree e = counts_behind Chosen t (add_bare Chosen tree) (counts_bare Chosen tree e)
counts_bare_name (Negative side) t tree e = counts_behind (Negative side) t (add_bare (Negative side) tree) (counts_bare (Negative side) tree e)

counts_name : (role : Role) (t : Token) (tree : Tree) → Counts (AfterName role) tree → AllCount (next_name role t) (add_after_name role t tree)
counts_name role LeftParenToken tree e = same _ _ e
counts_name role other tree e = counts_bare_name role other tree e

counts_minus : (role : Role) (t : Token) (tree : Tree) → Counts (AfterMinus role) tree → AllCount (next_minus role t) (add_negated t tree)
counts_minus role (NameToken name) tree e = e
counts_minus role other tree e = tt

counts_negated : (role : Role) (t : Token) (tree : Tree) → Counts (AfterNegated role) tree → AllCount (next_negated role t) (add_after_negated role t tree)
counts_negated role LeftParenToken tree e = same _ _ e
counts_negated role other tree e = counts_behind role other (add_bare role tree) (counts_bare role tree e)

counts_next_argument : (role : Role) (t : Token) (tree : Tree) → of_arguments role tree ≡ numbers_from 1 tree.anonymous → AllCount (next_argument role t) (add_next_argument t tree)
counts_next_argument role (NumberToken x) tree e = e
counts_next_argument role (NameToken name) tree e = counts_argument role (NameToken name) tree e
counts_next_argument role (VariableToken name) tree e = counts_argument role (VariableToken name) tree e
counts_next_argument role AnonymousToken tree e = counts_argument role AnonymousToken tree e
counts_next_argument role other tree e = tt

-- a whole atom's state is no end of a statement, so it counts as any other
whole_counts : (role : Role) (tree : Tree) → Counts (behind role) tree → AllCount (Some (behind role)) tree
whole_counts role tree e = e

counts_first_argument : (role : Role) (t : Token) (tree : Tree) → of_arguments role tree ≡ numbers_from 1 tree.anonymous → AllCount (next_first_argument role t) (add_first_argument role t tree)
counts_first_argument role RightParenToken tree e = counts_whole role tree e
counts_first_argument role other tree e = counts_next_argument role other tree e

counts_after_argument : (role : Role) (t : Token) (tree : Tree) → of_arguments role tree ≡ numbers_from 1 tree.anonymous → AllCount (next_after_argument role t) (add_after_argument role t tree)
counts_after_argument role CommaToken tree e = e
counts_after_argument role RightParenToken tree e = counts_whole role tree e
counts_after_argument role other tree e = tt

counts_dots : (role : Role) (tree : Tree) → of_arguments role tree ≡ numbers_from 1 tree.anonymous → AllCount (next_dots role) tree
counts_dots First tree e = e
counts_dots Wide tree e = e
counts_dots other tree e = tt

counts_after_number : (role : Role) (t : Token) (tree : Tree) → of_arguments role tree ≡ numbers_from 1 tree.anonymous → AllCount (next_number role t) (add_after_number role t tree)
counts_after_number role DotsToken tree e = counts_dots role tree e
counts_after_number role other tree e =
    counts_after_argument role other (add_argument (Int tree.low) tree) (counts_number role (Int tree.low) tree refl e)

counts_high : (t : Token) (tree : Tree) → Counts AfterDots tree → AllCount (next_high t) (add_high t tree)
counts_high (NumberToken x) tree e = counts_number Wide (Range tree.low x) tree refl e
counts_high other tree e = tt

-- a token that may come keeps the count
pub counts_on : (f : Bool) (state : State) (t : Token) (tree : Tree) → Counts state tree → AllCount (next_state f state t) (add state t tree)
counts_on f Start t tree e = counts_start t tree
counts_on f Statement t tree e = counts_statement f t tree
counts_on f NextHead t tree e = counts_atom Further t NextHead tree e
counts_on f AfterHead t tree e = counts_head t tree e
counts_on f AfterFact t tree e = counts_fact t tree
counts_on f AfterLower t tree e = counts_lower t tree e
counts_on f FirstElement t tree e = counts_first_element t tree e
counts_on f NextElement t tree e = counts_atom Chosen t NextElement tree e
counts_on f AfterChosen t tree e = counts_chosen t tree e
counts_on f AfterChoice t tree e = counts_choice t tree e
counts_on f AfterUpper t tree e = counts_upper t tree e
counts_on f (FirstLiteral side) t tree e = counts_first_literal side t tree e
counts_on f (NextLiteral side) t tree e = counts_literal side t tree e
counts_on f (AfterNot side) t tree e = counts_atom (Negative side) t (AfterNot side) tree e
counts_on f (AfterLeft side) t tree e = counts_left side t tree e
counts_on f (AfterOperator side) t tree e = counts_after_operator side t tree e
counts_on f (AfterLiteral side) t tree e = counts_after_literal side t tree e
counts_on f (AfterName role) t tree e = counts_name role t tree e
counts_on f (AfterMinus role) t tree e = counts_minus role t tree e
counts_on f (AfterNegated role) t tree e = counts_negated role t tree e
counts_on f (FirstArgument role) t tree e = counts_first_argument role t tree e
counts_on f (NextArgument role) t tree e = counts_next_argument role t tree e
counts_on f (AfterArgument role) t tree e = counts_after_argument role t tree e
counts_on f (AfterNumber role) t tree e = counts_after_number role t tree e
counts_on f AfterDots t tree e = counts_high t tree e
