-- The state of the machine says as much as the last token does: which refusal a token gives that can't come.
use Rattle.std.proofs.Common.{ℕ, ◌≡◌, refl, sym, ◌∙◌, ap, Bool, true, false, not, List, [], ◌∷◌}
use Rattle.std.specs.Prelude.{if◌then◌else◌, Option, Some, None, is_some}
use Rattle.asp_defs.specs.declared.faults.TextFault.TheVariants.{UnknownDirective, AfterConstraint, Unexpected}
use Rattle.asp_defs.specs.Tokens.{Token, DirectiveToken, NotToken, NameToken, VariableToken, AnonymousToken, NumberToken, MinusToken, ArrowToken, ColonToken, DotToken, DotsToken, CommaToken, SemicolonToken, BarToken, LeftParenToken, RightParenToken, LeftBraceToken, RightBraceToken, EqToken, NeToken, NeAngleToken, LtToken, LeToken, GtToken, GeToken}
use Rattle.asp_defs.specs.TextRefusals.{is_known_word, statement_after, refusal_after, refusal_behind, refusal_of}
use Rattle.asp_defs.proofs.TextRefutations.{clash}
use Rattle.asp_grammar.specs.declared.state.Directive.{Directive}
use Rattle.asp_grammar.specs.declared.state.Directive.TheVariants.{Level, Constraint}
use Rattle.asp_grammar.specs.declared.state.Side.{Side}
use Rattle.asp_grammar.specs.declared.state.Side.TheVariants.{Body, Condition}
use Rattle.asp_grammar.specs.declared.state.Role.{Role}
use Rattle.asp_grammar.specs.declared.state.Role.TheVariants.{First, Wide, Further, Chosen, Positive, Negative}
use Rattle.asp_grammar.specs.declared.state.State.{State}
use Rattle.asp_grammar.specs.declared.state.State.TheVariants.{Start, Statement, NextHead, AfterHead, AfterFact, AfterLower, FirstElement, NextElement, AfterChosen, AfterChoice, AfterUpper, FirstLiteral, NextLiteral, AfterNot, AfterLeft, AfterOperator, AfterLiteral, AfterName, AfterMinus, AfterNegated, FirstArgument, NextArgument, AfterArgument, AfterNumber, AfterDots}
use Rattle.asp_grammar.specs.declared.tree.Builder.{Builder}
use Rattle.asp_grammar.specs.Machine.{directive_of, after_first, after_directive, behind, next_statement, next_atom, next_head, next_fact, next_lower, next_first_element, next_chosen, next_upper, next_choice, next_literal, next_close, next_first_literal, next_after_literal, next_left, next_right, next_behind, next_bare, next_name, next_minus, next_negated, next_argument, next_first_argument, next_after_argument, next_dots, next_number, next_high, next_start, next_state, add, start, moved, run, begins_statement, later_refusal, refusal_at}

abbrev is_start : State → Bool
is_start Start = true
is_start other = false

abbrev the : {A : Type 0} → A → Option A → A
the a None = a
the a (Some b) = b

-- a state that isn't the first says of refusals what the token before it says
abbrev Agrees : Token → State → Type 0
Agrees last state = (is_start state ≡ false) × (statement_after last ≡ begins_statement state)

-- so it is behind a token that may come
abbrev Follow : Token → Option State → Type 0
Follow t None = Unit {0}
Follow t (Some state) = Agrees t state

-- ---- each token

follow_start : (t : Token) → Follow t (next_start t)
follow_start (DirectiveToken word) = by_directive (directive_of word)
  where
    by_directive : (d : Option Directive) → Follow (DirectiveToken word) (after_first d)
    by_directive None = tt
    by_directive (Some (Level quant)) = (refl, refl)
    by_directive (Some Constraint) = tt
follow_start other = tt

follow_statement : (f : Bool) (t : Token) → Follow t (next_statement f t)
follow_statement f (DirectiveToken word) = by_directive f (directive_of word)
  where
    by_directive : (f : Bool) (d : Option Directive) → Follow (DirectiveToken word) (after_directive f d)
    by_directive true d = tt
    by_directive false None = tt
    by_directive false (Some d) = (refl, refl)
follow_statement f (NameToken name) = (refl, refl)
follow_statement f MinusToken = (refl, refl)
follow_statement f (NumberToken x) = (refl, refl)
follow_statement f LeftBraceToken = (refl, refl)
follow_statement f ArrowToken = (refl, refl)
follow_statement f other = tt

follow_atom : (role : Role) (t : Token) → Follow t (next_atom role t)
follow_atom role (NameToken name) = (refl, refl)
follow_atom role MinusToken = (refl, refl)
follow_atom role other = tt

follow_head : (t : Token) → Follow t (next_head t)
follow_head BarToken = (refl, refl)
follow_head SemicolonToken = (refl, refl)
follow_head ArrowToken = (refl, refl)
follow_head DotToken = (refl, refl)
follow_head other = tt

follow_fact : (t : Token) → Follow t (next_fact t)
follow_fact DotToken = (refl, refl)
follow_fact other = tt

follow_lower : (t : Token) → Follow t (next_lower t)
follow_lower LeftBraceToken = (refl, refl)
follow_lower other = tt

follow_first_element : (t : Token) → Follow t (next_first_element t)
follow_first_element (NameToken name) = (refl, refl)
follow_first_element MinusToken = (refl, refl)
follow_first_element RightBraceToken = (refl, refl)
follow_first_element other = tt

follow_chosen : (t : Token) → Follow t (next_chosen t)
follow_chosen ColonToken = (refl, refl)
follow_chosen SemicolonToken = (refl, refl)
follow_chosen RightBraceToken = (refl, refl)
follow_chosen other = tt

follow_upper : (t : Token) → Follow t (next_upper t)
follow_upper ArrowToken = (refl, refl)
follow_upper DotToken = (refl, refl)
follow_upper other = tt

follow_choice : (t : Token) → Follow t (next_choice t)
follow_choice (NumberToken x) = (refl, refl)
follow_choice other = follow_upper other

follow_literal : (side : Side) (t : Token) → Follow t (next_literal side t)
follow_literal side NotToken = (refl, refl)
follow_literal side (NameToken name) = (refl, refl)
follow_literal side MinusToken = (refl, refl)
follow_literal side (NumberToken x) = (refl, refl)
follow_literal side (VariableToken name) = (refl, refl)
follow_literal side AnonymousToken = (refl, refl)
follow_literal side other = tt

follow_close : (side : Side) (t : Token) → Follow t (next_close side t)
follow_close Body DotToken = (refl, refl)
follow_close Body other = tt
follow_close Condition SemicolonToken = (refl, refl)
follow_close Condition RightBraceToken = (refl, refl)
follow_close Condition other = tt

follow_first_literal : (side : Side) (t : Token) → Follow t (next_first_literal side t)
follow_first_literal Body DotToken = (refl, refl)
follow_first_literal Body other = follow_literal Body other
follow_first_literal Condition SemicolonToken = (refl, refl)
follow_first_literal Condition RightBraceToken = (refl, refl)
follow_first_literal Condition other = follow_literal Condition other

follow_after_literal : (side : Side) (t : Token) → Follow t (next_after_literal side t)
follow_after_literal side CommaToken = (refl, refl)
follow_after_literal side other = follow_close side other

follow_left : (side : Side) (t : Token) → Follow t (next_left side t)
follow_left side EqToken = (refl, refl)
follow_left side NeToken = (refl, refl)
follow_left side NeAngleToken = (refl, refl)
follow_left side LtToken = (refl, refl)
follow_left side LeToken = (refl, refl)
follow_left side GtToken = (refl, refl)
follow_left side GeToken = (refl, refl)
follow_left side other = tt

follow_right : (side : Side) (t : Token) → Follow t (next_right side t)
follow_right side (NumberToken x) = (refl, refl)
follow_right side (NameToken name) = (refl, refl)
follow_right side (VariableToken name) = (refl, refl)
follow_right side AnonymousToken = (refl, refl)
follow_right side other = tt

follow_behind : (role : Role) (t : Token) → Follow t (next_behind role t)
follow_behind First t = follow_head t
follow_behind Wide t = follow_fact t
follow_behind Further t = follow_head t
follow_behind Chosen t = follow_chosen t
follow_behind (Positive side) t = follow_after_literal side t
follow_behind (Negative side) t = follow_after_literal side t

follow_positive : (side : Side) (t : Token) → Follow t (next_bare (Positive side) t)
follow_positive side EqToken = (refl, refl)
follow_positive side NeToken = (refl, refl)
follow_positive side NeAngleToken = (refl, refl)
follow_positive side LtToken = (refl, refl)
follow_positive side LeToken = (refl, refl)
follow_positive side GtToken = (refl, refl)
follow_positive side GeToken = (refl, refl)
follow_positive side other = follow_after_literal side other

follow_bare : (role : Role) (t : Token) → Follow t (next_bare role t)
follow_bare (Positive side) t = follow_positive side t
follow_bare First t = follow_behind First t
follow_bare Wide t = follow_behind Wide t
follow_bare Further t = follow_behind Further t
follow_bare Chosen t = follow_behind Chosen t
follow_bare (Negative side) t = follow_behind (Negative side) t

follow_name : (role : Role) (t : Token) → Follow t (next_name role t)
follow_name role LeftParenToken = (refl, refl)
follow_name role other = follow_bare role other

follow_minus : (role : Role) (t : Token) → Follow t (next_minus role t)
follow_minus role (NameToken name) = (refl, refl)
follow_minus role other = tt

follow_negated : (role : Role) (t : Token) → Follow t (next_negated role t)
follow_negated role LeftParenToken = (refl, refl)
follow_negated role other = follow_behind role other

follow_argument : (role : Role) (t : Token) → Follow t (next_argument role t)
follow_argument role (NumberToken x) = (refl, refl)
follow_argument role (NameToken name) = (refl, refl)
follow_argument role (VariableToken name) = (refl, refl)
follow_argument role AnonymousToken = (refl, refl)
follow_argument role other = tt

follow_whole : (role : Role) → Follow RightParenToken (Some (behind role))
follow_whole First = (refl, refl)
follow_whole Wide = (refl, refl)
follow_whole Further = (refl, refl)
follow_whole Chosen = (refl, refl)
follow_whole (Positive side) = (refl, refl)
follow_whole (Negative side) = (refl, refl)

follow_first_argument : (role : Role) (t : Token) → Follow t (next_first_argument role t)
follow_first_argument role RightParenToken = follow_whole role
follow_first_argument role other = follow_argument role other

follow_after_argument : (role : Role) (t : Token) → Follow t (next_after_argument role t)
follow_after_argument role CommaToken = (refl, refl)
follow_after_argument role RightParenToken = follow_whole role
follow_after_argument role other = tt

follow_dots : (role : Role) → Follow DotsToken (next_dots role)
follow_dots First = (refl, refl)
follow_dots Wide = (refl, refl)
follow_dots other = tt

follow_number : (role : Role) (t : Token) → Follow t (next_number role t)
follow_number role DotsToken = follow_dots role
follow_number role other = follow_after_argument role other

follow_high : (t : Token) → Follow t (next_high t)
follow_high (NumberToken x) = (refl, refl)
follow_high other = tt

follow : (f : Bool) (state : State) (t : Token) → Follow t (next_state f state t)
follow f Start t = follow_start t
follow f Statement t = follow_statement f t
follow f NextHead t = follow_atom Further t
follow f AfterHead t = follow_head t
follow f AfterFact t = follow_fact t
follow f AfterLower t = follow_lower t
follow f FirstElement t = follow_first_element t
follow f NextElement t = follow_atom Chosen t
follow f AfterChosen t = follow_chosen t
follow f AfterChoice t = follow_choice t
follow f AfterUpper t = follow_upper t
follow f (FirstLiteral side) t = follow_first_literal side t
follow f (NextLiteral side) t = follow_literal side t
follow f (AfterNot side) t = follow_atom (Negative side) t
follow f (AfterLeft side) t = follow_left side t
follow f (AfterOperator side) t = follow_right side t
follow f (AfterLiteral side) t = follow_after_literal side t
follow f (AfterName role) t = follow_name role t
follow f (AfterMinus role) t = follow_minus role t
follow f (AfterNegated role) t = follow_negated role t
follow f (FirstArgument role) t = follow_first_argument role t
follow f (NextArgument role) t = follow_argument role t
follow f (AfterArgument role) t = follow_after_argument role t
follow f (AfterNumber role) t = follow_number role t
follow f AfterDots t = follow_high t

-- ---- the refusal

not_first : (state : State) (t : Token) (at : ℕ) → is_start state ≡ false → later_refusal state t at ≡ refusal_at state t at
not_first Start t at e = clash (sym e)
not_first other t at e = refl

same_directive : (known s s' : Bool) (at : ℕ) → s ≡ s' → (if not known then UnknownDirective at else if s then AfterConstraint at else Unexpected at) ≡ (if known then if s' then AfterConstraint at else Unexpected at else UnknownDirective at)
same_directive true s s' at e = ap (λ b. if b then AfterConstraint at else Unexpected at) e
same_directive false s s' at e = refl

same_refusal : (last : Token) (state : State) (t : Token) (at : ℕ) → Agrees last state → refusal_after last t at ≡ later_refusal state t at
same_refusal last state (DirectiveToken word) at (later, statement) =
    same_directive (is_known_word word) (statement_after last) (begins_statement state) at statement
same_refusal last state other at agrees = refl

refusal_token : (b c : Builder) (next : Token) (more : List Token) (t : Token) (at : ℕ) → ((d : Builder) → Agrees next d.state → run d more ≡ Some c → refusal_behind next more t at ≡ refusal_at c.state t at) → (o : Option State) → Follow next o → (elim (moved b next o) [ None ↦ None | Some d ↦ run d more ]) ≡ Some c → refusal_behind next more t at ≡ refusal_at c.state t at
refusal_token b c next more t at on None agrees e = clash (ap is_some e)
refusal_token b c next more t at on (Some state) agrees e = on (record { state = state; tree = add b.state next b.tree }) agrees e

refusal_run : (ts : List Token) (b c : Builder) (last t : Token) (at : ℕ) → Agrees last b.state → run b ts ≡ Some c → refusal_behind last ts t at ≡ refusal_at c.state t at
refusal_run [] b c last t at agrees e =
    same_refusal last b.state t at agrees ∙ not_first b.state t at agrees.0 ∙ ap (λ (d : Option Builder). refusal_at (the b d).state t at) e
refusal_run (next ∷ more) b c last t at agrees e =
    refusal_token b c next more t at (λ d k f. refusal_run more d c next t at k f) (next_state b.tree.in_constraint b.state next)
    (follow b.tree.in_constraint b.state next) e

refusal_start : (first : Token) (more : List Token) (b : Builder) (t : Token) (at : ℕ) → run start (first ∷ more) ≡ Some b → refusal_behind first more t at ≡ refusal_at b.state t at
refusal_start (DirectiveToken word) more b t at e =
    refusal_token start b (DirectiveToken word) more t at (λ d k f. refusal_run more d b (DirectiveToken word) t at k f) (next_start (DirectiveToken word)) (follow_start (DirectiveToken word)) e
refusal_start other more b t at e = clash (ap is_some e)

-- the refusal of a token by the tokens before it is the one by the state behind them
pub refuses : (before : List Token) (t : Token) (b : Builder) (at : ℕ) → run start before ≡ Some b → refusal_of before t at ≡ refusal_at b.state t at
refuses [] t b at e = ap (λ (d : Option Builder). refusal_at (the start d).state t at) e
refuses (first ∷ more) t b at e = refusal_start first more b t at e
