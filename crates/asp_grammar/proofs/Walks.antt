-- The machine without its tree: whether it goes through tokens to the end of a statement. What may come behind a whole part
-- may also come where the part may go on.
use Rattle.std.proofs.Common.{◌≡◌, sym, subst, Bool, true, false, List, [], ◌∷◌}
use Rattle.std.specs.Prelude.{Option, Some, None}
use Rattle.asp_defs.specs.Tokens.{Token, DirectiveToken, NameToken, MinusToken, DotToken, DotsToken, SemicolonToken, LeftParenToken, RightParenToken, RightBraceToken, EqToken, NeToken, NeAngleToken, LtToken, LeToken, GtToken, GeToken}
use Rattle.asp_defs.proofs.TextRefutations.{clash}
use Rattle.asp_grammar.specs.declared.state.Directive.{Directive}
use Rattle.asp_grammar.specs.declared.state.Directive.TheVariants.{Constraint}
use Rattle.asp_grammar.specs.declared.state.Side.{Side}
use Rattle.asp_grammar.specs.declared.state.Side.TheVariants.{Body, Condition}
use Rattle.asp_grammar.specs.declared.state.Role.{Role}
use Rattle.asp_grammar.specs.declared.state.Role.TheVariants.{First, Wide, Further, Chosen, Positive, Negative}
use Rattle.asp_grammar.specs.declared.state.State.{State}
use Rattle.asp_grammar.specs.declared.state.State.TheVariants.{Statement, FirstElement, NextElement, FirstLiteral, NextLiteral, AfterName, AfterNegated, FirstArgument, NextArgument, AfterArgument, AfterNumber}
use Rattle.asp_grammar.specs.Machine.{directive_of, next_state, behind}

-- whether the constraint part is open behind a directive, and behind a token
abbrev pub opens : Bool → Option Directive → Bool
opens in_constraint (Some Constraint) = true
opens in_constraint other = in_constraint

abbrev pub open_behind : Bool → Token → Bool
open_behind in_constraint (DirectiveToken word) = opens in_constraint (directive_of word)
open_behind in_constraint other = in_constraint

-- whether tokens lead from a state to the end of a statement
abbrev pub is_end : State → Bool
is_end Statement = true
is_end other = false

abbrev pub walk : Bool → State → List Token → Bool
walk in_constraint state [] = is_end state
walk in_constraint state (t ∷ ts) =
    elim (next_state in_constraint state t) [ None ↦ false | Some next ↦ walk (open_behind in_constraint t) next ts ]

abbrev pub Accepts : Bool → State → List Token → Type 0
Accepts in_constraint state ts = walk in_constraint state ts ≡ true

-- the same of equal tokens
pub alike : (f : Bool) (state : State) (ts us : List Token) → ts ≡ us → Accepts f state us → Accepts f state ts
alike f state ts us e h = subst (Accepts f state) (sym e) h

pub behind_number : (f : Bool) (r : Role) (ts : List Token) → Accepts f (AfterArgument r) ts → Accepts f (AfterNumber r) ts
behind_number f r [] h = clash h
behind_number f r (DotsToken ∷ ts) h = clash h
behind_number f r (other ∷ ts) h = h

pub first_argument : (f : Bool) (r : Role) (ts : List Token) → Accepts f (NextArgument r) ts → Accepts f (FirstArgument r) ts
first_argument f r [] h = clash h
first_argument f r (RightParenToken ∷ ts) h = clash h
first_argument f r (other ∷ ts) h = h

pub first_element : (f : Bool) (ts : List Token) → Accepts f NextElement ts → Accepts f FirstElement ts
first_element f [] h = clash h
first_element f (NameToken name ∷ ts) h = h
first_element f (MinusToken ∷ ts) h = h
first_element f (other ∷ ts) h = clash h

pub first_literal : (f : Bool) (side : Side) (ts : List Token) → Accepts f (NextLiteral side) ts → Accepts f (FirstLiteral side) ts
first_literal f side [] h = clash h
first_literal f Body (DotToken ∷ ts) h = clash h
first_literal f Body (other ∷ ts) h = h
first_literal f Condition (SemicolonToken ∷ ts) h = clash h
first_literal f Condition (RightBraceToken ∷ ts) h = clash h
first_literal f Condition (other ∷ ts) h = h

-- behind a name stands what may stand behind a whole atom
behind_bare : (f : Bool) (side : Side) (ts : List Token) → Accepts f (behind (Positive side)) ts → Accepts f (AfterName (Positive side)) ts
behind_bare f side [] h = clash h
behind_bare f Body (LeftParenToken ∷ ts) h = clash h
behind_bare f Body (EqToken ∷ ts) h = clash h
behind_bare f Body (NeToken ∷ ts) h = clash h
behind_bare f Body (NeAngleToken ∷ ts) h = clash h
behind_bare f Body (LtToken ∷ ts) h = clash h
behind_bare f Body (LeToken ∷ ts) h = clash h
behind_bare f Body (GtToken ∷ ts) h = clash h
behind_bare f Body (GeToken ∷ ts) h = clash h
behind_bare f Condition (LeftParenToken ∷ ts) h = clash h
behind_bare f Condition (EqToken ∷ ts) h = clash h
behind_bare f Condition (NeToken ∷ ts) h = clash h
behind_bare f Condition (NeAngleToken ∷ ts) h = clash h
behind_bare f Condition (LtToken ∷ ts) h = clash h
behind_bare f Condition (LeToken ∷ ts) h = clash h
behind_bare f Condition (GtToken ∷ ts) h = clash h
behind_bare f Condition (GeToken ∷ ts) h = clash h
behind_bare f Body (other ∷ ts) h = h
behind_bare f Condition (other ∷ ts) h = h

pub behind_name : (f : Bool) (r : Role) (ts : List Token) → Accepts f (behind r) ts → Accepts f (AfterName r) ts
behind_name f First [] h = clash h
behind_name f First (LeftParenToken ∷ ts) h = clash h
behind_name f First (other ∷ ts) h = h
behind_name f Wide [] h = clash h
behind_name f Wide (LeftParenToken ∷ ts) h = clash h
behind_name f Wide (other ∷ ts) h = h
behind_name f Further [] h = clash h
behind_name f Further (LeftParenToken ∷ ts) h = clash h
behind_name f Further (other ∷ ts) h = h
behind_name f Chosen [] h = clash h
behind_name f Chosen (LeftParenToken ∷ ts) h = clash h
behind_name f Chosen (other ∷ ts) h = h
behind_name f (Positive side) ts h = behind_bare f side ts h
behind_name f (Negative side) [] h = clash h
behind_name f (Negative Body) (LeftParenToken ∷ ts) h = clash h
behind_name f (Negative Condition) (LeftParenToken ∷ ts) h = clash h
behind_name f (Negative Body) (other ∷ ts) h = h
behind_name f (Negative Condition) (other ∷ ts) h = h

pub behind_negated : (f : Bool) (r : Role) (ts : List Token) → Accepts f (behind r) ts → Accepts f (AfterNegated r) ts
behind_negated f First [] h = clash h
behind_negated f First (LeftParenToken ∷ ts) h = clash h
behind_negated f First (other ∷ ts) h = h
behind_negated f Wide [] h = clash h
behind_negated f Wide (LeftParenToken ∷ ts) h = clash h
behind_negated f Wide (other ∷ ts) h = h
behind_negated f Further [] h = clash h
behind_negated f Further (LeftParenToken ∷ ts) h = clash h
behind_negated f Further (other ∷ ts) h = h
behind_negated f Chosen [] h = clash h
behind_negated f Chosen (LeftParenToken ∷ ts) h = clash h
behind_negated f Chosen (other ∷ ts) h = h
behind_negated f (Positive side) [] h = clash h
behind_negated f (Positive Body) (LeftParenToken ∷ ts) h = clash h
behind_negated f (Positive Condition) (LeftParenToken ∷ ts) h = clash h
behind_negated f (Positive Body) (other ∷ ts) h = h
behind_negated f (Positive Condition) (other ∷ ts) h = h
behind_negated f (Negative side) [] h = clash h
behind_negated f (Negative Body) (LeftParenToken ∷ ts) h = clash h
behind_negated f (Negative Condition) (LeftParenToken ∷ ts) h = clash h
behind_negated f (Negative Body) (other ∷ ts) h = h
behind_negated f (Negative Condition) (other ∷ ts) h = h
