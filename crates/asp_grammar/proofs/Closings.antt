-- From every state some tokens lead to the end of a statement.
use Rattle.std.proofs.Common.{refl, Bool, List, [], ◌∷◌, codes}
use Rattle.std.specs.Prelude.{pos}
use Rattle.asp_defs.specs.Tokens.{Token, DirectiveToken, NameToken, NumberToken, DotToken, RightParenToken, LeftBraceToken, RightBraceToken, EqToken}
use Rattle.asp_grammar.specs.declared.state.Side.{Side}
use Rattle.asp_grammar.specs.declared.state.Side.TheVariants.{Body, Condition}
use Rattle.asp_grammar.specs.declared.state.Role.{Role}
use Rattle.asp_grammar.specs.declared.state.Role.TheVariants.{First, Wide, Further, Chosen, Positive, Negative}
use Rattle.asp_grammar.specs.declared.state.State.{State}
use Rattle.asp_grammar.specs.declared.state.State.TheVariants.{Start, Statement, NextHead, AfterHead, AfterFact, AfterLower, FirstElement, NextElement, AfterChosen, AfterChoice, AfterUpper, FirstLiteral, NextLiteral, AfterNot, AfterLeft, AfterOperator, AfterLiteral, AfterName, AfterMinus, AfterNegated, FirstArgument, NextArgument, AfterArgument, AfterNumber, AfterDots}
use Rattle.asp_grammar.specs.Machine.{behind}
use Rattle.asp_grammar.proofs.Walks.{Accepts, behind_negated}

abbrev Closing : Bool → State → Type 0
Closing f state = (more : List Token) × Accepts f state more

abbrev name : Token
name = NameToken (codes "a")

abbrev zero_token : Token
zero_token = NumberToken (pos 0)

close_literals : (f : Bool) (side : Side) → Closing f (AfterLiteral side)
close_literals f Body = (DotToken ∷ [], refl)
close_literals f Condition = (RightBraceToken ∷ DotToken ∷ [], refl)

close_first : (f : Bool) (side : Side) → Closing f (FirstLiteral side)
close_first f Body = (DotToken ∷ [], refl)
close_first f Condition = (RightBraceToken ∷ DotToken ∷ [], refl)

-- a whole atom, and its name alone
close_behind : (f : Bool) (role : Role) → Closing f (behind role)
close_behind f First = (DotToken ∷ [], refl)
close_behind f Wide = (DotToken ∷ [], refl)
close_behind f Further = (DotToken ∷ [], refl)
close_behind f Chosen = (RightBraceToken ∷ DotToken ∷ [], refl)
close_behind f (Positive side) = close_literals f side
close_behind f (Negative side) = close_literals f side

close_argument : (f : Bool) (role : Role) → Closing f (AfterArgument role)
close_argument f role = let c = close_behind f role in (RightParenToken ∷ c.0, c.1)

close_name : (f : Bool) (role : Role) → Closing f (AfterName role)
close_name f First = (DotToken ∷ [], refl)
close_name f Wide = (DotToken ∷ [], refl)
close_name f Further = (DotToken ∷ [], refl)
close_name f Chosen = (RightBraceToken ∷ DotToken ∷ [], refl)
close_name f (Positive Body) = (DotToken ∷ [], refl)
close_name f (Positive Condition) = (RightBraceToken ∷ DotToken ∷ [], refl)
close_name f (Negative Body) = (DotToken ∷ [], refl)
close_name f (Negative Condition) = (RightBraceToken ∷ DotToken ∷ [], refl)

close_negated : (f : Bool) (role : Role) → Closing f (AfterNegated role)
close_negated f role = let c = close_behind f role in (c.0, behind_negated f role c.0 c.1)

pub closing : (f : Bool) (state : State) → Closing f state
closing f Start = (DirectiveToken (codes "exists") ∷ [], refl)
closing f Statement = ([], refl)
closing f NextHead = (name ∷ DotToken ∷ [], refl)
closing f AfterHead = (DotToken ∷ [], refl)
closing f AfterFact = (DotToken ∷ [], refl)
closing f AfterLower = (LeftBraceToken ∷ RightBraceToken ∷ DotToken ∷ [], refl)
closing f FirstElement = (RightBraceToken ∷ DotToken ∷ [], refl)
closing f NextElement = (name ∷ RightBraceToken ∷ DotToken ∷ [], refl)
closing f AfterChosen = (RightBraceToken ∷ DotToken ∷ [], refl)
closing f AfterChoice = (DotToken ∷ [], refl)
closing f AfterUpper = (DotToken ∷ [], refl)
closing f (FirstLiteral side) = close_first f side
closing f (NextLiteral side) = let c = close_name f (Positive side) in (name ∷ c.0, c.1)
closing f (AfterNot side) = let c = close_name f (Negative side) in (name ∷ c.0, c.1)
closing f (AfterLeft side) = let c = close_literals f side in (EqToken ∷ zero_token ∷ c.0, c.1)
closing f (AfterOperator side) = let c = close_literals f side in (zero_token ∷ c.0, c.1)
closing f (AfterLiteral side) = close_literals f side
closing f (AfterName role) = close_name f role
closing f (AfterMinus role) = let c = close_negated f role in (name ∷ c.0, c.1)
closing f (AfterNegated role) = close_negated f role
closing f (FirstArgument role) = let c = close_behind f role in (RightParenToken ∷ c.0, c.1)
closing f (NextArgument role) = let c = close_argument f role in (name ∷ c.0, c.1)
closing f (AfterArgument role) = close_argument f role
closing f (AfterNumber role) = let c = close_behind f role in (RightParenToken ∷ c.0, c.1)
closing f AfterDots = let c = close_argument f Wide in (zero_token ∷ c.0, c.1)
