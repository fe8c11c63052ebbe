-- Safe variables as the checker has them, and the unsafe ones of an element.
use Rattle.std.specs.Prelude.{◌≡◌, List, ◌++◌}
use Rattle.asp_defs.specs.declared.syntax.Term.{Term}
use Rattle.asp_defs.specs.declared.syntax.Literal.{Literal}
use Rattle.asp_defs.specs.declared.syntax.Element.{Element}
use Rattle.asp_defs.specs.Lists.{IsIn}
use Rattle.asp_defs.specs.Safety.{is_variable_of, element_variables, unbound}

-- two lists have the same variables
abbrev pub Agree : List Term → List Term → Type 0
Agree us vs = (v : Term) → is_variable_of us v ≡ is_variable_of vs v

-- two lists have the same of some variables
abbrev pub AgreeOn : List Term → List Term → List Term → Type 0
AgreeOn some us vs = (v : Term) → IsIn v some → is_variable_of us v ≡ is_variable_of vs v

-- the unsafe variables of an element of a choice with a body
abbrev pub element_unsafe : List Literal → Element → List Term
element_unsafe body e = unbound (body ++ e.cond) (element_variables e)
