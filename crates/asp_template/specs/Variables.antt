-- The variables of a rule as they are found from the front, and its schemas with them (of this project). All definitions
-- are transparent.
use Rattle.std.specs.Prelude.{◌+◌, nat_lt, true, false, if◌then◌else◌, List, [], ◌∷◌, ◌++◌, length}
use Rattle.std.specs.List.{flat_map, fold}
use Rattle.asp_defs.specs.declared.faults.Which.TheVariants as which
use Rattle.asp_defs.specs.declared.syntax.Term.{Term}
use Rattle.asp_defs.specs.declared.syntax.Atom.{Atom}
use Rattle.asp_defs.specs.declared.syntax.Literal.{Literal}
use Rattle.asp_defs.specs.declared.syntax.Element.{Element}
use Rattle.asp_defs.specs.Instances.{Schema, atom_variables, literal_variables}
use Rattle.asp_defs.specs.Safety.{is_variable_of}
use Rattle.asp_defs.specs.Limits.{limit}

-- variables with one more, where it is another one and there is room: for one more than a checked rule has at most
abbrev pub with_variable : List Term → Term → List Term
with_variable found v =
    if is_variable_of found v then found else (if nat_lt (length found) (limit which.Variables + 1) then found ++ v ∷ [] else found)

-- the variables of a disjunctive rule, and of an element with a body
abbrev pub disjunctive_variables : List Atom → List Literal → List Term
disjunctive_variables atoms body =
    fold with_variable [] (flat_map atom_variables atoms ++ flat_map literal_variables body)

abbrev pub element_variables : List Literal → Element → List Term
element_variables body e = fold with_variable []
    (atom_variables e.atom ++ (flat_map literal_variables e.cond ++ flat_map literal_variables body))

-- the variables of a body and an element, those of the body first
abbrev pub found_variables : List Literal → Element → List Term
found_variables body e =
    fold with_variable [] (flat_map literal_variables body ++ (atom_variables e.atom ++ flat_map literal_variables e.cond))

-- the schemas with these variables
abbrev pub found_disjunctive : List Atom → List Literal → Schema
found_disjunctive atoms body =
    record { choice = false; heads = atoms; body = body; variables = disjunctive_variables atoms body }

abbrev pub found_element : List Literal → Element → Schema
found_element body e =
    record { choice = true; heads = e.atom ∷ []; body = body ++ e.cond; variables = element_variables body e }
