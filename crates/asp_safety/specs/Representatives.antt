-- Variables that links join in any number of steps, and one of them that stands for them.
use Rattle.std.specs.Prelude.{◌≡◌, if◌then◌else◌, List, [], ◌∷◌, Option, None, Some, option_map}
use Rattle.std.specs.Map.{lookup}
use Rattle.asp_defs.specs.declared.syntax.Term.{Term}
use Rattle.asp_defs.specs.Lists.{IsIn}
use Rattle.asp_defs.specs.Instances.{same_variable}
use Rattle.asp_defs.specs.Safety.{is_variable_of}
use Rattle.asp_safety.specs.declared.variable.Variable.{Variable}
use Rattle.asp_safety.specs.Variables.{term_of}
use Rattle.asp_safety.specs.Closure.{IsSpread}

-- each link stands there in both directions
abbrev pub IsSymmetric : List (Term × Term) → Type 0
IsSymmetric links = (u v : Term) → IsIn (u, v) links → IsIn (v, u) links

-- two variables are joined by links: whatever is closed under these has both or none
pub record AreJoined (links : List (Term × Term)) (u v : Term) : Type 0 where
  pub there : (vs : List Term) → IsSpread [] links vs → IsIn u vs → IsIn v vs
  pub back : (vs : List Term) → IsSpread [] links vs → IsIn v vs → IsIn u vs

-- the representative that entries have for a variable
abbrev pub representative_of : List (Variable × Variable) → Term → Option Term
representative_of entries u = option_map term_of (lookup (λ v. same_variable u (term_of v)) entries)

abbrev pub IsRepresented : List (Variable × Variable) → Term → Type 0
IsRepresented entries u = (r : Term) × (representative_of entries u ≡ Some r)

-- the two variables of a link have the same representative or none, and a variable is joined with its representative
pub record Represent (links : List (Term × Term)) (entries : List (Variable × Variable)) : Type 0 where
  pub same : (u v : Term) → IsIn (u, v) links → representative_of entries u ≡ representative_of entries v
  pub joined : (v : Variable) (r : Term) → representative_of entries (term_of v) ≡ Some r → AreJoined links (term_of v) r

-- and the variables of some of the links have one
pub record RepresentSome (links some : List (Term × Term)) (entries : List (Variable × Variable)) : Type 0 where
  pub represent : Represent links entries
  pub represented : (u v : Term) → IsIn (u, v) some → IsRepresented entries u

-- each variable of the links has a representative
abbrev pub RepresentAll : List (Term × Term) → List (Variable × Variable) → Type 0
RepresentAll links entries = RepresentSome links links entries

-- some variables have got a representative, and the others have theirs
abbrev pub Represents : List (Variable × Variable) → List (Variable × Variable) → List Term → Term → Type 0
Represents before after vs r =
    (v : Variable) → representative_of after (term_of v) ≡ (if is_variable_of vs (term_of v) then Some r else representative_of before (term_of v))

-- no variable has lost its representative
abbrev pub Keeps : List (Variable × Variable) → List (Variable × Variable) → Type 0
Keeps before after = (v : Variable) → IsRepresented before (term_of v) → IsRepresented after (term_of v)

-- the links between a variable and its representative, if it has one
abbrev pub between : Term → Option Term → List (Term × Term)
between v None = []
between v (Some r) = (v, r) ∷ (r, v) ∷ []

abbrev pub representative_links : List (Variable × Variable) → Term → List (Term × Term)
representative_links entries v = between v (representative_of entries v)
