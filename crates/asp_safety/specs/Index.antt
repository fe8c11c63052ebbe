-- Where the links from a variable stand: the last of them, and for each the one before it.
use Rattle.std.specs.Prelude.{ℕ, ◌≡◌, ◌+◌, ◌<◌, ◌≤◌, List, [], length, get_or, Option, None, Some, IfSome}
use Rattle.std.specs.Map.{lookup}
use Rattle.asp_defs.specs.declared.syntax.Term.{Term}
use Rattle.asp_defs.specs.declared.syntax.Term.TheVariants.{Sym}
use Rattle.asp_defs.specs.Instances.{same_variable}
use Rattle.asp_safety.specs.declared.variable.Variable.{Variable}
use Rattle.asp_safety.specs.Variables.{term_of}

-- how many places there are up to a place, if there is one
abbrev pub reach : Option ℕ → ℕ
reach None = 0
reach (Some place) = place + 1

abbrev pub nowhere : Term × Term
nowhere = (Sym [], Sym [])

-- the link at a place, and the variable from which it is
abbrev pub link_at : List (Term × Term) → ℕ → Term × Term
link_at links place = get_or links place nowhere

abbrev pub source : List (Term × Term) → ℕ → Term
source links place = (link_at links place).0

-- the last one of the first links that is from a variable
pub record IsLast (links : List (Term × Term)) (limit : ℕ) (u : Term) (at : Option ℕ) : Type 0 where
  pub below : reach at ≤ limit
  pub behind : (k : ℕ) → reach at ≤ k → k < limit → source links k ≡ u → ⊥
  pub from : IfSome at (λ place. source links place ≡ u)

-- the place that entries have for a variable
abbrev pub last_of : List (Variable × ℕ) → Term → Option ℕ
last_of entries u = lookup (λ v. same_variable u (term_of v)) entries

-- entries have the last of the first links from each variable, and a list has for each link the one before it
pub record IsIndexOf (links : List (Term × Term)) (limit : ℕ) (entries : List (Variable × ℕ)) (previous : List (Option ℕ)) : Type 0 where
  pub whole : length previous ≡ limit
  pub last : (v : Variable) → IsLast links limit (term_of v) (last_of entries (term_of v))
  pub before : (k : ℕ) → k < limit → IsLast links k (source links k) (get_or previous k None)
