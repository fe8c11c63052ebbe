-- The least variables with some that are bound and those that are linked with others of them.
use Rattle.std.specs.Prelude.{ℕ, ◌≡◌, ◌⊎◌, ◌+◌, ◌≤◌, if◌then◌else◌, List, [], ◌∷◌, ◌++◌, length}
use Rattle.asp_defs.specs.declared.syntax.Term.{Term}
use Rattle.asp_defs.specs.Lists.{IsIn}
use Rattle.asp_defs.specs.Instances.{first_occurrences}
use Rattle.asp_defs.specs.Safety.{is_variable_of}

-- each member of a list is one of another
abbrev pub Within : List Term → List Term → Type 0
Within us vs = (v : Term) → IsIn v us → IsIn v vs

-- variables with those that are bound, and with which no link brings a further one
pub record IsSpread (bound : List Term) (links : List (Term × Term)) (vs : List Term) : Type 0 where
  pub has : Within bound vs
  pub goes : (u v : Term) → IsIn (u, v) links → IsIn u vs → IsIn v vs

-- the least such variables
pub record IsLeast (bound : List Term) (links : List (Term × Term)) (vs : List Term) : Type 0 where
  pub spread : IsSpread bound links vs
  pub least : (ws : List Term) → IsSpread bound links ws → Within vs ws

-- a variable is put to the safe ones, and queued where it wasn't one of them
pub record Settles (v : Term) (safe settled queue longer : List Term) : Type 0 where
  pub kept : Within safe settled
  pub there : IsIn v settled
  pub only : (u : Term) → IsIn u settled → IsIn u safe ⊎ (u ≡ v)
  pub queued : longer ≡ (if is_variable_of safe v then queue else queue ++ v ∷ [])

-- variables are those that are safe, and those that are queued, each once
pub record Gathers (vs safe queue : List Term) : Type 0 where
  pub all : Within vs safe
  pub only : Within safe vs
  pub queued : Within safe queue
  pub safely : Within queue safe
  pub order : queue ≡ first_occurrences vs

-- how many links bring a variable that isn't safe
abbrev pub missing : List (Term × Term) → List Term → ℕ
missing [] safe = 0
missing (l ∷ ls) safe = (if is_variable_of safe l.1 then 0 else 1) + missing ls safe

-- what is linked with a variable by some links of all is put to the safe ones, and queued where it wasn't one of them
pub record Follows (all links : List (Term × Term)) (u : Term) (safe settled queue longer : List Term) : Type 0 where
  pub kept : Within safe settled
  pub brings : (v : Term) → IsIn (u, v) links → IsIn v settled
  pub only : (v : Term) → IsIn v settled → IsIn v safe ⊎ IsIn (u, v) all
  pub waiting : Within queue longer
  pub queued : (v : Term) → IsIn v settled → IsIn v safe ⊎ IsIn v longer
  pub safely : (v : Term) → IsIn v longer → IsIn v queue ⊎ IsIn v settled
  pub fewer : length longer + missing all settled ≤ length queue + missing all safe
