-- The rules that head an atom, and the literals of their bodies. All definitions are transparent.
use Rattle.std.specs.Prelude.{ℕ, suc, ◌⊎◌, ◌+◌, ◌*◌, ◌≤◌, ◌==◌, ◌&&◌, ◌||◌, Bool, true, false, List, [], ◌∷◌, ◌++◌, map, length, replicate}
use Rattle.std.specs.Bool.{beq}
use Rattle.std.specs.List.{list_any}
use Rattle.asp_defs.specs.declared.ground.GroundRule.{GroundRule}
use Rattle.asp_defs.specs.declared.ground.Lit.{Lit}
use Rattle.asp_completion.specs.Codes.{literal}

-- how often an atom stands in a list
abbrev pub times : List ℕ → ℕ → ℕ
times [] a = 0
times (b ∷ bs) a = elim (b == a) [ true ↦ suc (times bs a) | false ↦ times bs a ]

-- the rules that head an atom, each as often as its head has the atom
abbrev pub supporters : List GroundRule → ℕ → List GroundRule
supporters [] a = []
supporters (r ∷ rs) a = replicate (times r.head a) r ++ supporters rs a

-- the literals of a body, and how many they are
abbrev pub body_literals : GroundRule → List Lit
body_literals r = map (literal true) r.pos ++ map (literal false) r.neg

abbrev pub no_literal : Lit
no_literal = literal false 0

abbrev pub body_size : GroundRule → ℕ
body_size r = length r.pos + length r.neg

-- in how many ways one literal of each body can be taken
abbrev pub ways : List GroundRule → ℕ
ways [] = 1
ways (r ∷ rs) = body_size r * ways rs

-- at most one rule, or at most seven, with at most 64 ways to take one literal of each body; where a body is empty, nothing has to be said
abbrev pub AreFew : List GroundRule → Type 0
AreFew rules = (length rules ≤ 1) ⊎ ((length rules ≤ 7) × (1 ≤ ways rules) × (ways rules ≤ 64))

-- whether a literal stands in a clause, and whether one of a body does
abbrev pub stands : List Lit → Lit → Bool
stands clause l = list_any (λ other. (other.atom == l.atom) && beq other.positive l.positive) clause

abbrev pub shares : List Lit → GroundRule → Bool
shares clause r = list_any (λ a. stands clause (literal true a)) r.pos || list_any (λ a. stands clause (literal false a)) r.neg
