-- The literals of a level's base as the literals of a search: the search has an atom for each place of the base. All
-- definitions are transparent.
use Rattle.std.specs.Prelude.{ℕ, suc, ◌≡◌, ◌+◌, ◌*◌, Bool, true, false, ◌==◌, List, [], ◌∷◌, ◌++◌, map, if◌then◌else◌}
use Rattle.std.specs.List.{list_any}
use Rattle.asp_defs.specs.declared.ground.GroundRule.{GroundRule}
use Rattle.asp_defs.specs.declared.ground.Lit.{Lit}
use Rattle.asp_defs.specs.Interpretations.{holds}
use Rattle.asp_defs.specs.Entries.{lit_true}

-- the place of an atom in a base
abbrev pub rank : List ℕ → ℕ → ℕ
rank [] a = 0
rank (b ∷ B) a = elim (b == a) [ true ↦ 0 | false ↦ suc (rank B a) ]

-- the code of a literal, and the codes of literals
abbrev pub code : List ℕ → Lit → ℕ
code B l = if l.positive then 2 * rank B l.atom + 1 else 2 * rank B l.atom

abbrev pub codes : List ℕ → List Lit → List ℕ
codes B lits = map (code B) lits

-- the two literals of an atom, and the other literal of the same atom
abbrev pub literal : Bool → ℕ → Lit
literal positive a = record { atom = a; positive = positive }

abbrev pub opposite : Lit → Lit
opposite l = elim l.positive [ true ↦ literal false l.atom | false ↦ literal true l.atom ]

-- the literals of a rule that is no choice: where it is satisfied, one of them is true
abbrev pub rule_literals : GroundRule → List Lit
rule_literals r = map (literal true) r.head ++ (map (literal false) r.pos ++ map (literal true) r.neg)

-- whether one of the literals is true
abbrev pub is_met : List ℕ → List Lit → Bool
is_met N lits = list_any (lit_true N) lits

-- an assignment of a search gives each atom of the base the value that it has in an interpretation
pub record Agrees (B : List ℕ) (v : ℕ → Bool) (N : List ℕ) : Type 0 where
  pub value : (a : ℕ) → holds B a ≡ true → holds N a ≡ v (rank B a)
