-- Which terms of a bound count in an interpretation, and why one doesn't. All definitions are transparent.
use Rattle.std.specs.Prelude.{ℕ, ◌≡◌, Bool, false, ◌&&◌, List, map}
use Rattle.std.specs.List.{filter}
use Rattle.asp_defs.specs.declared.ground.Counted.{Counted}
use Rattle.asp_defs.specs.declared.ground.Lit.{Lit}
use Rattle.asp_defs.specs.Bounds.{term_atoms}
use Rattle.asp_defs.specs.Entries.{lit_true}
use Rattle.asp_defs.specs.Interpretations.{holds}
use Rattle.asp_defs.specs.Lists.{IsIn}
use Rattle.asp_defs.specs.Truth.{literals_true}

-- the two literals of an atom
abbrev pub literal : Bool → ℕ → Lit
literal positive a = record { atom = a; positive = positive }

-- whether a term counts: its atom is true, and so is its condition
abbrev pub is_counted : List ℕ → Counted → Bool
is_counted I c = holds I c.atom && literals_true I c.pos c.neg

-- the atoms of the terms that do, as often as they do
abbrev pub counted_terms : List ℕ → List Counted → List ℕ
counted_terms I terms = map (λ c. c.atom) (filter (is_counted I) terms)

-- a literal of a term, false in an interpretation; wherever it is false, the term doesn't count
pub record IsReason (I : List ℕ) (c : Counted) (l : Lit) : Type 0 where
  pub false_here : lit_true I l ≡ false
  pub atom : IsIn l.atom (term_atoms c)
  pub stops : (N : List ℕ) → lit_true N l ≡ false → is_counted N c ≡ false
