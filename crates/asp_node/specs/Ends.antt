-- How the search of a region ends. All definitions are transparent.
use Rattle.std.specs.Prelude.{◌≡◌, ℕ, ◌+◌, ◌-◌, Bool, true, not, List, [], ◌∷◌, map, drop, IsTrue}
use Rattle.std.specs.List.{list_all}
use Rattle.asp_defs.specs.declared.ground.Game.{Game}
use Rattle.asp_defs.specs.declared.ground.Lit.{Lit}
use Rattle.asp_defs.specs.declared.syntax.Quant.{Quant}
use Rattle.asp_defs.specs.declared.syntax.Quant.TheVariants.{Exists}
use Rattle.asp_defs.specs.Lists.{IsIn}
use Rattle.asp_defs.specs.Games.{base, is_subset}
use Rattle.asp_defs.specs.Values.{moves}
use Rattle.asp_defs.specs.Entries.{Entry, cube_holds, held_moves, stands_from, winning}
use Rattle.asp_defs.specs.History.{is_held_with}

-- the quantifier of a level from 1 on, the first of those from that level on
abbrev pub quant_of : List Quant → Quant
quant_of [] = Exists
quant_of (q ∷ more) = q

abbrev pub quant_at : Game → ℕ → Quant
quant_at g level = quant_of (drop (level - 1) g.quants)

-- the verdict that one move of a level decides
abbrev pub winning_at : Game → ℕ → Bool
winning_at g level = winning (quant_at g level)

-- whether a move of a level is refuted: an entry of the next level holds it, with the verdict that doesn't win
abbrev pub is_refuted : Game → ℕ → List Entry → List ℕ → Bool
is_refuted g level seen N = is_held_with seen (level + 1) (not (winning_at g level)) N

-- literals are the cube of an entry of the next level with the verdict that doesn't win; and each of some cubes is
pub record RefutingEntry (g : Game) (i : ℕ) (seen : List Entry) (lits : List Lit) : Type 0 where
  pub entry : Entry
  pub member : IsIn entry seen
  pub level : entry.level ≡ i + 1
  pub verdict : entry.verdict ≡ not (winning_at g i)
  pub cube : entry.cube ≡ lits

abbrev pub AreRefuted : Game → ℕ → List Entry → List (List Lit) → Type 0
AreRefuted g i seen cubes = (cube : List Lit) → IsIn cube cubes → RefutingEntry g i seen cube

-- a cube of outer moves, the given one among them, after each of which every move in the region is refuted; its atoms ascend
-- in the base below the level and stand in a rule or bound of the level or of a later one
pub record IsExhausted (g : Game) (level : ℕ) (outer : List ℕ) (region : List Lit) (seen : List Entry) (cube : List Lit) : Type 0 where
  pub atoms : IsTrue (is_subset (map (λ l. l.atom) cube) (base g (level - 1)))
  pub named : IsTrue (list_all (λ l. stands_from g level l.atom) cube)
  pub held : IsTrue (cube_holds cube outer)
  pub refuted : (M : List ℕ) → IsIn M (held_moves g level cube) → (N : List ℕ) → IsIn N (moves g level M)
      → cube_holds region N ≡ true → is_refuted g level seen N ≡ true
