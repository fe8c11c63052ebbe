-- Questions for the moves of a level, and the moves that they ask for. All definitions are transparent.
use Rattle.std.specs.Prelude.{ℕ, ◌-◌, Bool, true, not, ◌&&◌, ◌==◌, List, [], ◌∷◌}
use Rattle.std.specs.List.{list_all, list_any, filter}
use Rattle.asp_defs.specs.declared.ground.Game.{Game}
use Rattle.asp_defs.specs.declared.ground.Lit.{Lit}
use Rattle.asp_defs.specs.Interpretations.{holds}
use Rattle.asp_defs.specs.Games.{base, is_subset}
use Rattle.asp_defs.specs.Values.{moves}
use Rattle.asp_defs.specs.Entries.{cube_holds}
use Rattle.asp_game.specs.State.{MovesState, left_out}

-- whether an interpretation is an outer move of a level: a subset of the base below it
abbrev pub is_outer : Game → ℕ → List ℕ → Bool
is_outer g i M = is_subset M (base g (i - 1))

-- whether a literal is on an atom that the level's base has and the base below hasn't
abbrev pub is_own_literal : Game → ℕ → Lit → Bool
is_own_literal g i l = holds (base g i) l.atom && not (holds (base g (i - 1)) l.atom)

-- whether no atom stands twice in literals
abbrev pub atoms_differ : List Lit → Bool
atoms_differ [] = true
atoms_differ (l ∷ more) = not (list_any (λ m. m.atom == l.atom) more) && atoms_differ more

-- whether literals make a region of a level
abbrev pub is_region : Game → ℕ → List Lit → Bool
is_region g i region = list_all (is_own_literal g i) region && atoms_differ region

-- whether an interpretation is outside all cubes
abbrev pub is_outside : List (List Lit) → List ℕ → Bool
is_outside cubes N = list_all (λ cube. not (cube_holds cube N)) cubes

-- whether an interpretation is in a region and outside all cubes that are left out
abbrev pub is_open : List Lit → List (List Lit) → List ℕ → Bool
is_open region cubes N = cube_holds region N && is_outside cubes N

-- the moves after an outer move that are in the region and outside all cubes that are left out, in the order of interpretations
abbrev pub open_moves : MovesState → List ℕ → List (List ℕ)
open_moves s M = filter (is_open s.region (left_out s)) (moves s.game s.level M)
