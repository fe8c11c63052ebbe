-- What the answers to a question for moves say.
use Rattle.std.specs.Prelude.{◌≡◌, ℕ, ◌+◌, ◌-◌, ◌^◌, ◌<◌, ◌≤◌, min, Bool, ◌||◌, ◌==◌, List, [], ◌∷◌, length, map, IsTrue, Result, Ok, Err}
use Rattle.std.specs.List.{list_all, list_any}
use Rattle.asp_bits.specs.Places.{true_places}
use Rattle.asp_defs.specs.declared.faults.Give.{Give}
use Rattle.asp_defs.specs.declared.faults.Kind.{Kind}
use Rattle.asp_defs.specs.declared.faults.Kind.TheVariants.{Search, Minimal, Store}
use Rattle.asp_defs.specs.declared.faults.Unknown.{Unknown}
use Rattle.asp_defs.specs.declared.ground.Lit.{Lit}
use Rattle.asp_defs.specs.Lists.{IsIn}
use Rattle.asp_defs.specs.Interpretations.{holds}
use Rattle.asp_defs.specs.Games.{base, is_subset}
use Rattle.asp_defs.specs.Entries.{cube_holds, stands_at, held_moves}
use Rattle.asp_defs.specs.Unknowns.{enough_placements}
use Rattle.asp_game.specs.declared.step.Step.{Step}
use Rattle.asp_game.specs.declared.step.Step.TheVariants.{Found, Core}
use Rattle.asp_game.specs.State.{MovesState, Last, FoundMove, FoundCore, Gave, left_out}
use Rattle.asp_game.specs.Questions.{open_moves}

-- a move that was asked for, as truth values of all atoms
pub record IsFound (s : MovesState) (set : List Bool) : Type 0 where
  pub places : length set ≡ length s.game.bases.atoms
  pub open_move : IsIn (true_places set) (open_moves s s.outer)

-- a move that comes first of all that were asked for, in the order of interpretations
pub record IsFirst (s : MovesState) (set : List Bool) : Type 0 where
  pub later : List (List ℕ)
  pub first : open_moves s s.outer ≡ true_places set ∷ later

-- whether an atom stands in a rule or bound of the level or in one of the cubes that are left out
abbrev pub is_named : MovesState → ℕ → Bool
is_named s a = stands_at s.game s.level a || list_any (λ cube. list_any (λ l. l.atom == a) cube) (left_out s)

-- a part of the outer move, its atoms ascending, so that no move that is asked for comes after any outer move that has it
pub record IsCore (s : MovesState) (core : List Lit) : Type 0 where
  pub atoms : IsTrue (is_subset (map (λ l. l.atom) core) (base s.game (s.level - 1)))
  pub part : IsTrue (cube_holds core s.outer)
  pub named : IsTrue (list_all (λ l. is_named s l.atom) core)
  pub refuted : (M : List ℕ) → IsIn M (held_moves s.game s.level core) → open_moves s M ≡ []

-- a count rose, or stands at the end of 64 bits
abbrev pub Rose : ℕ → ℕ → Type 0
Rose before now = min (before + 1) (2 ^ 64 - 1) ≤ now

-- the count of a kind of search rose
abbrev pub KindRose : Kind → MovesState → MovesState → Type 0
KindRose Search old new = Rose old.searches new.searches
KindRose Minimal old new = Rose old.checks new.checks
KindRose Store old new = ⊥

-- a search of the level spent its budget, which isn't enough for all of them
pub record IsSpent (old new : MovesState) (unknown : Unknown) : Type 0 where
  pub level : unknown.level ≡ old.level
  pub budget : unknown.budget ≡ old.budget
  pub few : old.budget < enough_placements old.game old.level
  pub rose : KindRose unknown.kind old new

-- the question stays, and no count falls
pub record GoesOn (old new : MovesState) : Type 0 where
  pub question : new ≡ record old { last = new.last; searches = new.searches; checks = new.checks }
  pub searches : old.searches ≤ new.searches
  pub checks : old.checks ≤ new.checks

-- whether a cube's atoms are in the level's base
abbrev pub is_on_base : MovesState → List Lit → Bool
is_on_base s cube = list_all (λ l. holds (base s.game s.level) l.atom) cube

-- the last move is in the cube, and the cube's atoms are in the level's base
pub record IsBlockable (s : MovesState) (cube : List Lit) : Type 0 where
  pub set : List ℕ
  pub found : s.last ≡ FoundMove set
  pub inside : IsTrue (cube_holds cube set)
  pub atoms : IsTrue (is_on_base s cube)

-- the last answer after an answer
abbrev pub last_after : Result Step Give → Last
last_after (Ok (Found set)) = FoundMove (true_places set)
last_after (Ok (Core core)) = FoundCore
last_after (Err give) = Gave give
