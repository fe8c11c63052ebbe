-- The cube of a move. All definitions are transparent.
use Rattle.std.specs.Prelude.{ℕ, ◌-◌, ◌≡◌, Bool, true, ◌||◌, List, length}
use Rattle.asp_bits.specs.Places.{true_places}
use Rattle.asp_defs.specs.declared.ground.Game.{Game}
use Rattle.asp_defs.specs.declared.ground.Lit.{Lit}
use Rattle.asp_defs.specs.Lists.{IsIn}
use Rattle.asp_defs.specs.Interpretations.{holds}
use Rattle.asp_defs.specs.Games.{base, rules_of, bounds_of, is_subset}
use Rattle.asp_defs.specs.Values.{moves}
use Rattle.asp_defs.specs.Entries.{cube_holds, stands_at}
use Rattle.asp_entry.specs.Cubes.{lits_ascend}
use Rattle.asp_explain.specs.Resting.{stands_in_literals, RestsOn}

-- a move that has the literals
pub record HeldMove (g : Game) (i : ℕ) (won : List Lit) (M : List ℕ) : Type 0 where
  pub move : List ℕ
  pub is_move : IsIn move (moves g i M)
  pub held : cube_holds won move ≡ true

-- literals, whose atoms ascend, that hold an outer move, and outer moves alone after which some move has the literals `won`
pub record IsMoveCube (g : Game) (i : ℕ) (M : List ℕ) (won lits : List Lit) : Type 0 where
  pub ascend : lits_ascend lits ≡ true
  pub on_base : (l : Lit) → IsIn l lits → holds (base g (i - 1)) l.atom ≡ true
  pub stand : (l : Lit) → IsIn l lits → (stands_at g i l.atom || stands_in_literals l.atom won) ≡ true
  pub held : cube_holds lits M ≡ true
  pub sound : (K : List ℕ) → is_subset K (base g (i - 1)) ≡ true → cube_holds lits K ≡ true → HeldMove g i won K

-- marked atoms, as many places as a count, which are outer ones and stand in the level or in `won`, and on which a move rests
pub record AreResting (g : Game) (i : ℕ) (won : List Lit) (N : List ℕ) (count : ℕ) (marks : List Bool) : Type 0 where
  pub as_many : length marks ≡ count
  pub outer : (a : ℕ) → holds (true_places marks) a ≡ true → holds (base g (i - 1)) a ≡ true
  pub stand : (a : ℕ) → holds (true_places marks) a ≡ true → (stands_at g i a || stands_in_literals a won) ≡ true
  pub rests : RestsOn (rules_of g i) (bounds_of g i) won (base g (i - 1)) (true_places marks) N
