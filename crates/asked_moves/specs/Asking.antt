-- What the tests know of a level that they ask. All definitions are transparent.
use Rattle.std.specs.Prelude.{ℕ, ◌≡◌, ◌≢◌, true, List}
use Rattle.std.specs.List.{list_all}
use Rattle.asp_defs.specs.declared.ground.Lit.{Lit}
use Rattle.asp_defs.specs.Entries.{lit_true}
use Rattle.asp_defs.specs.Interpretations.{holds}
use Rattle.asp_game.specs.State.{MovesState, Unasked}

-- each atom of the first list is one of the other
abbrev pub IsWithin : List ℕ → List ℕ → Type 0
IsWithin I B = (a : ℕ) → holds I a ≡ true → holds B a ≡ true

-- literals that an interpretation makes true, of atoms of a base
pub record IsCubeOf (B I : List ℕ) (cube : List Lit) : Type 0 where
  pub inside : list_all (lit_true I) cube ≡ true
  pub atoms : list_all (λ l. holds B l.atom) cube ≡ true

-- the same level is asked still
pub record IsAsked (old new : MovesState) : Type 0 where
  pub game : new.game ≡ old.game
  pub level : new.level ≡ old.level
  pub asked : new.last ≢ Unasked
