-- The value of a move with atoms on which it rests. All definitions are transparent.
use Rattle.std.specs.Prelude.{ℕ, ◌+◌, ◌≡◌, Bool, true, List, length}
use Rattle.asp_bits.specs.Places.{true_places}
use Rattle.asp_defs.specs.declared.ground.Game.{Game}
use Rattle.asp_defs.specs.Interpretations.{holds}
use Rattle.asp_defs.specs.Games.{base, level_count, rules_of, is_subset}
use Rattle.asp_defs.specs.Values.{value}
use Rattle.asp_eval.specs.Covers.{AreRuleAtoms}

-- two interpretations agree on these atoms
abbrev pub AgreeOn : List ℕ → List ℕ → List ℕ → Type 0
AgreeOn C I M = (a : ℕ) → holds C a ≡ true → holds M a ≡ holds I a

-- a verdict is the value of a move and of all that agree with it on atoms, which are outer ones and stand in constraints
pub record IsDecided (g : Game) (I : List ℕ) (count : ℕ) (verdict : Bool) (values : List Bool) : Type 0 where
  pub as_many : length values ≡ count
  pub atoms : AreRuleAtoms (base g (level_count g)) (true_places values) (rules_of g (level_count g + 1))
  pub decided : (M : List ℕ) → is_subset M (base g (level_count g)) ≡ true → AgreeOn (true_places values) I M
      → value g (level_count g + 1) M ≡ verdict
