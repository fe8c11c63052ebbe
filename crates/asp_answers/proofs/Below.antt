-- The atoms of a level's rules and bounds are places of truth values of all atoms of its game.
use Rattle.std.proofs.Common.{◌≡◌, ◌<◌, Bool, nat_lt, List, length, arith}
use Rattle.std.specs.Prelude.{IsTrue}
use Rattle.std.specs.List.{list_all}
use Rattle.std.proofs.lemmas.Bool.{lt-ltb}
use Rattle.asp_defs.specs.Interpretations.{holds}
use Rattle.asp_defs.specs.Bounds.{bound_atoms}
use Rattle.asp_defs.specs.Games.{rule_atoms, within}
use Rattle.asp_defs.proofs.Lists.{all_at, all_from}
use Rattle.asp_reduct.specs.Bounds.{is_rule_below, is_bound_below}
use Rattle.asp_completion.specs.declared.level.Level.{Level}
use Rattle.asp_completion.specs.Levels.{game_at, upper, rules_at, bounds_at, IsLevel}
use Rattle.asp_completion.proofs.LevelFacts.{below, rules-in, bounds-in}

module _ (l : Level) (ready : IsLevel l) where
  -- the rules' atoms are places of truth values of all atoms
  pub rules-below : (set : List Bool) → length set ≡ length (game_at l).bases.atoms
      → IsTrue (list_all (is_rule_below (length set)) (rules_at l))
  rules-below set e =
      all_from (is_rule_below (length set)) (rules_at l) (λ r i.
      all_from (λ a. nat_lt a (length set)) (rule_atoms r) (λ a j.
      let h : a < length (game_at l).bases.atoms =
      below l ready a (all_at (holds (upper l)) (rule_atoms r) a (all_at (λ q. within (rule_atoms q) (upper l)) (rules_at l) r (rules-in l ready) i) j) in
      lt-ltb a (length set) (omega arith)))

  -- and so are those of the bounds
  pub bounds-below : (set : List Bool) → length set ≡ length (game_at l).bases.atoms
      → IsTrue (list_all (is_bound_below (length set)) (bounds_at l))
  bounds-below set e =
      all_from (is_bound_below (length set)) (bounds_at l) (λ b i.
      all_from (λ a. nat_lt a (length set)) (bound_atoms b) (λ a j.
      let h : a < length (game_at l).bases.atoms =
      below l ready a (all_at (holds (upper l)) (bound_atoms b) a (all_at (λ q. within (bound_atoms q) (upper l)) (bounds_at l) b (bounds-in l ready) i) j) in
      lt-ltb a (length set) (omega arith)))
