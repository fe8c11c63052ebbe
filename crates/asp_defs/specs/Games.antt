-- Games: quantified ground programs (Amendola, Ricca and Truszczynski 2019, with the bases and the form of
-- the constraint part of this project). All definitions are transparent.
use Rattle.std.specs.Prelude.{ℕ, ◌+◌, ◌-◌, ◌≡◌, ◌≤◌, Bool, ◌==◌, ◌&&◌, nat_lt, true, not, ◌||◌, IsTrue, List, [], ◌∷◌, ◌++◌, map, length, get_or}
use Rattle.std.specs.List.{flat_map, list_all, enumerate_from}
use Rattle.std.specs.Ordering.{is_lt}
use Rattle.asp_defs.specs.declared.ground.GroundAtom.{GroundAtom}
use Rattle.asp_defs.specs.declared.ground.GroundRule.{GroundRule}
use Rattle.asp_defs.specs.declared.ground.Bound.{Bound}
use Rattle.asp_defs.specs.declared.ground.Game.{Game}
use Rattle.asp_defs.specs.declared.syntax.Rule.{Rule}
use Rattle.asp_defs.specs.declared.syntax.Program.{Program}
use Rattle.asp_defs.specs.declared.faults.Which.TheVariants as which
use Rattle.asp_defs.specs.Interpretations.{holds}
use Rattle.asp_defs.specs.Constants.{atom_cmp, universe, level_rules}
use Rattle.asp_defs.specs.Bases.{bases_of}
use Rattle.asp_defs.specs.Bounds.{bound_atoms}
use Rattle.asp_defs.specs.Instances.{rule_instances}
use Rattle.asp_defs.specs.BoundInstances.{rule_bounds}
use Rattle.asp_defs.specs.Consistency.{consistency_constraints}
use Rattle.asp_defs.specs.Lists.{is_empty}
use Rattle.asp_defs.specs.Limits.{limit}

-- the ground rules of a level: all instances of its rules over its universe, and behind them those of its consistency
-- constraints
abbrev pub level_ground : Program → (ℕ × List Rule) → List GroundRule
level_ground p level =
    flat_map (rule_instances (bases_of p).atoms (universe p level.0)) (level.1 ++ consistency_constraints p level.0)

-- the ground bounds of a level
abbrev pub level_bounds : Program → (ℕ × List Rule) → List Bound
level_bounds p level = flat_map (rule_bounds (bases_of p).atoms (universe p level.0)) level.1

-- the game of a program: all instances of all its rules, and all its ground bounds
abbrev pub game_of : Program → Game
game_of p = record {
  quants = map (λ part. part.quant) p.levels;
  bases = bases_of p;
  rules = map (level_ground p) (enumerate_from 1 (level_rules p));
  bounds = map (level_bounds p) (enumerate_from 1 (level_rules p));
}

-- how many levels a game has, the constraint part not counted
abbrev pub level_count : Game → ℕ
level_count g = length g.quants

-- the base of a level from 0 to n + 1, and how many atoms it has
abbrev pub base : Game → ℕ → List ℕ
base g i = get_or g.bases.members i []

abbrev pub base_size : Game → ℕ → ℕ
base_size g i = length (base g i)

-- the rules and the bounds of a level from 1 to n + 1
abbrev pub rules_of : Game → ℕ → List GroundRule
rules_of g i = get_or g.rules (i - 1) []

abbrev pub bounds_of : Game → ℕ → List Bound
bounds_of g i = get_or g.bounds (i - 1) []

-- whether numbers strictly ascend
abbrev pub ascends : List ℕ → Bool
ascends [] = true
ascends (a ∷ []) = true
ascends (a ∷ b ∷ more) = nat_lt a b && ascends (b ∷ more)

-- whether ground atoms strictly ascend
abbrev pub atoms_ascend : List GroundAtom → Bool
atoms_ascend [] = true
atoms_ascend (a ∷ []) = true
atoms_ascend (a ∷ b ∷ more) = is_lt (atom_cmp a b) && atoms_ascend (b ∷ more)

-- whether each member of a list of numbers is one of another's
abbrev pub within : List ℕ → List ℕ → Bool
within I B = list_all (holds B) I

-- whether an interpretation is a subset of a base: it ascends and lies within it
abbrev pub is_subset : List ℕ → List ℕ → Bool
is_subset I B = ascends I && within I B

-- whether each list lies within the next
abbrev pub nested : List (List ℕ) → Bool
nested [] = true
nested (B ∷ []) = true
nested (B ∷ C ∷ more) = within B C && nested (C ∷ more)

-- the atoms of a rule
abbrev pub rule_atoms : GroundRule → List ℕ
rule_atoms r = r.head ++ (r.pos ++ r.neg)

-- whether a choice has exactly one head atom
abbrev pub is_formed : GroundRule → Bool
is_formed r = not r.choice || (length r.head == 1)

-- whether a rule is a constraint
abbrev pub is_constraint : GroundRule → Bool
is_constraint r = not r.choice && is_empty r.head

-- the most levels and atoms of a game
abbrev pub most_levels : ℕ
most_levels = limit which.Levels

abbrev pub most_atoms : ℕ
most_atoms = limit which.Atoms

-- a game in which every level has rules and bounds over its base, the bases ascend from nothing to all atoms, and the
-- constraint part has constraints alone
pub record IsValid (g : Game) : Type 0 where
  pub some_levels : 1 ≤ level_count g
  pub few_levels : level_count g ≤ most_levels
  pub few_atoms : length g.bases.atoms ≤ most_atoms
  pub rule_lists : length g.rules ≡ level_count g + 1
  pub bound_lists : length g.bounds ≡ level_count g + 1
  pub base_lists : length g.bases.members ≡ level_count g + 2
  pub ordered_atoms : IsTrue (atoms_ascend g.bases.atoms)
  pub ordered_bases : IsTrue (list_all ascends g.bases.members)
  pub nested_bases : IsTrue (nested g.bases.members)
  pub first_base : base g 0 ≡ []
  pub last_base : base_size g (level_count g + 1) ≡ length g.bases.atoms
  pub last_within : IsTrue (list_all (λ a. nat_lt a (length g.bases.atoms)) (base g (level_count g + 1)))
  pub rules_within : (i : ℕ) → 1 ≤ i → i ≤ level_count g + 1 →
      IsTrue (list_all (λ r. within (rule_atoms r) (base g i)) (rules_of g i))
  pub bounds_within : (i : ℕ) → 1 ≤ i → i ≤ level_count g + 1 →
      IsTrue (list_all (λ b. within (bound_atoms b) (base g i)) (bounds_of g i))
  pub choices : (i : ℕ) → IsTrue (list_all is_formed (rules_of g i))
  pub constraints : IsTrue (list_all is_constraint (rules_of g (level_count g + 1)))
  pub unbounded : bounds_of g (level_count g + 1) ≡ []
