-- Cubes, and the entries of a history: verdicts on all outer moves that a cube holds (of this project). All definitions
-- are transparent.
use Rattle.std.specs.Prelude.{ℕ, ◌+◌, ◌-◌, Bool, true, false, ◌&&◌, ◌||◌, nat_le, List, map, length, drop, if◌then◌else◌, not}
use Rattle.std.specs.List.{list_all, list_any, filter}
use Rattle.asp_defs.specs.declared.ground.Game.{Game}
use Rattle.asp_defs.specs.declared.ground.GroundRule.{GroundRule}
use Rattle.asp_defs.specs.declared.ground.Bound.{Bound}
use Rattle.asp_defs.specs.declared.ground.Lit.{Lit}
use Rattle.asp_defs.specs.declared.syntax.Quant.{Quant}
use Rattle.asp_defs.specs.declared.syntax.Quant.TheVariants.{Exists, Forall}
use Rattle.asp_defs.specs.Interpretations.{holds, subsets}
use Rattle.asp_defs.specs.Bounds.{bound_atoms}
use Rattle.asp_defs.specs.Games.{level_count, base, rules_of, bounds_of, is_subset, rule_atoms}

-- whether a literal is true in an interpretation
abbrev pub lit_true : List ℕ → Lit → Bool
lit_true M l = if l.positive then holds M l.atom else not (holds M l.atom)

-- whether a cube, a list of literals, holds an interpretation: all its literals are true in it
abbrev pub cube_holds : List Lit → List ℕ → Bool
cube_holds cube M = list_all (lit_true M) cube

-- an entry: the verdict on each outer move of a level that the cube holds, and the move that it was found for
pub record Entry : Type 0 where
  pub level : ℕ
  pub cube : List Lit
  pub verdict : Bool
  pub seed : List ℕ

-- the outer moves of a level that a cube holds, of all subsets of the base below the level
abbrev pub held_moves : Game → ℕ → List Lit → List (List ℕ)
held_moves g i cube = filter (cube_holds cube) (subsets (base g (i - 1)))

-- whether an atom stands in one of some rules: in its head or its body
abbrev pub stands_in_rules : ℕ → List GroundRule → Bool
stands_in_rules a rules = list_any (λ r. holds (rule_atoms r) a) rules

-- whether an atom stands in one of some bounds: in its body, as a counted atom or in that one's condition
abbrev pub stands_in_bounds : ℕ → List Bound → Bool
stands_in_bounds a bounds = list_any (λ b. holds (bound_atoms b) a) bounds

-- whether an atom stands in a rule or bound of a level
abbrev pub stands_at : Game → ℕ → ℕ → Bool
stands_at g i a = stands_in_rules a (rules_of g i) || stands_in_bounds a (bounds_of g i)

-- whether an atom stands in a rule or bound of a level or of a later one
abbrev pub stands_from : Game → ℕ → ℕ → Bool
stands_from g i a = list_any (stands_in_rules a) (drop (i - 1) g.rules) || list_any (stands_in_bounds a) (drop (i - 1) g.bounds)

-- whether an entry is formed for a game: its level is one, its cube's atoms ascend, lie in the base below the level and
-- stand in a rule or bound of the level or of a later one, and its seed is a subset of that base that the cube holds
abbrev pub is_entry : Game → Entry → Bool
is_entry g e =
    (nat_le 1 e.level && nat_le e.level (level_count g + 1))
    && ((is_subset (map (λ l. l.atom) e.cube) (base g (e.level - 1))
    && list_all (λ l. stands_from g e.level l.atom) e.cube)
    && (is_subset e.seed (base g (e.level - 1)) && cube_holds e.cube e.seed))

-- what an entry costs in cells
abbrev pub cost : Entry → ℕ
cost e = 1 + (length e.cube + length e.seed)

-- the verdict that one move decides: true for exists, false for forall
abbrev pub winning : Quant → Bool
winning Exists = true
winning Forall = false
