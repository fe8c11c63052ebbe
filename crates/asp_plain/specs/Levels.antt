-- The levels of a game over masks, and the value of an outer move by them. All definitions are transparent.
use Rattle.std.specs.Prelude.{◌≡◌, ℕ, ◌+◌, Bool, true, false, not, ◌&&◌, ◌||◌, List, [], ◌∷◌, map, get_or}
use Rattle.std.specs.List.{list_any, list_all}
use Rattle.std.specs.Int.RustNames.{bit_and}
use Rattle.asp_defs.specs.declared.ground.Game.{Game}
use Rattle.asp_defs.specs.declared.ground.GroundRule.{GroundRule}
use Rattle.asp_defs.specs.declared.ground.Bound.{Bound}
use Rattle.asp_defs.specs.declared.syntax.Quant.{Quant}
use Rattle.asp_defs.specs.declared.syntax.Quant.TheVariants.{Exists, Forall}
use Rattle.asp_defs.specs.Games.{base}
use Rattle.asp_plain.specs.declared.masks.Level.{Level}
use Rattle.asp_plain.specs.Masks.{masked, mask_of, own_bits, candidates}
use Rattle.asp_plain.specs.MaskedBounds.{masked_bound, is_bounded_answer}

-- a level with the atoms beyond the lower base, and at each set over the base whether it is an answer set of the rules and
-- bounds with the atoms of the lower base that it has fixed
pub record IsMasked (lower base : List ℕ) (rules : List GroundRule) (bounds : List Bound) (level : Level) : Type 0 where
  pub own : level.own ≡ own_bits lower base
  pub answers : (set : ℕ) → bit_and set (mask_of base) ≡ set
      → get_or level.answers set false ≡ is_bounded_answer (map masked rules) (map masked_bound bounds) (bit_and set (mask_of lower)) set

-- the levels of a game from the one above a base on
abbrev pub AreMasked : Game → ℕ → List Level → Type 0
AreMasked g below [] = Unit {0}
AreMasked g below (level ∷ levels) =
    IsMasked (base g below) (base g (below + 1)) (get_or g.rules below []) (get_or g.bounds below []) level × AreMasked g (below + 1) levels

-- the own bits of the first level
abbrev pub first_own : List Level → List ℕ
first_own [] = []
first_own (level ∷ levels) = level.own

-- whether a level's table has a set as an answer set
abbrev pub has_answer : Level → ℕ → Bool
has_answer level set = get_or level.answers set false

-- whether the first quantifier's claim holds of the sets: the first level has an answer set among them from which the
-- next levels are won, or all such answer sets are; behind the last quantifier, whether one of them is an answer set
abbrev pub is_claimed : List Quant → List Level → List ℕ → Bool
is_claimed quants [] sets = true
is_claimed [] (level ∷ levels) sets = list_any (has_answer level) sets
is_claimed (Exists ∷ quants) (level ∷ levels) sets =
    list_any (λ set. has_answer level set && is_claimed quants levels (candidates set (first_own levels))) sets
is_claimed (Forall ∷ quants) (level ∷ levels) sets =
    list_all (λ set. not (has_answer level set) || is_claimed quants levels (candidates set (first_own levels))) sets

-- the value of an outer move at the first level
abbrev pub masked_value : List Quant → List Level → ℕ → Bool
masked_value quants levels outer = is_claimed quants levels (candidates outer (first_own levels))

-- the verdict of one answer set that settles the first quantifier's claim
abbrev pub settling : List Quant → Bool
settling [] = true
settling (Exists ∷ quants) = true
settling (Forall ∷ quants) = false

-- whether a set is an answer set of the first level from which the next levels are won
abbrev pub is_won : List Quant → List Level → ℕ → Bool
is_won quants [] set = false
is_won quants (level ∷ levels) set = has_answer level set && masked_value quants levels set
