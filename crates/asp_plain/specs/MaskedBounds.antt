-- Bounds of choices over sets of atoms, where a set is a mask. All definitions are transparent.
use Rattle.std.specs.Prelude.{◌==◌, ◌^◌, ℕ, Bool, not, ◌&&◌, ◌||◌, if◌then◌else◌, List, map}
use Rattle.std.specs.List.{list_all, fold}
use Rattle.std.specs.Int.RustNames.{bit_and, bit_or, count_ones}
use Rattle.asp_defs.specs.declared.ground.Counted.{Counted}
use Rattle.asp_defs.specs.declared.ground.Bound.{Bound}
use Rattle.asp_defs.specs.Bounds.{is_at_least, is_at_most}
use Rattle.asp_plain.specs.declared.bounds.MaskedTerm.{MaskedTerm}
use Rattle.asp_plain.specs.declared.bounds.MaskedBound.{MaskedBound}
use Rattle.asp_plain.specs.declared.masks.MaskedRule.{MaskedRule}
use Rattle.asp_plain.specs.Masks.{mask_of, is_answer}

-- a counted term and a bound whose atoms are sets
abbrev pub masked_term : Counted → MaskedTerm
masked_term c = record { atom = 2 ^ c.atom; positive = mask_of c.pos; negative = mask_of c.neg }

abbrev pub masked_bound : Bound → MaskedBound
masked_bound b = record {
  positive = mask_of b.pos;
  negative = mask_of b.neg;
  low = b.low;
  high = b.high;
  counted = map masked_term b.counted;
}

-- whether a set has all of some atoms and none of others
abbrev pub are_true : ℕ → ℕ → ℕ → Bool
are_true set positive negative = (bit_and positive set == positive) && (bit_and negative set == 0)

-- the atoms of the terms whose condition is true, and those of them that the set has
abbrev pub with_term : ℕ → ℕ → MaskedTerm → ℕ
with_term set atoms term = if are_true set term.positive term.negative then bit_or atoms term.atom else atoms

abbrev pub counted_in : ℕ → List MaskedTerm → ℕ
counted_in set terms = bit_and (fold (with_term set) 0 terms) set

-- whether a set meets a bound, and all of some bounds
abbrev pub meets : ℕ → MaskedBound → Bool
meets set bound =
    not (are_true set bound.positive bound.negative)
    || (is_at_least bound.low (count_ones (counted_in set bound.counted)) && is_at_most bound.high (count_ones (counted_in set bound.counted)))

abbrev pub meets_all : List MaskedBound → ℕ → Bool
meets_all bounds set = list_all (meets set) bounds

-- whether `set`, which has the outer move and no other atom of its base, is an answer set of the rules with the outer move
-- fixed, and meets the bounds
abbrev pub is_bounded_answer : List MaskedRule → List MaskedBound → ℕ → ℕ → Bool
is_bounded_answer rules bounds outer set = is_answer rules outer set && meets_all bounds set
