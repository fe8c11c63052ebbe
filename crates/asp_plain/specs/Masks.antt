-- Rules and answer sets over sets of atoms, where a set is a mask: bit a of it is set where atom a is a member. All
-- definitions are transparent.
use Rattle.std.specs.Prelude.{◌≡◌, ◌==◌, ◌+◌, ◌^◌, ℕ, Bool, not, ◌&&◌, ◌||◌, List, map, Contains}
use Rattle.std.specs.List.{list_any, list_all, filter, fold}
use Rattle.std.specs.Int.{bit_at}
use Rattle.std.specs.Int.RustNames.{bit_and, bit_or}
use Rattle.asp_defs.specs.declared.ground.GroundRule.{GroundRule}
use Rattle.asp_defs.specs.Interpretations.{holds, subsets}
use Rattle.asp_defs.specs.Lists.{numbers_from}
use Rattle.asp_plain.specs.declared.masks.MaskedRule.{MaskedRule}

-- how many atoms a mask has room for
abbrev pub most_masked : ℕ
most_masked = 20

-- a set with one atom more
abbrev pub with_atom : ℕ → ℕ → ℕ
with_atom mask a = bit_or mask (2 ^ a)

-- the set of the atoms of a list
abbrev pub mask_of : List ℕ → ℕ
mask_of atoms = fold with_atom 0 atoms

-- a rule whose lists of atoms are sets
abbrev pub masked : GroundRule → MaskedRule
masked r = record {
  positive = mask_of r.pos;
  negative = mask_of r.neg;
  head = mask_of r.head;
  choice = r.choice;
}

-- the two lists have the same members
pub record HaveSameMembers {X : Type 0} (xs ys : List X) : Type 0 where
  pub within : (x : X) → Contains xs x → Contains ys x
  pub whole : (x : X) → Contains ys x → Contains xs x

-- whether a set satisfies what the reduct by `set` has of a rule, if it has a rule for it
abbrev pub satisfies_part : MaskedRule → ℕ → ℕ → Bool
satisfies_part rule set small =
    not (bit_and rule.negative set == 0)
    || ((rule.choice && (bit_and rule.head set == 0))
    || (not (bit_and rule.positive small == rule.positive) || not (bit_and rule.head small == 0)))

-- whether a set is a model of the reduct by `set`
abbrev pub is_model_of_reduct : List MaskedRule → ℕ → ℕ → Bool
is_model_of_reduct rules set small = list_all (λ rule. satisfies_part rule set small) rules

-- whether a set other than `set` has `least`, lies within `most` and is a model of the reduct by `set`
abbrev pub is_other_model : List MaskedRule → ℕ → ℕ → ℕ → ℕ → Bool
is_other_model rules set least most small =
    (bit_and least small == least)
    && ((bit_and small most == small) && (not (small == set) && is_model_of_reduct rules set small))

-- whether there is one
abbrev pub has_other_model : List MaskedRule → ℕ → ℕ → ℕ → Bool
has_other_model rules set least most = list_any (is_other_model rules set least most) (numbers_from 0 (most + 1))

-- a number is one bit of a mask
pub record IsBitOf (mask bit : ℕ) : Type 0 where
  pub place : ℕ
  pub power : bit ≡ 2 ^ place
  pub there : bit_at mask place ≡ 1

-- whether a set has the outer move, is a part of `set`, and is a model of the reduct by `set`
abbrev pub is_model_between : List MaskedRule → ℕ → ℕ → ℕ → Bool
is_model_between rules outer set small =
    (bit_and outer small == outer) && ((bit_and small set == small) && is_model_of_reduct rules set small)

-- whether a smaller set than `set` is so
abbrev pub has_smaller_model : List MaskedRule → ℕ → ℕ → Bool
has_smaller_model rules outer set = list_any (is_model_between rules outer set) (numbers_from 0 set)

-- whether `set`, which has the outer move and no other atom of its base, is an answer set of the rules with the outer move
-- fixed
abbrev pub is_answer : List MaskedRule → ℕ → ℕ → Bool
is_answer rules outer set = is_model_of_reduct rules set set && not (has_smaller_model rules outer set)

-- the bits of the atoms of a base that a lower base lacks
abbrev pub own_bits : List ℕ → List ℕ → List ℕ
own_bits lower base = map (λ a. 2 ^ a) (filter (λ a. not (holds lower a)) base)

-- a set with each part of some bits, in the order of the subsets
abbrev pub candidates : ℕ → List ℕ → List ℕ
candidates set bits = map (fold bit_or set) (subsets bits)
