-- Cubes of sets, what is left of rules in them, and tables over sets. The cube of `set` and `rest` has the sets that
-- have `set` and beside it only atoms of `rest`, which are open; so has that of `small` and `loose` for the smaller
-- sets. All definitions are transparent.
use Rattle.std.specs.Prelude.{◌≡◌, ◌==◌, ℕ, Bool, true, false, not, ◌&&◌, if◌then◌else◌, List, length, map, get_or}
use Rattle.std.specs.List.{filter, list_all}
use Rattle.std.specs.Int.RustNames.{bit_and, bit_or}
use Rattle.asp_plain.specs.declared.masks.MaskedRule.{MaskedRule}
use Rattle.asp_plain.specs.declared.bounds.MaskedBound.{MaskedBound}
use Rattle.asp_plain.specs.Masks.{HaveSameMembers, has_other_model}
use Rattle.asp_plain.specs.MaskedBounds.{is_bounded_answer}

-- whether a set lies in a cube
abbrev pub in_cube : ℕ → ℕ → ℕ → Bool
in_cube set rest s = bit_or set (bit_and s rest) == s

-- the atoms of a rule
abbrev pub rule_atoms : MaskedRule → ℕ
rule_atoms rule = bit_or (bit_or rule.positive rule.negative) rule.head

-- whether it has none
abbrev pub is_bare : MaskedRule → Bool
is_bare rule = rule_atoms rule == 0

-- false only where each set of the cube of `small` and `loose` satisfies what the reducts by the sets of the cube of
-- `set` and `rest` have of a rule
abbrev pub can_matter : MaskedRule → ℕ → ℕ → ℕ → ℕ → Bool
can_matter rule set small rest loose =
    (bit_and rule.negative set == 0)
    && (not (rule.choice && (bit_and rule.head (bit_or set rest) == 0))
    && ((bit_and rule.positive (bit_or small loose) == rule.positive) && (bit_and rule.head small == 0)))

-- such a rule without the atoms that are decided: its positive body and its head keep those that are open for the
-- smaller set, its negative body those that are open for the set. A choice that may still lack its head in the set
-- keeps the head's atom while it is open for either.
abbrev pub narrowed : ℕ → ℕ → ℕ → MaskedRule → MaskedRule
narrowed set rest loose rule = record {
  positive = bit_and rule.positive loose;
  negative = bit_and rule.negative rest;
  head = bit_and rule.head (if rule.choice && (bit_and rule.head set == 0) then bit_or rest loose else loose);
  choice = rule.choice && (bit_and rule.head set == 0);
}

-- what is left of rules for reducts by sets of the cube of `set` and `rest`, and for their models in the cube of
-- `small` and `loose`
abbrev pub left_of : ℕ → ℕ → ℕ → ℕ → List MaskedRule → List MaskedRule
left_of set small rest loose rules = map (narrowed set rest loose) (filter (λ rule. can_matter rule set small rest loose) rules)

-- a list has the same rules as another, and each of them has an atom
pub record IsWhole (left rules : List MaskedRule) : Type 0 where
  pub members : HaveSameMembers left rules
  pub atoms : list_all (λ rule. not (is_bare rule)) left ≡ true

-- a table over sets lost the sets of a cube that a test doesn't keep, and no others
pub record Sifted (set rest : ℕ) (keeps : ℕ → Bool) (old new : List Bool) : Type 0 where
  pub long : length new ≡ length old
  pub inside : (s : ℕ) → in_cube set rest s ≡ true → get_or new s false ≡ (get_or old s false && keeps s)
  pub beside : (s : ℕ) → in_cube set rest s ≡ false → get_or new s false ≡ get_or old s false

-- a table has no set of a cube
abbrev pub HasNone : ℕ → ℕ → List Bool → Type 0
HasNone set rest table = (s : ℕ) → in_cube set rest s ≡ true → get_or table s false ≡ false

-- the set that has `small`, and beside it those atoms of `s` that are in `loose` and in `lower`
abbrev pub least_of : ℕ → ℕ → ℕ → ℕ → ℕ
least_of lower small loose s = bit_or small (bit_and (bit_and s loose) lower)

-- where some are spared, whether `s` has beside `set` only atoms of `lower` among the open ones
abbrev pub is_spared : Bool → ℕ → ℕ → ℕ → ℕ → Bool
is_spared spared lower set rest s = spared && (s == least_of lower set rest s)

-- whether another set than `s` that has `small` and the atoms of `s` that are in `loose` and in `lower`, and beside
-- them only atoms of `s` that are in `loose`, is a model of the reduct by `s`
abbrev pub is_beaten : List MaskedRule → ℕ → ℕ → ℕ → ℕ → Bool
is_beaten rules lower small loose s = has_other_model rules s (least_of lower small loose s) (bit_or small (bit_and s loose))

-- a table says of each set over a base whether it is an answer set of rules and bounds with its atoms of the lower base
-- fixed
abbrev pub HoldsAnswers : List MaskedRule → List MaskedBound → ℕ → ℕ → List Bool → Type 0
HoldsAnswers rules bounds lower base table =
    (s : ℕ) → bit_and s base ≡ s → get_or table s false ≡ is_bounded_answer rules bounds (bit_and s lower) s
