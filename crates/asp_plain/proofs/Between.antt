-- Other models between a least and a greatest set, and smaller models.
use Rattle.std.proofs.Common.{◌≡◌, ◌+◌, ℕ, true, not, ◌&&◌, eqb, List, arith}
use Rattle.std.specs.Int.RustNames.{bit_and}
use Rattle.std.proofs.lemmas.Nat.{and_le_r}
use Rattle.std.proofs.lemmas.Bool.{eqb-true, eq-eqb, ne_eqb, both_ways, and_parts, and_from, not-true, not_from_false}
use Rattle.asp_defs.specs.Lists.{numbers_from}
use Rattle.asp_defs.proofs.Lists.{any_at, any_from}
use Rattle.asp_plain.specs.declared.masks.MaskedRule.{MaskedRule}
use Rattle.asp_plain.specs.Masks.{is_model_of_reduct, is_other_model, has_other_model, is_model_between, has_smaller_model}
use Rattle.asp_plain.proofs.Atoms.{same_test, covers, covers_back}
use Rattle.asp_plain.proofs.Beside.{Within}
use Rattle.asp_plain.proofs.Minimal.{number_at, below_count, less_part}

-- ---- a set that is such a model

pub other_model : (rules : List MaskedRule) (set least most : ℕ) → has_other_model rules set least most ≡ true
    → (small : ℕ) × Within least small × Within small most × (small ≡ set → ⊥) × (is_model_of_reduct rules set small ≡ true)
other_model rules set least most h =
    let w = any_at (is_other_model rules set least most) (numbers_from 0 (most + 1)) h in
    let small : ℕ = w.0 in
    let low = and_parts (eqb (bit_and least small) least) (eqb (bit_and small most) small && (not (eqb small set) && is_model_of_reduct rules set small)) w.2 in
    let high = and_parts (eqb (bit_and small most) small) (not (eqb small set) && is_model_of_reduct rules set small) low.1 in
    let rest = and_parts (not (eqb small set)) (is_model_of_reduct rules set small) high.1 in (
      small,
      covers_back least small (eqb-true (bit_and least small) least low.0),
      covers_back small most (eqb-true (bit_and small most) small high.0),
      (λ e. both_ways (eqb small set) (not-true (eqb small set) rest.0) (eq-eqb small set e)),
      rest.1,
    )

pub other_from : (rules : List MaskedRule) (set least most small : ℕ) → Within least small → Within small most
    → (small ≡ set → ⊥) → is_model_of_reduct rules set small ≡ true → has_other_model rules set least most ≡ true
other_from rules set least most small low high other model =
    let kept = covers small most high in
    let le = and_le_r small most in
    any_from (is_other_model rules set least most) (numbers_from 0 (most + 1)) small
    (number_at 0 (most + 1) small small (omega arith) (omega arith))
    (and_from (eqb (bit_and least small) least)
    (eqb (bit_and small most) small && (not (eqb small set) && is_model_of_reduct rules set small))
    (eq-eqb (bit_and least small) least (covers least small low))
    (and_from (eqb (bit_and small most) small) (not (eqb small set) && is_model_of_reduct rules set small)
    (eq-eqb (bit_and small most) small kept)
    (and_from (not (eqb small set)) (is_model_of_reduct rules set small)
    (not_from_false (eqb small set) (ne_eqb small set other)) model)))

-- ---- smaller models

module _ (rules : List MaskedRule) (outer set : ℕ) where
  smaller_model : has_smaller_model rules outer set ≡ true
      → (small : ℕ) × Within outer small × Within small set × (small ≡ set → ⊥) × (is_model_of_reduct rules set small ≡ true)
  smaller_model h =
      let w = any_at (is_model_between rules outer set) (numbers_from 0 set) h in
      let small : ℕ = w.0 in
      let tests = and_parts (eqb (bit_and outer small) outer) (eqb (bit_and small set) small && is_model_of_reduct rules set small) w.2 in
      let more = and_parts (eqb (bit_and small set) small) (is_model_of_reduct rules set small) tests.1 in (
        small,
        covers_back outer small (eqb-true (bit_and outer small) outer tests.0),
        covers_back small set (eqb-true (bit_and small set) small more.0),
        (λ e. let below = below_count 0 set w.0 w.1 in omega arith),
        more.1,
      )

  -- they are the other models between the outer move and the set
  pub other-smaller : has_other_model rules set outer set ≡ has_smaller_model rules outer set
  other-smaller =
      same_test (has_other_model rules set outer set) (has_smaller_model rules outer set)
      (λ h.
      let w = other_model rules set outer set h in
      any_from (is_model_between rules outer set) (numbers_from 0 set) w.0
      (number_at 0 set w.0 w.0 (omega arith) (less_part w.0 set w.2 w.3))
      (and_from (eqb (bit_and outer w.0) outer) (eqb (bit_and w.0 set) w.0 && is_model_of_reduct rules set w.0)
      (eq-eqb (bit_and outer w.0) outer (covers outer w.0 w.1))
      (and_from (eqb (bit_and w.0 set) w.0) (is_model_of_reduct rules set w.0)
      (eq-eqb (bit_and w.0 set) w.0 (covers w.0 set w.2)) w.4)))
      (λ h.
      let w = smaller_model h in other_from rules set outer set w.0 w.1 w.2 w.3 w.4)
