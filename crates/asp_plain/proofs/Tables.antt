-- Tables over all sets of a base.
use Rattle.std.proofs.Common.{◌≡◌, ◌+◌, ◌<◌, ℕ, Bool, true, false, not, ◌&&◌, List, ◌++◌, length, get_or, take, drop, replicate, refl, ap, ◌∙◌, arith}
use Rattle.std.specs.Int.RustNames.{bit_and, bit_or}
use Rattle.std.proofs.lemmas.Nat.{and_le_r}
use Rattle.std.proofs.lemmas.Bool.{eq-eqb}
use Rattle.std.proofs.lemmas.List.{length-replicate, get_or-replicate, take_at}
use Rattle.asp_plain.specs.declared.masks.MaskedRule.{MaskedRule}
use Rattle.asp_plain.specs.declared.bounds.MaskedBound.{MaskedBound}
use Rattle.asp_plain.specs.Masks.{is_model_of_reduct, has_other_model, has_smaller_model}
use Rattle.asp_plain.specs.MaskedBounds.{meets_all, is_bounded_answer}
use Rattle.asp_plain.specs.Cubes.{in_cube, Sifted, is_beaten}
use Rattle.asp_plain.proofs.Between.{other-smaller}

-- what is written back to a table that keeps its length
pub written : (old new : List Bool) (count : ℕ) → length new ≡ count → take count (new ++ drop (length new) old) ≡ new
written old new count long = take_at new (drop (length new) old) count long

-- it has a place for the base
pub has_base : (base : ℕ) (table : List Bool) → table ≡ replicate (base + 1) true → base < length table
has_base base table full =
    let same = ap (λ (xs : List Bool). length xs) full in
    let long = length-replicate (base + 1) true in
    omega arith

-- the sets that are left of all are the answer sets
-- m: a model; b: it meets the bounds; l: no smaller model beats it
met_last : (m b l : Bool) → ((m && b) && l) ≡ ((m && l) && b)
met_last true true true = refl
met_last true true false = refl
met_last true false true = refl
met_last true false false = refl
met_last false b l = refl

module _ (rules : List MaskedRule) (bounds : List MaskedBound) (lower base : ℕ) (old kept middle new : List Bool)
    (full : old ≡ replicate (base + 1) true) (models : Sifted 0 base (λ s. is_model_of_reduct rules s s) old kept)
    (met : Sifted 0 base (meets_all bounds) kept middle)
    (others : Sifted 0 base (λ s. not (is_beaten rules lower 0 base s)) middle new) where
  pub answered : (s : ℕ) → bit_and s base ≡ s → get_or new s false ≡ is_bounded_answer rules bounds (bit_and s lower) s
  answered s part =
      let le = and_le_r s base in
      let within : in_cube 0 base s ≡ true = eq-eqb (bit_or 0 (bit_and s base)) s part in
      let there : get_or old s false ≡ true =
      ap (λ (xs : List Bool). get_or xs s false) full ∙ get_or-replicate (base + 1) s true false (omega arith) in
      let beaten : is_beaten rules lower 0 base s ≡ has_smaller_model rules (bit_and s lower) s =
      ap (λ (m : ℕ). has_other_model rules s (bit_and m lower) m) part ∙ other-smaller rules (bit_and s lower) s in
      others.inside s within
      ∙ (ap (λ (t : Bool). t && not (is_beaten rules lower 0 base s))
      (met.inside s within
      ∙ ap (λ (t : Bool). t && meets_all bounds s) (models.inside s within ∙ ap (λ (t : Bool). t && is_model_of_reduct rules s s) there))
      ∙ (met_last (is_model_of_reduct rules s s) (meets_all bounds s) (not (is_beaten rules lower 0 base s))
      ∙ ap (λ (t : Bool). (is_model_of_reduct rules s s && not t) && meets_all bounds s) beaten))
