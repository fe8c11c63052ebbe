-- The models among the sets of a cube, by the rules that are left.
use Rattle.std.proofs.Common.{◌≡◌, ℕ, Bool, true, false, List, [], sym, ap, ◌∙◌}
use Rattle.std.specs.Prelude.{Contains}
use Rattle.std.specs.List.{list_any}
use Rattle.std.specs.Int.RustNames.{bit_and, bit_or, bit_xor}
use Rattle.asp_plain.specs.declared.masks.MaskedRule.{MaskedRule}
use Rattle.asp_plain.specs.Masks.{HaveSameMembers, IsBitOf, is_model_of_reduct}
use Rattle.asp_plain.specs.Cubes.{rule_atoms, is_bare, left_of, Sifted, is_spared}
use Rattle.asp_plain.proofs.Beaten.{one_open}
use Rattle.asp_plain.proofs.Beside.{or-within}
use Rattle.asp_plain.proofs.Cubes.{IsBit-within, sifted_none, sifted_same, sifted_halves, half_without, half_with}
use Rattle.asp_plain.proofs.LeftRules.{models_left, bare_broken}

-- what is left of the rules, as a slice
module _ (rules left items : List MaskedRule) (set rest : ℕ) (members : HaveSameMembers left (left_of set set rest rest rules))
    (are : items ≡ left) where
  -- an atom of one of them is open
  pub one_left : (rule : MaskedRule) (atoms b : ℕ) → Contains items rule → atoms ≡ rule_atoms rule → IsBitOf atoms b → IsBitOf rest b
  one_left rule atoms b there is one =
      IsBit-within (bit_or rest rest) rest b (or-within rest rest rest (λ a e. e) (λ a e. e))
      (one_open rules left 0 set set rest rest members rule items atoms b are there is one)

  -- no rule is left: each set of the cube is a model
  pub all_models : items ≡ [] → (table : List Bool) → Sifted set rest (λ s. is_model_of_reduct rules s s) table table
  all_models none table =
      sifted_none set rest (λ s. is_model_of_reduct rules s s) table (λ s within there.
      sym (models_left rules left set set rest rest members s s within within)
      ∙ ap (λ (rs : List MaskedRule). is_model_of_reduct rs s s) (sym are ∙ none))

  -- what the two halves keep by the rules that are left, the cube keeps by the rules
  pub models_halves : (b : ℕ) → bit_and set rest ≡ 0 → IsBitOf rest b → (again : List MaskedRule) → again ≡ left
      → (old middle new : List Bool)
      → Sifted set (bit_xor rest b) (λ s. is_model_of_reduct items s s) old middle
      → Sifted (bit_or set b) (bit_xor rest b) (λ s. is_model_of_reduct again s s) middle new
      → Sifted set rest (λ s. is_model_of_reduct rules s s) old new
  models_halves b apart one again are_again old middle new without with_one =
      sifted_halves set rest b apart one (λ s. is_model_of_reduct items s s) (λ s. is_model_of_reduct again s s)
      (λ s. is_model_of_reduct rules s s) old middle new without with_one
      (λ s within.
      let whole = (half_without set rest b apart one s within).0 in
      sym (models_left rules left set set rest rest members s s whole whole)
      ∙ ap (λ (rs : List MaskedRule). is_model_of_reduct rs s s) (sym are))
      (λ s within.
      let whole = (half_with set rest b apart one s within).0 in
      sym (models_left rules left set set rest rest members s s whole whole)
      ∙ ap (λ (rs : List MaskedRule). is_model_of_reduct rs s s) (sym are_again))

-- where a rule without atoms is left, none of the sets is a model
pub no_models : (rules : List MaskedRule) (set rest : ℕ) → list_any is_bare (left_of set set rest rest rules) ≡ true
    → (old new : List Bool) → Sifted set rest (is_spared false 0 set rest) old new
    → Sifted set rest (λ s. is_model_of_reduct rules s s) old new
no_models rules set rest bare old new sifted =
    sifted_same sifted (λ s within. sym (bare_broken rules set set rest rest bare s s within within))
