-- Sets of atoms of a base.
use Rattle.std.proofs.Common.{◌≡◌, sym, ap, ◌∙◌, subst, ℕ, ◌<◌, inl, inr, Bool, true, false, eqb, List, length, get_or, replicate}
use Rattle.std.specs.Prelude.{slice_set}
use Rattle.asp_bits.specs.Places.{true_places}
use Rattle.asp_reduct.proofs.Truths.{get_or-member, ascends-true_from}
use Rattle.asp_defs.specs.Interpretations.{holds}
use Rattle.asp_defs.specs.Games.{ascends, within, is_subset}
use Rattle.asp_defs.proofs.Lists.{and_true, either, all_from}
use Rattle.asp_defs.proofs.Subsets.{true_is_not_false, holds_from}
use Rattle.asp_eval.specs.Covering.{IsWithin}
use Rattle.asp_entry.proofs.Marking.{holds-set, same_number, blank}

pub within_none : (B : List ℕ) (n : ℕ) (values : List Bool) → values ≡ replicate n false → IsWithin (true_places values) B
within_none B n values is a i = absurd (true_is_not_false (holds (true_places values) a) i (ap (λ vs. holds (true_places vs) a) is ∙ blank n a))

pub within_with : (B : List ℕ) (place d : ℕ) (values now : List Bool) → place < length B → get_or B place d < length values → IsWithin (true_places values) B
    → now ≡ slice_set values (get_or B place d) true → IsWithin (true_places now) B
within_with B place d values now h low inside is a i =
    elim (either (eqb (get_or B place d) a) (holds (true_places values) a)
    (sym (ap (λ vs. holds (true_places vs) a) is ∙ holds-set values (get_or B place d) a low) ∙ i)) [
      | inl e ↦ subst (λ (b : ℕ). holds B b ≡ true) (same_number (get_or B place d) a e) (holds_from B (get_or B place d) (get_or-member B place d h))
      | inr old ↦ inside a old
    ]

pub subset_within : (B : List ℕ) (values : List Bool) → IsWithin (true_places values) B → is_subset (true_places values) B ≡ true
subset_within B values inside =
    and_true (ascends (true_places values)) (within (true_places values) B) (ascends-true_from 0 values)
    (all_from (holds B) (true_places values) (λ a i. inside a (holds_from (true_places values) a i)))
