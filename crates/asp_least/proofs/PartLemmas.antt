-- Parts of what is left.
use Rattle.std.proofs.Common.{◌≡◌, ℕ, ◌<◌, Bool, true, false, List, [], ◌++◌, length, set, replicate, inl, inr, Some, sym, ap, ◌∙◌, subst, arith, zero, suc, nat_lt, refl}
use Rattle.std.specs.Prelude.{slice_set}
use Rattle.std.specs.List.{find, slice_get}
use Rattle.std.proofs.lemmas.Bool.{cases_eq, ltb-true}
use Rattle.std.proofs.lemmas.List.{length-set, length-replicate, get_or-set_other}
use Rattle.asp_bits.specs.Places.{true_from, true_places}
use Rattle.asp_reduct.specs.Bounds.{is_rule_below}
use Rattle.asp_reduct.proofs.Truths.{holds-read, holds-true_places}
use Rattle.asp_reduct.proofs.Finding.{found_at}
use Rattle.asp_defs.specs.declared.ground.GroundRule.{GroundRule}
use Rattle.asp_defs.specs.Lists.{IsIn}
use Rattle.asp_defs.specs.Interpretations.{holds}
use Rattle.asp_defs.specs.Games.{rule_atoms}
use Rattle.asp_defs.proofs.Lists.{all_at, append_left, append_right}
use Rattle.asp_defs.proofs.Subsets.{true_is_not_false}
use Rattle.asp_least.specs.Parts.{IsPartOf}

-- one more atom that is left
pub part-more : (left small now : List Bool) (a : ℕ) (there : Bool) → IsPartOf left small → slice_get left a ≡ Some there → there ≡ true
    → now ≡ slice_set small a true → IsPartOf left now
part-more left small now a there part read yes_left is = record {
  as_many = ap length is ∙ length-set small a true ∙ part.as_many;
  inside = λ b h.
      elim (cases_eq b a) [
        | inl e ↦ subst (λ (c : ℕ). holds (true_places left) c ≡ true) (sym e) (holds-read left a there read ∙ yes_left)
        | inr other ↦
            part.inside b
            (holds-true_places small b ∙ sym (get_or-set_other small a b true false other) ∙ sym (holds-true_places (set small a true) b)
            ∙ sym (ap (λ v. holds (true_places v) b) is) ∙ h)
      ];
}

blank-from : (first n : ℕ) → true_from first (replicate n false) ≡ []
blank-from first zero = refl
blank-from first (suc n) = blank-from (suc first) n

pub part-none : (left small : List Bool) (n : ℕ) → n ≡ length left → small ≡ replicate n false → IsPartOf left small
part-none left small n count is = record {
  as_many = ap length is ∙ length-replicate n false ∙ count;
  inside = λ a h.
      absurd (true_is_not_false (holds (true_places small) a) h
      (ap (λ vs. holds (true_places vs) a) is ∙ ap (λ (ps : List ℕ). holds ps a) (blank-from 0 n)));
}

-- an atom of a positive body that was found is one of the places
pub found-low : (L : List ℕ) (r : GroundRule) (atoms : List ℕ) (a count k : ℕ) → atoms ≡ r.pos → Some a ≡ find (holds L) atoms → is_rule_below count r ≡ true
    → k ≡ count → a < k
found-low L r atoms a count k atoms_are is below same =
    let here : IsIn a r.pos = subst (λ (xs : List ℕ). IsIn a xs) atoms_are ((found_at (holds L) atoms a is).0) in
    let low : a < count =
    ltb-true a count (all_at (λ b. nat_lt b count) (rule_atoms r) a below (append_right r.head (r.pos ++ r.neg) a (append_left r.pos r.neg a here))) in
    omega (arith, low, same)
