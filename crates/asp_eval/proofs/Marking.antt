-- The outer atoms of a body as marks.
use Rattle.std.proofs.Common.{◌≡◌, ap, ◌∙◌, subst, ℕ, Bool, false, ◌&&◌, ◌||◌, List, ◌++◌, length, replicate}
use Rattle.std.proofs.lemmas.List.{length-replicate}
use Rattle.asp_bits.specs.Places.{true_places}
use Rattle.asp_defs.specs.declared.ground.GroundRule.{GroundRule}
use Rattle.asp_defs.specs.Interpretations.{holds}
use Rattle.asp_entry.specs.Marks.{Marks}
use Rattle.asp_entry.proofs.Marking.{blank, marks_then}
use Rattle.asp_eval.specs.Covers.{IsOuterBody}

pub outer_body_is : (B : List ℕ) (r : GroundRule) (count n : ℕ) (pos neg : List ℕ) (before middle now : List Bool) → pos ≡ r.pos → neg ≡ r.neg → before ≡ replicate n false → n ≡ count
    → Marks (holds B) pos before middle → Marks (holds B) neg middle now → IsOuterBody B r count now
outer_body_is B r count n pos neg before middle now pos_is neg_is is same first second =
    let marks =
    marks_then (holds B) r.pos r.neg before middle now
    (subst (λ (xs : List ℕ). Marks (holds B) xs before middle) pos_is first)
    (subst (λ (xs : List ℕ). Marks (holds B) xs middle now) neg_is second) in
    record {
      as_many = marks.as_many ∙ (ap length is ∙ (length-replicate n false ∙ same));
      each = λ a.
          marks.each a
          ∙ ap (λ t. t || (holds B a && holds (r.pos ++ r.neg) a)) (ap (λ values. holds (true_places values) a) is ∙ blank n a);
    }
