use Rattle.std.proofs.Common.{ℕ, Bool, false, ◌&&◌, List, get_or, map, ap, ◌∙◌}
use Rattle.std.specs.Int.RustNames.{bit_and}
use Rattle.asp_plain.specs.declared.bounds.MaskedBound.{MaskedBound}
use Rattle.asp_plain.specs.declared.masks.MaskedRule.{MaskedRule}
use Rattle.asp_plain.specs.Masks.{mask_of, masked}
use Rattle.asp_plain.specs.MaskedBounds.{masked_bound, meets_all, is_bounded_answer}
use Rattle.asp_plain.proofs.Known.{answer-members}
use Rattle.asp_plain.proofs.masks.masked_level.Goals as goal

pub returns : goal.returns
returns c = record {
  own = c.in_ok-own.ensures;
  answers = λ set inside.
      ap (λ (table : List Bool). get_or table set false) c.from_vec.ensures
      ∙ c.in_ok-answers.ensures set (ap (bit_and set) c.mask-2.ensures ∙ inside)
      ∙ ap (λ (taken : ℕ). is_bounded_answer c.as_slice.result.now c.as_slice-2.result.now (bit_and set taken) set) c.mask.ensures
      ∙ ap (λ (rules : List MaskedRule). is_bounded_answer rules c.as_slice-2.result.now (bit_and set (mask_of c.args.lower.now)) set) c.as_slice.ensures.value
      ∙ ap (λ (bounds : List MaskedBound). is_bounded_answer c.in_ok-rules.rules.items bounds (bit_and set (mask_of c.args.lower.now)) set) (c.as_slice-2.ensures.value ∙ c.in_ok-bounds.ensures)
      ∙ ap (λ (t : Bool). t && meets_all (map masked_bound c.args.bounds.now) set)
      (answer-members c.in_ok-rules.rules.items (map masked c.args.rules.now) (bit_and set (mask_of c.args.lower.now)) set c.in_ok-rules.ensures);
}
