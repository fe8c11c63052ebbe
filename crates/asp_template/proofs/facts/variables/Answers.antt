use Rattle.std.proofs.Common.{◌∙◌, sym, ap, ◌++◌, ◌∷◌, []}
use Rattle.asp_template.specs.declared.template.Slot.TheVariants.{Variable}
use Rattle.asp_template.proofs.Steps.{mapped_numbers_more}
use Rattle.asp_template.proofs.facts.variables.Goals as goal

pub loop-place-preserved : goal.loop-place-preserved
loop-place-preserved c =
    c.in_ok-push.ensures.items
    ∙ (ap (λ slots. slots ++ Variable c.loop-place.place ∷ []) c.loop-place.invariant
    ∙ sym (mapped_numbers_more Variable c.loop-place.place))
