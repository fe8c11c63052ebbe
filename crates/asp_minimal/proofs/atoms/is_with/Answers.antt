use Rattle.std.proofs.Common.{◌&&◌, sym, ap, ◌∙◌}
use Rattle.asp_minimal.specs.Numbers.{has_value}
use Rattle.asp_minimal.proofs.Places.{with-read, beq-value}
use Rattle.asp_minimal.proofs.atoms.is_with.Goals as goal

pub returns-then-inside : goal.returns-then-inside
returns-then-inside c =
    beq-value c.get-covered.result c.args.value
    ∙ sym (ap (λ t. t && has_value c.args.value c.get-covered.result) c.if-inside.true)
    ∙ with-read c.args.set.now c.args.part.now c.args.atom c.args.value c.get-inside.result c.get-covered.result c.get-inside.ensures c.get-covered.ensures

pub returns-else-inside : goal.returns-else-inside
returns-else-inside c =
    c.if-inside.false ∙ sym (ap (λ t. t && has_value c.args.value c.get-covered.result) c.if-inside.false)
    ∙ with-read c.args.set.now c.args.part.now c.args.atom c.args.value c.get-inside.result c.get-covered.result c.get-inside.ensures c.get-covered.ensures
