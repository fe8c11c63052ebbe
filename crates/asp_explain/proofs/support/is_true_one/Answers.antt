use Rattle.std.proofs.Common.{◌&&◌, sym, ap, ◌∙◌}
use Rattle.std.specs.Bool.{beq}
use Rattle.asp_explain.proofs.Marking.{true_one-read}
use Rattle.asp_explain.proofs.support.is_true_one.Goals as goal

pub returns-then-value : goal.returns-then-value
returns-then-value c =
    sym (ap (λ t. t && beq c.get-place.result c.args.wanted) c.if-value.true)
    ∙ true_one-read c.args.set.now c.args.founded.now c.args.atom c.args.wanted c.get-value.result c.get-place.result c.get-value.ensures c.get-place.ensures

pub returns-else-value : goal.returns-else-value
returns-else-value c =
    c.if-value.false ∙ (sym (ap (λ t. t && beq c.get-place.result c.args.wanted) c.if-value.false)
    ∙ true_one-read c.args.set.now c.args.founded.now c.args.atom c.args.wanted c.get-value.result c.get-place.result c.get-value.ensures c.get-place.ensures)
