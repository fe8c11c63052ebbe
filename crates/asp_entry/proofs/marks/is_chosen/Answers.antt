use Rattle.std.proofs.Common.{◌&&◌, sym, ap, ◌∙◌}
use Rattle.asp_entry.proofs.Taking.{chosen-read}
use Rattle.asp_entry.proofs.marks.is_chosen.Goals as goal

pub returns-then-value-truth : goal.returns-then-value-truth
returns-then-value-truth c =
    sym (ap (λ t. t && c.get-picked.result) c.if-value-truth.true)
    ∙ chosen-read c.args.set.now c.args.chosen.now c.args.atom c.args.truth c.get-value.result c.get-picked.result c.get-value.ensures c.get-picked.ensures

pub returns-else-value-truth : goal.returns-else-value-truth
returns-else-value-truth c =
    c.if-value-truth.false ∙ (sym (ap (λ t. t && c.get-picked.result) c.if-value-truth.false)
    ∙ chosen-read c.args.set.now c.args.chosen.now c.args.atom c.args.truth c.get-value.result c.get-picked.result c.get-value.ensures c.get-picked.ensures)
