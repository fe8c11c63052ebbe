use Rattle.std.proofs.Common.{not, ◌||◌, sym, ap, ◌∙◌}
use Rattle.asp_explain.proofs.Marking.{known-read}
use Rattle.asp_explain.proofs.known.is_known.Goals as goal

pub returns-then-not-lower : goal.returns-then-not-lower
returns-then-not-lower c =
    ap not c.if-not-lower.true ∙ (sym (ap (λ t. not t || c.get-marked.result) c.if-not-lower.true)
    ∙ known-read c.args.outer.now c.args.marks.now c.args.atom c.get-lower.result c.get-marked.result c.get-lower.ensures c.get-marked.ensures)

pub returns-else-not-lower : goal.returns-else-not-lower
returns-else-not-lower c =
    sym (ap (λ t. not t || c.get-marked.result) c.if-not-lower.false)
    ∙ known-read c.args.outer.now c.args.marks.now c.args.atom c.get-lower.result c.get-marked.result c.get-lower.ensures c.get-marked.ensures
