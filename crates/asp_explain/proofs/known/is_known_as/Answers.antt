use Rattle.std.proofs.Common.{◌&&◌, sym, ap, ◌∙◌}
use Rattle.asp_bits.specs.Places.{true_places}
use Rattle.asp_explain.proofs.Marking.{known_as-read}
use Rattle.asp_explain.proofs.known.is_known_as.Goals as goal

pub returns-then-value-truth : goal.returns-then-value-truth
returns-then-value-truth c =
    sym (ap (λ t. t && c.is_known-known.result) c.if-value-truth.true)
    ∙ known_as-read c.args.set.now (true_places c.args.outer.now) (true_places c.args.marks.now) c.args.atom c.args.truth c.get-value.result c.is_known-known.result c.get-value.ensures c.is_known-known.ensures

pub returns-else-value-truth : goal.returns-else-value-truth
returns-else-value-truth c =
    c.if-value-truth.false ∙ (sym (ap (λ t. t && c.is_known-known.result) c.if-value-truth.false)
    ∙ known_as-read c.args.set.now (true_places c.args.outer.now) (true_places c.args.marks.now) c.args.atom c.args.truth c.get-value.result c.is_known-known.result c.get-value.ensures c.is_known-known.ensures)
