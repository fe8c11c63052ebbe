use Rattle.std.proofs.Common.{not, ◌&&◌, sym, ap, ◌∙◌}
use Rattle.asp_bits.specs.Places.{true_places}
use Rattle.asp_defs.specs.Interpretations.{holds}
use Rattle.asp_reduct.proofs.Truths.{holds-read}
use Rattle.cube_tests.proofs.answering.is_lacking.Goals as goal

pub returns-then-inside : goal.returns-then-inside
returns-then-inside c =
    ap not (sym (holds-read c.args.other.now c.args.atom c.get-also.result c.get-also.ensures))
    ∙ sym (ap (λ t. t && not (holds (true_places c.args.other.now) c.args.atom))
    (holds-read c.args.set.now c.args.atom c.get-inside.result c.get-inside.ensures ∙ c.if-inside.true))

pub returns-else-inside : goal.returns-else-inside
returns-else-inside c =
    c.if-inside.false
    ∙ sym (ap (λ t. t && not (holds (true_places c.args.other.now) c.args.atom))
    (holds-read c.args.set.now c.args.atom c.get-inside.result c.get-inside.ensures ∙ c.if-inside.false))
