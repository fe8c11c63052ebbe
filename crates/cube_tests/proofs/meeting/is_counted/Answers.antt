use Rattle.std.proofs.Common.{◌&&◌, sym, ap, ◌∙◌}
use Rattle.std.specs.List.{list_any}
use Rattle.asp_bits.specs.Places.{true_places}
use Rattle.asp_defs.specs.Bounds.{counts}
use Rattle.asp_reduct.proofs.Truths.{holds-read}
use Rattle.cube_tests.proofs.meeting.is_counted.Goals as goal

pub returns-then-inside : goal.returns-then-inside
returns-then-inside c =
    c.is_of_one-of_one.ensures
    ∙ sym (ap (λ t. t && list_any (counts (true_places c.args.set.now) c.args.atom) c.args.terms.now)
    (holds-read c.args.set.now c.args.atom c.get-inside.result c.get-inside.ensures ∙ c.if-inside.true))

pub returns-else-inside : goal.returns-else-inside
returns-else-inside c =
    c.if-inside.false
    ∙ sym (ap (λ t. t && list_any (counts (true_places c.args.set.now) c.args.atom) c.args.terms.now)
    (holds-read c.args.set.now c.args.atom c.get-inside.result c.get-inside.ensures ∙ c.if-inside.false))
