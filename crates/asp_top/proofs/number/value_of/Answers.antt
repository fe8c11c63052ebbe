use Rattle.std.proofs.Common.{◌+◌, ◌*◌, ◌∙◌, ap, min}
use Rattle.asp_top.proofs.Numerals.{value_more}
use Rattle.asp_top.proofs.number.value_of.Goals as goal

pub loop-digit-preserved : goal.loop-digit-preserved
loop-digit-preserved c =
    c.min-value.ensures ∙ ap (λ d. min (c.loop-digit.value * 10 + d) 1000000000000000001) c.from.ensures
    ∙ value_more c.args.digits.now c.loop-digit.digit-index c.loop-digit.value c.requires c.loop-digit-test.true c.loop-digit.invariant
