use Rattle.std.proofs.Common.{sym, ◌∙◌}
use Rattle.std.specs.Bool.{beq}
use Rattle.std.specs.Cmp.{booleans_Decides}
use Rattle.std.proofs.lemmas.Bool.{both_ways}
use Rattle.asp_plain.proofs.Claims.{unsettled_at}
use Rattle.asp_plain.proofs.value.+claims.Goals as goal

pub returns-in-Some-split_first : goal.returns-in-Some-split_first
returns-in-Some-split_first t c =
    c.claims.ensures
    ∙ sym (unsettled_at c.args.quants.now c.args.levels.now c.in-Some.level.now c.in-Some.inner.now c.args.set
    c.in-Some-split_first.bit.now c.args.rest.now c.in-Some-split_first.others.now c.in-Some.ensures.cases.0
    c.in-Some-split_first.ensures.cases.0
    (λ e.
    both_ways (beq c.claims-without.result c.settles.result) c.if-without-settles.false
    ((booleans_Decides c.claims-without.result c.settles.result).1 (c.claims-without.ensures ∙ (e ∙ sym c.settles.ensures)))))
