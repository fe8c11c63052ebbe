use Rattle.std.proofs.Common.{◌∙◌, min, ap}
use Rattle.asp_completion.specs.declared.heads.Chain.{Chain}
use Rattle.asp_completion.specs.Supporters.{body_size, ways}
use Rattle.asp_completion.specs.Chains.{rules_along}
use Rattle.asp_defs.specs.declared.ground.GroundRule.{GroundRule}
use Rattle.asp_completion.proofs.Chaining.{some_from, ways-cons}
use Rattle.asp_completion.proofs.bodies.+ways.Goals as goal

pub returns : goal.returns
returns t c =
    let l = c.args.level.now in
    let heads = c.args.heads.now in
    c.product.ensures
    ∙ ways-cons l heads c.args.chain c.body_size-size.result c.ways-ways.result (some_from c.args.chain.count c.if-chain-eq0.false)
    (c.body_size-size.ensures ∙ ap (λ (r : GroundRule). body_size r) c.first-rule.ensures)
    (c.ways-ways.ensures ∙ ap (λ (k : Chain). min 65 (ways (rules_along l heads k))) c.rest-others.ensures)
