use Rattle.std.proofs.Common.{◌∙◌, sym, ap, List, ◌++◌}
use Rattle.std.proofs.lemmas.Result.{IfOk-equal}
use Rattle.asp_defs.specs.declared.ground.Bound.{Bound}
use Rattle.asp_defs.specs.declared.syntax.Element.{Element}
use Rattle.asp_defs.specs.declared.syntax.Head.{Head}
use Rattle.asp_defs.specs.declared.syntax.Head.TheVariants.{Choice}
use Rattle.asp_defs.specs.declared.syntax.Literal.{Literal}
use Rattle.asp_ground.specs.BoundTemplates.{head_bounds_by, compiled_bounds}
use Rattle.asp_ground.proofs.bounds.add_rule_bounds.Goals as goal

pub returns-in-Choice : goal.returns-in-Choice
returns-in-Choice c =
    let v = c.args.vocabulary.now in
    let universe = c.args.universe.now in
    let low = c.in-Choice.low in
    let high = c.in-Choice.high in
    IfOk-equal c.add_head.result c.add_head.new.out
    (c.args.out.now ++ head_bounds_by v universe (Choice low c.as_slice-elements.result.now high) c.as_slice-body.result.now)
    (c.args.out.now ++ compiled_bounds v universe c.args.rule.now)
    c.add_head.ensures
    (ap (λ (bs : List Bound). c.args.out.now ++ bs)
    (ap (λ (elements : List Element). head_bounds_by v universe (Choice low elements high) c.as_slice-body.result.now) c.as_slice-elements.ensures
    ∙ (ap (λ (body : List Literal). head_bounds_by v universe (Choice low c.in-Choice.elements high) body) c.as_slice-body.ensures
    ∙ ap (λ (head : Head). head_bounds_by v universe head c.args.rule.now.body) (sym c.in-Choice.is))))
