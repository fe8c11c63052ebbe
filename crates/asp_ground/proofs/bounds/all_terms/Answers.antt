use Rattle.std.proofs.Common.{[], arith}
use Rattle.asp_ground.specs.BoundTemplates.{terms_at}
use Rattle.asp_template.proofs.Steps.{grows_item}
use Rattle.asp_ground.proofs.bounds.all_terms.Goals as goal

pub loop-element-preserved : goal.loop-element-preserved
loop-element-preserved c =
    grows_item (terms_at c.args.size c.args.universe.now c.args.ranks.now) [] c.loop-element.terms c.add_element.new.out c.args.elements.now c.loop-element.element-index c.element-item.result (omega arith) c.element-item.is c.loop-element.invariant c.in_ok-add_element.ensures
