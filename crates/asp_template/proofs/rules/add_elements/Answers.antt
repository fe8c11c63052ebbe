use Rattle.std.proofs.Common.{arith}
use Rattle.asp_defs.specs.declared.syntax.Element.{Element}
use Rattle.asp_template.specs.Variables.{found_element}
use Rattle.asp_template.specs.Compiled.{schema_instances}
use Rattle.asp_template.proofs.Steps.{grows_item}
use Rattle.asp_template.proofs.rules.add_elements.Goals as goal

pub loop-element-preserved : goal.loop-element-preserved
loop-element-preserved c =
    grows_item (λ (e : Element). schema_instances c.args.vocabulary.now c.args.ranks.now (found_element c.args.body.now e)) c.args.out.now c.loop-element.out c.add_element.new.out c.args.elements.now c.loop-element.element-index c.element-item.result (omega arith) c.element-item.is c.loop-element.invariant c.in_ok-add_element.ensures
