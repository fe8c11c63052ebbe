use Rattle.std.proofs.Common.{arith}
use Rattle.asp_ground.specs.BoundTemplates.{element_template}
use Rattle.asp_template.proofs.Steps.{maps_item, maps_all}
use Rattle.asp_ground.proofs.bounds.element_templates.Goals as goal

pub loop-element-preserved : goal.loop-element-preserved
loop-element-preserved c =
    maps_item (element_template c.args.vocabulary.now c.args.body.now) c.args.elements.now c.loop-element.element-index c.element-item.result c.loop-element.templates.items c.push.new.self.items c.in_ok-element_template_of.field-0
    (omega arith) c.element-item.is c.loop-element.invariant c.in_ok-push.ensures.items c.in_ok-element_template_of.ensures

pub returns : goal.returns
returns c =
    maps_all (element_template c.args.vocabulary.now c.args.body.now) c.args.elements.now c.loop-element.element-index c.loop-element.templates.items c.from_vec.result
    (omega arith) c.from_vec.ensures c.loop-element.invariant
