use Rattle.std.proofs.Common.{◌∙◌, ◌-◌, ap, false, map, length}
use Rattle.asp_safety.specs.Variables.{term_of}
use Rattle.asp_template.specs.Compiled.{compiled}
use Rattle.asp_ground.proofs.Rooms.{element_over}
use Rattle.asp_ground.proofs.bounds.element_template_of.Goals as goal

pub returns : goal.returns
returns c =
    element_over c.args.vocabulary.now c.args.body.now c.args.element.now c.as_slice-variables.result.now c.disjunctive_variables.result.items
    c.saturating_sub-own.result c.in_ok-atom.atom c.in_ok-cond.cond c.new-none.result
    (ap (map term_of) c.as_slice-variables.ensures.value ∙ c.bound_variables-found.ensures)
    c.disjunctive_variables.ensures
    (c.saturating_sub-own.ensures ∙ ap (λ n. length c.as_slice-variables.result.now - n) c.len-of_body.ensures.value)
    c.in_ok-atom.ensures
    c.new-none.ensures
    (c.in_ok-cond.ensures ∙ ap (compiled c.args.vocabulary.now (map term_of c.as_slice-variables.result.now) false c.new-none.result) c.as_slice-literals.ensures)
