use Rattle.std.proofs.Common.{◌∙◌, refl, ap, List, ◌++◌, map, length}
use Rattle.std.proofs.lemmas.Result.{IfOk-equal}
use Rattle.asp_defs.specs.declared.ground.Bound.{Bound}
use Rattle.asp_safety.specs.Variables.{term_of}
use Rattle.asp_template.specs.Ranks.{capped}
use Rattle.asp_ground.specs.BoundTemplates.{bounds_over, choice_bounds}
use Rattle.asp_ground.proofs.Rooms.{make_bound, choice_over}
use Rattle.asp_ground.proofs.bounds.add_choice.Goals as goal

pub returns : goal.returns
returns c =
    let variables = c.as_slice-variables.result.now in
    IfOk-equal c.add_all_bounds.result c.add_all_bounds.new.out
    (c.args.out.now ++ bounds_over c.capped-size.result c.args.universe.now (make_bound c.args.low c.args.high c.in_ok-template.template c.in_ok-elements.elements) (length variables))
    (c.args.out.now ++ choice_bounds c.args.vocabulary.now c.args.universe.now c.args.low c.args.elements.now c.args.high c.args.body.now)
    c.add_all_bounds.ensures
    (ap (λ (bs : List Bound). c.args.out.now ++ bs)
    (choice_over c.args.vocabulary.now c.args.universe.now c.args.low c.args.elements.now c.args.high c.args.body.now variables c.in_ok-template.template c.new-none.result c.in_ok-elements.elements c.capped-size.result (length variables)
    (ap (map term_of) c.as_slice-variables.ensures.value ∙ c.disjunctive_variables-found.ensures)
    c.new-none.ensures
    c.in_ok-template.ensures
    c.in_ok-elements.ensures
    (c.capped-size.ensures ∙ ap capped c.len.ensures)
    refl))
