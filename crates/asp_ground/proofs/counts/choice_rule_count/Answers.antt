use Rattle.std.proofs.Common.{◌∙◌, ◌^◌, sym, ◌||◌, [], length}
use Rattle.std.specs.Prelude.{is_some}
use Rattle.std.specs.List.{sum_by}
use Rattle.asp_template.specs.Variables.{disjunctive_variables, element_variables}
use Rattle.asp_ground.proofs.Rooms.{unbounded_count, bounded_count}
use Rattle.asp_ground.proofs.counts.choice_rule_count.Goals as goal

pub returns-then-not-has_bound : goal.returns-then-not-has_bound
returns-then-not-has_bound c =
    unbounded_count (sum_by (λ e. c.args.size ^ length (element_variables c.args.body.now e)) c.args.elements.now)
    (c.args.size ^ length (disjunctive_variables [] c.args.body.now)) (is_some c.args.low || is_some c.args.high)
    c.elements_count-instances.result (sym c.has_bound.ensures ∙ c.if-not-has_bound.true) c.elements_count-instances.ensures

pub returns : goal.returns
returns c =
    bounded_count (sum_by (λ e. c.args.size ^ length (element_variables c.args.body.now e)) c.args.elements.now)
    (c.args.size ^ length (disjunctive_variables [] c.args.body.now)) (is_some c.args.low || is_some c.args.high)
    c.elements_count-instances.result c.bound_count.result c.sum.result
    (sym c.has_bound.ensures ∙ c.if-not-has_bound.false) c.elements_count-instances.ensures c.bound_count.ensures c.sum.ensures
