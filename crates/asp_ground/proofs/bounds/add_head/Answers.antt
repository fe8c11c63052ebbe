use Rattle.std.proofs.Common.{◌∙◌, sym, ◌++◌, ◌||◌}
use Rattle.std.specs.Prelude.{is_some}
use Rattle.std.proofs.lemmas.Result.{IfOk-equal}
use Rattle.asp_defs.specs.declared.syntax.Head.TheVariants.{Choice}
use Rattle.asp_ground.specs.BoundTemplates.{choice_bounds, head_bounds_by}
use Rattle.asp_ground.proofs.Rooms.{no_bounds_more, bounds_more}
use Rattle.asp_ground.proofs.bounds.add_head.Goals as goal

pub returns-then-not-has_bound : goal.returns-then-not-has_bound
returns-then-not-has_bound c =
    no_bounds_more c.args.out.now (choice_bounds c.args.vocabulary.now c.args.universe.now c.args.low c.args.elements.now c.args.high c.args.body.now)
    (is_some c.args.low || is_some c.args.high) (sym c.has_bound.ensures ∙ c.if-not-has_bound.true)

pub returns : goal.returns
returns c =
    let bounds = choice_bounds c.args.vocabulary.now c.args.universe.now c.args.low c.args.elements.now c.args.high c.args.body.now in
    IfOk-equal c.add_choice.result c.add_choice.new.out
    (c.args.out.now ++ bounds)
    (c.args.out.now ++ head_bounds_by c.args.vocabulary.now c.args.universe.now (Choice c.args.low c.args.elements.now c.args.high) c.args.body.now)
    c.add_choice.ensures
    (bounds_more c.args.out.now bounds (is_some c.args.low || is_some c.args.high) (sym c.has_bound.ensures ∙ c.if-not-has_bound.false))
