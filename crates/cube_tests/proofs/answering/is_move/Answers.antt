use Rattle.std.proofs.Common.{length, sym, ◌∙◌}
use Rattle.asp_explain.proofs.Cubing.{outer-below, base-below, rules-below, bounds-below}
use Rattle.cube_tests.proofs.MoveLaws.{outer-subset, base-subset, move-is}
use Rattle.cube_tests.proofs.answering.is_move.Goals as goal

pub places-requires : goal.places-requires
places-requires c =
    outer-below c.args.game.now c.args.level c.base_of.result.now c.len.result (length c.args.set.now) c.requires.valid c.requires.last
    c.base_of.ensures c.len.ensures c.requires.set_length

pub places-requires-2 : goal.places-requires-2
places-requires-2 c =
    base-below c.args.game.now c.args.level c.base_of-2.result.now c.len-2.result (length c.args.set.now) c.requires.valid c.requires.last
    c.base_of-2.ensures c.len-2.ensures c.requires.set_length

pub are_satisfied-requires : goal.are_satisfied-requires
are_satisfied-requires c =
    rules-below c.args.game.now c.args.level c.level_rules-rules.result.now (length c.args.set.now) c.requires.valid c.requires.first c.requires.last
    c.level_rules-rules.ensures c.requires.set_length

pub are_met-requires : goal.are_met-requires
are_met-requires c =
    bounds-below c.args.game.now c.args.level c.level_bounds.result.now (length c.args.set.now) c.requires.valid c.requires.first c.requires.last
    c.level_bounds.ensures c.requires.set_length

pub are_founded-requires-clause-below : goal.are_founded-requires-clause-below
are_founded-requires-clause-below c =
    rules-below c.args.game.now c.args.level c.level_rules-rules.result.now (length c.in-Ok.outer) c.requires.valid c.requires.first c.requires.last
    c.level_rules-rules.ensures (c.in-Ok.ensures.as_many ∙ (c.len.ensures ∙ c.requires.set_length))

pub returns-clause-outer : goal.returns-clause-outer
returns-clause-outer c =
    λ _. outer-subset c.args.game.now c.args.level c.base_of.result.now c.len.result c.args.outer_move.now c.in-Ok.outer c.base_of.ensures c.in-Ok.ensures
    (c.is_over.ensures.outer c.if-not-is_over.false)

pub returns-clause-over : goal.returns-clause-over
returns-clause-over c =
    λ _. base-subset c.args.game.now c.args.level c.base_of-2.result.now c.len-2.result c.args.set.now c.in-Ok-places.over c.base_of-2.ensures c.in-Ok-places.ensures
    (c.is_over.ensures.over c.if-not-is_over.false)

pub returns-clause-is_move : goal.returns-clause-is_move
returns-clause-is_move c =
    λ h. move-is c.args.game.now c.args.level c.base_of.result.now c.base_of-2.result.now c.len.result c.len-2.result c.args.outer_move.now c.args.set.now c.in-Ok.outer
    c.in-Ok-places.over c.level_rules-rules.result.now c.level_bounds.result.now c.requires.valid c.requires.last c.base_of.ensures c.base_of-2.ensures c.in-Ok.ensures
    c.in-Ok-places.ensures c.level_rules-rules.ensures c.level_bounds.ensures (c.is_over.ensures.outer c.if-not-is_over.false)
    (c.is_over.ensures.over c.if-not-is_over.false) (c.is_over.ensures.alike c.if-not-is_over.false) (sym c.are_satisfied.ensures ∙ c.if-not-are_satisfied.false)
    (sym c.are_met.ensures ∙ c.if-not-are_met.false) (c.are_founded.ensures h)
