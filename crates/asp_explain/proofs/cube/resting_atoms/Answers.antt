use Rattle.std.proofs.Common.{length, ◌∙◌}
use Rattle.asp_bits.specs.Places.{true_places}
use Rattle.asp_explain.proofs.Cubing.{outer-below, rules-below, bounds-below, move-model, are-resting}
use Rattle.asp_explain.proofs.cube.resting_atoms.Goals as goal

pub places-requires : goal.places-requires
places-requires c =
    outer-below c.args.game.now c.args.level c.base_of.result.now c.len.result (length c.args.set.now) c.requires.valid c.requires.last
    c.base_of.ensures c.len.ensures c.requires.set_length

pub settle-requires-clause-below : goal.settle-requires-clause-below
settle-requires-clause-below c =
    rules-below c.args.game.now c.args.level c.level_rules-rules.result.now (length c.in_ok-outer.outer) c.requires.valid c.requires.first c.requires.last
    c.level_rules-rules.ensures (c.in_ok-outer.ensures.as_many ∙ (c.len.ensures ∙ c.requires.set_length))

pub keep_bounds-requires-clause-below : goal.keep_bounds-requires-clause-below
keep_bounds-requires-clause-below c =
    bounds-below c.args.game.now c.args.level c.level_bounds.result.now (length c.in_ok-outer.outer) c.requires.valid c.requires.first c.requires.last
    c.level_bounds.ensures (c.in_ok-outer.ensures.as_many ∙ (c.len.ensures ∙ c.requires.set_length))

pub satisfy_by_few-requires-clause-below : goal.satisfy_by_few-requires-clause-below
satisfy_by_few-requires-clause-below c =
    rules-below c.args.game.now c.args.level c.level_rules-rules.result.now (length c.in_ok-outer.outer) c.requires.valid c.requires.first c.requires.last
    c.level_rules-rules.ensures (c.in_ok-outer.ensures.as_many ∙ (c.len.ensures ∙ c.requires.set_length))

pub satisfy_by_few-requires-clause-satisfied : goal.satisfy_by_few-requires-clause-satisfied
satisfy_by_few-requires-clause-satisfied c =
    move-model c.args.game.now c.args.level (true_places c.args.outer_move.now) (true_places c.args.set.now) c.level_rules-rules.result.now c.level_rules-rules.ensures c.requires.set

pub found_atoms-requires-clause-below : goal.found_atoms-requires-clause-below
found_atoms-requires-clause-below c =
    rules-below c.args.game.now c.args.level c.level_rules-rules.result.now (length c.in_ok-outer.outer) c.requires.valid c.requires.first c.requires.last
    c.level_rules-rules.ensures (c.in_ok-outer.ensures.as_many ∙ (c.len.ensures ∙ c.requires.set_length))

pub returns : goal.returns
returns c =
    are-resting c.args.game.now c.args.level c.args.won.now c.lits.result.now (true_places c.args.outer_move.now) (true_places c.args.set.now) c.base_of.result.now
    c.len.result c.len-2.result (length c.args.set.now) c.in_ok-outer.outer c.in_ok-marks.marks c.mark_literals.new.marks c.found_atoms.new.marks c.settle.new.marks c.keep_bounds.new.marks
    c.satisfy_by_few.new.marks c.in_ok-founded.founded c.found_atoms.new.founded c.level_rules-rules.result.now c.level_bounds.result.now c.requires.valid c.requires.outer c.requires.set
    c.base_of.ensures c.in_ok-outer.ensures c.in_ok-marks.ensures c.len-2.ensures c.in_ok-founded.ensures c.lits.ensures.lits c.level_rules-rules.ensures
    c.level_bounds.ensures c.mark_literals.ensures c.in_ok-found_atoms.ensures c.settle.ensures c.keep_bounds.ensures c.in_ok-satisfy_by_few.ensures
