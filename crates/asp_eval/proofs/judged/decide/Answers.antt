use Rattle.std.proofs.Common.{length, ◌∙◌}
use Rattle.asp_bits.specs.Places.{true_places}
use Rattle.asp_eval.proofs.Deciding.{constraints_below, outer_below, outer_within, rule_below, broken_decides, covering_decides}
use Rattle.asp_eval.proofs.judged.decide.Goals as goal

pub places-requires : goal.places-requires
places-requires c =
    outer_below c.args.game.now c.outer_atoms.result.now (length c.args.set.now) c.len.result c.requires.valid c.outer_atoms.ensures c.len.ensures c.requires.length

pub fewest_broken-requires-clause-below : goal.fewest_broken-requires-clause-below
fewest_broken-requires-clause-below c =
    constraints_below c.args.game.now c.constraints-rules.result.now (length c.args.set.now) c.requires.valid c.constraints-rules.ensures c.requires.length

pub outer_body-requires : goal.outer_body-requires
outer_body-requires c =
    rule_below c.constraints-rules.result.now c.in-Some.broken.rule (length c.args.set.now) (length c.in_ok-outer.outer) c.index-rules-broken.result
    (constraints_below c.args.game.now c.constraints-rules.result.now (length c.args.set.now) c.requires.valid c.constraints-rules.ensures c.requires.length)
    c.in-Some.ensures.inside c.index-rules-broken.is (c.in_ok-outer.ensures.as_many ∙ c.len.ensures)

pub returns-in-Some : goal.returns-in-Some
returns-in-Some c =
    broken_decides c.args.game.now (true_places c.args.set.now) c.outer_atoms.result.now c.len.result c.in_ok-outer.outer c.constraints-rules.result.now
    c.in-Some.broken.rule (length c.args.set.now) (length c.in_ok-outer.outer) c.index-rules-broken.result c.in_ok-atoms.atoms c.requires.valid c.requires.set
    c.constraints-rules.ensures c.outer_atoms.ensures c.in_ok-outer.ensures c.in-Some.ensures c.index-rules-broken.is
    (c.in_ok-outer.ensures.as_many ∙ c.len.ensures) c.in_ok-atoms.ensures

pub covering_atoms-requires-clause-below : goal.covering_atoms-requires-clause-below
covering_atoms-requires-clause-below c =
    constraints_below c.args.game.now c.constraints-rules.result.now (length c.args.set.now) c.requires.valid c.constraints-rules.ensures c.requires.length

pub covering_atoms-requires-clause-inside : goal.covering_atoms-requires-clause-inside
covering_atoms-requires-clause-inside c =
    outer_within c.args.game.now (true_places c.args.set.now) c.outer_atoms.result.now c.len.result c.in_ok-outer.outer c.requires.set c.outer_atoms.ensures c.in_ok-outer.ensures

pub returns : goal.returns
returns c =
    covering_decides c.args.game.now (true_places c.args.set.now) c.outer_atoms.result.now c.len.result c.in_ok-outer.outer c.constraints-rules.result.now
    (length c.args.set.now) c.in_ok-atoms-2.atoms c.requires.valid c.constraints-rules.ensures c.outer_atoms.ensures c.in_ok-outer.ensures c.in_ok-atoms-2.ensures
