use Rattle.std.proofs.Common.{length}
use Rattle.asp_bits.specs.Places.{true_places}
use Rattle.asp_explain.proofs.FoundedAtoms.{more_rule, founds-low}
use Rattle.asp_explain.proofs.founding.found_rule.Goals as goal

pub set-requires : goal.set-requires
set-requires c =
    founds-low (true_places c.args.set.now) (true_places c.args.founded.now) c.args.rule.now c.in_ok-atom.atom (length c.args.outer.now) (length c.args.founded.now)
    c.requires.below c.in_ok-atom.ensures c.requires.founded

pub returns : goal.returns
returns c =
    more_rule (true_places c.args.outer.now) (true_places c.args.set.now) c.args.rule.now c.in_ok-atom.atom c.args.marks.now c.args.founded.now c.mark_rule.new.marks c.set.new.self
    (founds-low (true_places c.args.set.now) (true_places c.args.founded.now) c.args.rule.now c.in_ok-atom.atom (length c.args.outer.now) (length c.args.founded.now)
    c.requires.below c.in_ok-atom.ensures c.requires.founded)
    c.in_ok-atom.ensures c.mark_rule.ensures c.set.ensures
