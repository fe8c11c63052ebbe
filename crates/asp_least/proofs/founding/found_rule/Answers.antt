use Rattle.std.proofs.Common.{length}
use Rattle.asp_bits.specs.Places.{true_places}
use Rattle.asp_least.proofs.FoundedAtoms.{more-rule, founds-low}
use Rattle.asp_least.proofs.founding.found_rule.Goals as goal

pub set-requires : goal.set-requires
set-requires c =
    founds-low (true_places c.args.set.now) (true_places c.args.left.now) c.args.rule.now c.in_ok-atom.atom (length c.args.set.now) (length c.args.left.now)
    c.requires.below c.in_ok-atom.ensures c.requires.left

pub returns : goal.returns
returns c =
    more-rule (true_places c.args.set.now) c.args.rule.now c.in_ok-atom.atom c.args.left.now c.set.new.self
    (founds-low (true_places c.args.set.now) (true_places c.args.left.now) c.args.rule.now c.in_ok-atom.atom (length c.args.set.now) (length c.args.left.now)
    c.requires.below c.in_ok-atom.ensures c.requires.left)
    c.in_ok-atom.ensures c.set.ensures
