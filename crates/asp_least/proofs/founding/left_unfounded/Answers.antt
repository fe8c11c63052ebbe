use Rattle.asp_bits.specs.Places.{true_places}
use Rattle.asp_least.proofs.FoundedAtoms.{left-all}
use Rattle.asp_least.proofs.founding.left_unfounded.Goals as goal

pub returns : goal.returns
returns c =
    left-all (true_places c.args.set.now) c.args.rules.now c.args.part.now c.in_ok-left.left c.found_all.new.left c.in_ok-left.ensures c.found_all.ensures
