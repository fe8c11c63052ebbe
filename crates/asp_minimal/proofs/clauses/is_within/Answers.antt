use Rattle.asp_bits.specs.Places.{true_places}
use Rattle.asp_minimal.proofs.Leaving.{none_outside}
use Rattle.asp_minimal.proofs.clauses.is_within.Goals as goal

pub returns : goal.returns
returns c =
    none_outside (true_places c.args.set.now) (true_places c.args.part.now) c.args.atoms.now c.first_with.result c.is_none.result c.first_with.ensures c.is_none.ensures
