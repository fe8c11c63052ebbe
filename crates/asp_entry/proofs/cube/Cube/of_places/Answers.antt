use Rattle.asp_bits.specs.Places.{true_places}
use Rattle.asp_entry.proofs.CubeLiterals.{literals-ascend}
use Rattle.asp_entry.proofs.cube.Cube.of_places.Goals as goal

pub invariant_of-result : goal.invariant_of-result
invariant_of-result c = literals-ascend (true_places c.args.set.now) c.args.atoms.now c.in_ok-lits.lits.items c.in_ok-lits.ensures

pub returns-clause-ascending : goal.returns-clause-ascending
returns-clause-ascending c = literals-ascend (true_places c.args.set.now) c.args.atoms.now c.in_ok-lits.lits.items c.in_ok-lits.ensures
