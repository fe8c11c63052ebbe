use Rattle.std.proofs.Common.{refl}
use Rattle.asp_bits.specs.Places.{true_places}
use Rattle.asp_explain.proofs.Deriving.{false_found, false_second}
use Rattle.asp_explain.proofs.rules.false_atom.Goals as goal

pub returns-in-Some : goal.returns-in-Some
returns-in-Some c = false_found (true_places c.args.set.now) c.args.pos.now c.args.neg.now c.in-Some.atom _ c.in-Some.ensures refl

pub returns-in-None : goal.returns-in-None
returns-in-None c = false_second (true_places c.args.set.now) c.args.pos.now c.args.neg.now c.first_true.result c.in-None.ensures c.first_true.ensures
