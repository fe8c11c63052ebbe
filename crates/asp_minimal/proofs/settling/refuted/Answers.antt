use Rattle.asp_bits.specs.Places.{true_places}
use Rattle.asp_minimal.proofs.Settled.{refutes-larger}
use Rattle.asp_minimal.proofs.settling.refuted.Goals as goal

pub returns-in-Some : goal.returns-in-Some
returns-in-Some c =
    refutes-larger c.args.rules.now (true_places c.args.set.now) (true_places c.in_ok-small.small) (true_places c.args.left.now) c.in-Some.atoms
    c.in_ok-small.ensures.inside (rw c.in-Some.is at c.in_ok-few.ensures)
