use Rattle.std.proofs.Common.{◌≡◌, List, ℕ, subst}
use Rattle.asp_bits.specs.Places.{true_places}
use Rattle.asp_minimal.specs.Settling.{RefutesPart}
use Rattle.asp_minimal.proofs.Settled.{founded-all, refutes-larger}
use Rattle.asp_minimal.proofs.settling.settled.Goals as goal

pub returns-in_default-clause-yes : goal.returns-in_default-clause-yes
returns-in_default-clause-yes c = λ e.
    founded-all c.args.rules.now (true_places c.args.set.now) c.args.part.now c.in_ok-left.left c.in_ok-left.ensures (rw c.in_default.is at c.first_place.ensures)

pub returns-in-Some-found-clause-no : goal.returns-in-Some-found-clause-no
returns-in-Some-found-clause-no c = λ u e.
    let same : c.in-Some-found.atoms ≡ u = cc in
    refutes-larger c.args.rules.now (true_places c.args.set.now) (true_places c.in_ok-left.left) (true_places c.args.part.now) u
    c.in_ok-left.ensures.inside
    (subst (λ (U : List ℕ). RefutesPart c.args.rules.now (true_places c.args.set.now) (true_places c.in_ok-left.left) U) same
    (rw c.in-Some-found.is at c.in_ok-found.ensures))
