use Rattle.std.proofs.Common.{◌≡◌, true, Option, List, subst, MatchOption}
use Rattle.asp_bits.specs.Places.{true_places}
use Rattle.asp_defs.specs.declared.ground.Lit.{Lit}
use Rattle.asp_defs.specs.Bounds.{meets}
use Rattle.asp_bounds.specs.Denials.{IsBoundClause}
use Rattle.asp_bounds.proofs.Denying.{bounds-clause-read}
use Rattle.asp_bounds.proofs.meeting.unmet.Goals as goal

pub returns-in-Some : goal.returns-in-Some
returns-in-Some c =
    bounds-clause-read c.args.bounds.now c.loop-bound.bound-index c.bound-item.result (true_places c.args.set.now) c.in-Some.clause
    c.loop-bound-test.true c.bound-item.is
    (subst (λ (o : Option (List Lit)). MatchOption o (meets (true_places c.args.set.now) c.bound-item.result ≡ true)
    (IsBoundClause c.bound-item.result (true_places c.args.set.now))) c.in-Some.is c.in_ok-found.ensures)
