use Rattle.std.proofs.Common.{◌∙◌}
use Rattle.asp_bits.specs.Places.{true_places}
use Rattle.asp_reduct.proofs.Truths.{ascends-true_from}
use Rattle.asp_bounds.proofs.Denying.{first-counted, first-ascends}
use Rattle.asp_bounds.proofs.meeting.unmet_bound.Goals as goal

pub high_clause-requires-clause-counted : goal.high_clause-requires-clause-counted
high_clause-requires-clause-counted c = λ a i.
    first-counted (true_places c.args.set.now) c.args.bound.now c.as_slice-2.result.now c.in-Some.most a (c.as_slice-2.ensures.value ∙ c.in_ok-atoms.ensures) i

pub high_clause-requires-clause-ascending : goal.high_clause-requires-clause-ascending
high_clause-requires-clause-ascending c =
    first-ascends (true_places c.args.set.now) c.args.bound.now c.as_slice-2.result.now c.in-Some.most (ascends-true_from 0 c.args.set.now)
    (c.as_slice-2.ensures.value ∙ c.in_ok-atoms.ensures)
