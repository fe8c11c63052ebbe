use Rattle.std.proofs.Common.{length, List, ℕ, subst}
use Rattle.asp_bits.specs.Places.{true_places}
use Rattle.asp_defs.specs.Bounds.{counted_atoms}
use Rattle.asp_defs.specs.Lists.{IsIn}
use Rattle.asp_reduct.proofs.Truths.{ascends-true_from}
use Rattle.asp_bounds.specs.Denials.{ArePlaces}
use Rattle.asp_bounds.proofs.Marking.{counted-below, fits_in}
use Rattle.asp_bounds.proofs.Denying.{low-clause}
use Rattle.asp_bounds.proofs.meeting.low_clause.Goals as goal

pub places-requires : goal.places-requires
places-requires c = λ a i.
    fits_in a (length c.args.set.now) c.len.result
    (counted-below c.args.set.now c.args.bound.now a (subst (λ (xs : List ℕ). IsIn a xs) c.requires.counted i)) c.len.ensures

pub add_reasons-requires-clause-settled : goal.add_reasons-requires-clause-settled
add_reasons-requires-clause-settled c =
    subst (λ (n : ℕ). ArePlaces n (counted_atoms (true_places c.args.set.now) c.args.bound.now) c.in_ok-settled.settled) c.len.ensures
    (subst (λ (xs : List ℕ). ArePlaces c.len.result xs c.in_ok-settled.settled) c.requires.counted c.in_ok-settled.ensures)

pub returns : goal.returns
returns c =
    low-clause c.args.bound.now (true_places c.args.set.now) c.add_reasons.new.clause.items c.from_vec.result (ascends-true_from 0 c.args.set.now)
    c.from_vec.ensures c.requires.few c.in_ok-add_reasons.ensures
