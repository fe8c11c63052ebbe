use Rattle.std.proofs.Common.{length, ℕ, subst}
use Rattle.asp_bits.specs.Places.{true_places}
use Rattle.asp_bounds.specs.Denials.{ArePlaces}
use Rattle.asp_bounds.proofs.Marking.{counted-below, fits_in}
use Rattle.asp_bounds.proofs.Denying.{high-clause}
use Rattle.asp_bounds.proofs.meeting.high_clause.Goals as goal

pub places-requires : goal.places-requires
places-requires c = λ a i.
    fits_in a (length c.args.set.now) c.len.result (counted-below c.args.set.now c.args.bound.now a (c.requires.counted a i)) c.len.ensures

pub add_atoms-requires-clause-wanted : goal.add_atoms-requires-clause-wanted
add_atoms-requires-clause-wanted c = subst (λ (n : ℕ). ArePlaces n c.args.atoms.now c.in_ok-wanted.wanted) c.len.ensures c.in_ok-wanted.ensures

pub returns : goal.returns
returns c =
    high-clause c.args.bound.now (true_places c.args.set.now) c.args.atoms.now c.add_atoms.new.clause.items c.from_vec.result c.from_vec.ensures
    c.requires.ascending c.requires.many c.in_ok-add_atoms.ensures
