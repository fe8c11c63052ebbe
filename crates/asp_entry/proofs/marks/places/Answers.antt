use Rattle.std.proofs.Common.{true, arith}
use Rattle.asp_entry.proofs.Marking.{places_more, places_are, marks_all}
use Rattle.asp_entry.proofs.marks.places.Goals as goal

pub loop-atom-preserved : goal.loop-atom-preserved
loop-atom-preserved c =
    places_more c.args.atoms.now c.loop-atom.atom-index 0 c.args.count c.in_ok-places.places c.loop-atom.places c.set.new.self
    c.loop-atom-test.true c.requires c.in_ok-places.ensures c.loop-atom.invariant c.set.ensures

pub returns : goal.returns
returns c =
    places_are c.args.atoms.now c.args.count c.in_ok-places.places c.loop-atom.places c.in_ok-places.ensures
    (marks_all (λ a. true) c.args.atoms.now c.loop-atom.atom-index c.in_ok-places.places c.loop-atom.places (omega arith) c.loop-atom.invariant)
