use Rattle.std.proofs.Common.{get_or, length}
use Rattle.asp_reduct.proofs.Truths.{get_or-member}
use Rattle.asp_bounds.proofs.Marking.{fits_in, places-none, places-more, places-all}
use Rattle.asp_bounds.proofs.denials.places.Goals as goal

pub loop-atom-init : goal.loop-atom-init
loop-atom-init c = places-none c.args.count c.in_ok-marks.marks c.in_ok-marks.ensures

pub set-requires : goal.set-requires
set-requires c =
    fits_in (get_or c.args.atoms.now c.loop-atom.atom-index 0) c.args.count (length c.loop-atom.marks)
    (c.requires (get_or c.args.atoms.now c.loop-atom.atom-index 0) (get_or-member c.args.atoms.now c.loop-atom.atom-index 0 c.loop-atom-test.true))
    c.loop-atom.invariant.as_many

pub loop-atom-preserved : goal.loop-atom-preserved
loop-atom-preserved c =
    places-more c.args.count c.args.atoms.now c.loop-atom.atom-index c.loop-atom.marks c.set.new.self c.loop-atom-test.true c.requires
    c.set.ensures c.loop-atom.invariant

pub returns : goal.returns
returns c = places-all c.args.count c.args.atoms.now c.loop-atom.atom-index c.loop-atom.marks c.loop-atom-test.false c.loop-atom.invariant
