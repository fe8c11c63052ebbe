use Rattle.asp_bits.specs.Places.{true_places}
use Rattle.asp_defs.specs.Interpretations.{holds}
use Rattle.asp_entry.proofs.Marking.{marks_more}
use Rattle.asp_entry.proofs.marks.mark_all.Goals as goal

pub loop-atom-preserved : goal.loop-atom-preserved
loop-atom-preserved c =
    marks_more (holds (true_places c.args.outer.now)) c.args.atoms.now c.loop-atom.atom-index 0 c.args.marks.now c.loop-atom.marks
    c.mark.new.marks c.loop-atom-test.true c.loop-atom.invariant c.mark.ensures
