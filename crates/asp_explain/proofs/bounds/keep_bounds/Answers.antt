use Rattle.asp_bits.specs.Places.{true_places}
use Rattle.asp_defs.specs.Bounds.{bound_atoms}
use Rattle.asp_explain.specs.Resting.{is_kept}
use Rattle.asp_explain.proofs.Marking.{kept-grows, achieves_more}
use Rattle.asp_explain.proofs.bounds.keep_bounds.Goals as goal

pub loop-bound-preserved : goal.loop-bound-preserved
loop-bound-preserved c =
    achieves_more (λ C b. is_kept (true_places c.args.outer.now) C (true_places c.args.set.now) b) bound_atoms (true_places c.args.outer.now) c.args.bounds.now
    c.loop-bound.bound-index c.bound-item.result c.bound-item.result c.args.marks.now c.loop-bound.marks c.keep_bound.new.marks
    (kept-grows (true_places c.args.outer.now) (true_places c.args.set.now)) c.loop-bound-test.true c.bound-item.is c.loop-bound.invariant c.keep_bound.ensures
