use Rattle.std.proofs.Common.{length, refl, sym, ◌∙◌}
use Rattle.asp_bits.specs.Places.{true_places}
use Rattle.asp_explain.proofs.Deriving.{bound_blocked, bound_failed, bound_known, false-below}
use Rattle.asp_explain.proofs.Marking.{marks-atoms}
use Rattle.asp_explain.proofs.bounds.keep_bound.Goals as goal

pub returns-then-is_blocked : goal.returns-then-is_blocked
returns-then-is_blocked c =
    bound_blocked (true_places c.args.outer.now) (true_places c.args.set.now) c.args.bound.now c.as_slice.result.now c.as_slice-2.result.now
    c.args.marks.now c.args.marks.now c.as_slice.ensures c.as_slice-2.ensures refl (sym c.is_blocked.ensures ∙ c.if-is_blocked.true)

pub mark-requires-clause-below : goal.mark-requires-clause-below
mark-requires-clause-below c =
    false-below (true_places c.args.set.now) c.args.bound.now c.as_slice-3.result.now c.as_slice-4.result.now c.in-Some.atom (length c.args.outer.now)
    c.as_slice-3.ensures c.as_slice-4.ensures c.requires.below c.in-Some.ensures

pub returns-in-Some : goal.returns-in-Some
returns-in-Some c =
    bound_failed (true_places c.args.outer.now) (true_places c.args.set.now) c.args.bound.now c.as_slice-3.result.now c.as_slice-4.result.now c.in-Some.atom
    c.args.marks.now c.mark.new.marks c.as_slice-3.ensures c.as_slice-4.ensures c.in-Some.ensures (marks-atoms (true_places c.args.outer.now) c.mark.ensures)

pub returns-in-None : goal.returns-in-None
returns-in-None c =
    bound_known (true_places c.args.outer.now) (true_places c.args.set.now) c.args.bound.now c.args.marks.now c.mark_bound.new.marks c.mark_bound.ensures
