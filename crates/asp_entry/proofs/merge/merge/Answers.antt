use Rattle.std.proofs.Common.{◌≤◌, ◌⊎◌, inl, inr, length, arith}
use Rattle.asp_entry.proofs.Merging.{rests}
use Rattle.asp_entry.proofs.merge.merge.Goals as goal
use Rattle.asp_entry.proofs.merge.merge.Goals.{then-loop-mine-test+else-others-those, else-loop-mine-test}

pub returns-clause-items : goal.returns-clause-items
returns-clause-items c =
    let ended : (length c.args.these.now ≤ c.loop-mine.mine) ⊎ (length c.args.those.now ≤ c.loop-mine.others) =
    elim c.loop-mine-test.branch [
      | then-loop-mine-test+else-others-those w ↦ inr (omega (arith, w.if-others-those))
      | else-loop-mine-test w ↦ inl (omega (arith, w.loop-mine-test))
    ] in
    rests c.loop-mine.merged.items _ _ c.args.these.now c.args.those.now c.loop-mine.mine c.loop-mine.others
    c.in_ok-extend_from_slice.ensures.ok c.in_ok-extend_from_slice-2.ensures.ok ended c.loop-mine.invariant.2
