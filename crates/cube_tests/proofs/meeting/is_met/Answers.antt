use Rattle.std.proofs.Common.{length}
use Rattle.asp_explain.proofs.Deriving.{terms_below}
use Rattle.cube_tests.proofs.meeting.is_met.Goals as goal

pub count_of-count-requires : goal.count_of-count-requires
count_of-count-requires c = terms_below (length c.args.set.now) c.args.bound.now c.as_slice-2.result.now c.as_slice-2.ensures c.requires
