use Rattle.asp_entry.proofs.Truths.{lit_true-read}
use Rattle.asp_entry.proofs.cube.is_true.Goals as goal

pub returns : goal.returns
returns c = lit_true-read c.args.set.now c.args.lit.now c.get.result c.get.ensures
