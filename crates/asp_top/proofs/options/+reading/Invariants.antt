use Rattle.std.proofs.Common.{length}
use Rattle.asp_top.proofs.options.+reading.Given as goal

abbrev pub decreases-read_options : goal.decreases-read_options
decreases-read_options l = length l.words.now

abbrev pub decreases-read_value : goal.decreases-read_value
decreases-read_value l = length l.words.now
