use Rattle.std.proofs.Common.{sym}
use Rattle.asp_bits.proofs.Packed.{length-truth_values}
use Rattle.asp_bits.proofs.Bits.len.Goals as goal

pub returns : goal.returns
returns c = rw (← c.self.view_is) (sym (length-truth_values _ _))
