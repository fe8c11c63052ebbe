use Rattle.asp_bits.proofs.Packed.{SetsBit-or, SetsBit-and}
use Rattle.asp_bits.proofs.with_bit.Goals as goal

pub returns-then-value : goal.returns-then-value
returns-then-value c = rw c.if-value.true (SetsBit-or c.args.word c.args.bit c.requires)

pub returns-else-value : goal.returns-else-value
returns-else-value c = rw c.if-value.false (SetsBit-and c.args.word c.args.bit c.requires)
