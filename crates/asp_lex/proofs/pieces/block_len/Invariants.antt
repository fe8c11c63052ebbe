use Rattle.std.proofs.Common.{◌≡◌, false, drop}
use Rattle.asp_lex.specs.Fronts.{close_of}
use Rattle.asp_lex.proofs.pieces.block_len.Given as goal

abbrev pub invariant-loop-at : goal.invariant-loop-at
invariant-loop-at l = close_of false 0 l.bytes ≡ close_of l.star l.at (drop l.at l.bytes)
