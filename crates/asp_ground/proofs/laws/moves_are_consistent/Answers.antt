use Rattle.asp_ground.proofs.ConsistentMoves.{moves_are_consistent}
use Rattle.asp_ground.proofs.laws.moves_are_consistent.Goals as goal

pub returns : goal.returns
returns c = moves_are_consistent
