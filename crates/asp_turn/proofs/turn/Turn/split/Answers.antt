use Rattle.std.proofs.Common.{rules}
use Rattle.asp_turn.proofs.Keeps.{splits}
use Rattle.asp_turn.proofs.turn.Turn.split.Goals as goal

pub split_seat-place-requires : goal.split_seat-place-requires
split_seat-place-requires g c = (search rules, search rules, splits _ _ _ _ _)
