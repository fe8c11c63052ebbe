use Rattle.std.proofs.Common.{◌≡◌, ◌≤◌}
use Rattle.asp_turn.specs.Seats.{IsSeatOf, HoldsNothing, seen_by, world_of, refused_takes}
use Rattle.asp_turn.proofs.turn.Turn.take.Given as goal

abbrev pub invariant-loop : goal.invariant-loop
invariant-loop g l = record {
  own : IsSeatOf l.self l.seat;
  free : HoldsNothing l.seat;
  world : world_of l.seat ≡ world_of l.initial.seat;
  seen : seen_by l.seat ≡ seen_by l.initial.seat;
  refused : refused_takes l.initial.seat ≤ refused_takes l.seat;
}
