use Rattle.asp_turn.specs.Seats.{IsSeatOf, HoldsNothing}
use Rattle.turn_tests.proofs.turns.add_all.Given as goal

abbrev pub invariant-loop-number : goal.invariant-loop-number
invariant-loop-number g l = record {
  own : IsSeatOf l.turn l.seat;
  free : HoldsNothing l.seat;
}
