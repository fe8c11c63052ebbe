use Rattle.std.proofs.Common.{◌≡◌, ◌^◌}
use Rattle.asp_atoms.specs.Tuples.{numbers_of}
use Rattle.asp_atoms.proofs.members.numbers.Given as goal

abbrev pub invariant-loop-place : goal.invariant-loop-place
invariant-loop-place l = record {
  weight : l.weight ≡ l.base ^ l._place;
  same : l.numbers.items ≡ numbers_of l.first l.base l.ranks l._place;
}
