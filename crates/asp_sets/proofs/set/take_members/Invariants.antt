use Rattle.std.proofs.Common.{◌≡◌, length, drop}
use Rattle.asp_bits.specs.Places.{true_places}
use Rattle.asp_sets.specs.Taking.{Takes, member_text}
use Rattle.asp_sets.proofs.set.take_members.Given as goal

-- the numbers from the place on are taken off
abbrev pub invariant-loop-at : goal.invariant-loop-at
invariant-loop-at l = record {
  taken : Takes (member_text l.atoms) l.text (drop l.at l.base) l.left (true_places l.set);
  long : length l.set ≡ length l.atoms;
}
