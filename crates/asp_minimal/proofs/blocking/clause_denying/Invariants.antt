use Rattle.std.proofs.Common.{map, take}
use Rattle.asp_bits.specs.Places.{true_places}
use Rattle.asp_minimal.specs.Nogoods.{denied, BlocksAll}
use Rattle.asp_minimal.proofs.blocking.clause_denying.Given as goal

-- the clause blocks the rules so far
abbrev pub invariant-loop-rule : goal.invariant-loop-rule
invariant-loop-rule l =
    BlocksAll l.rules (take l.rule-index l.rules) (true_places l.set) (true_places l.part) (true_places l.outer) (map denied l.atoms) l.clause.items
