use Rattle.std.proofs.Common.{take}
use Rattle.std.specs.List.{list_all}
use Rattle.asp_bits.specs.Places.{true_places}
use Rattle.asp_minimal.specs.Demands.{allows, Demands}
use Rattle.asp_minimal.proofs.clauses.add_rules.Given as goal

-- the demands of the rules so far
abbrev pub invariant-loop-rule : goal.invariant-loop-rule
invariant-loop-rule l =
    Demands l.fn.search l.search (λ v. list_all (allows (true_places l.set) (true_places l.part) l.numbers v) (take l.rule-index l.rules))
