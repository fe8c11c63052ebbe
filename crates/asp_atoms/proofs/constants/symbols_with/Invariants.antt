use Rattle.std.proofs.Common.{◌≡◌, ◌++◌, map, take}
use Rattle.std.specs.List.{flat_map}
use Rattle.asp_atoms.specs.Universes.{term_symbols}
use Rattle.asp_atoms.proofs.constants.symbols_with.Given as goal

abbrev pub invariant-loop-term : goal.invariant-loop-term
invariant-loop-term l = map (λ s. s.now) l.symbols.items ≡ map (λ s. s.now) l.before ++ flat_map term_symbols (map (λ t. t.now) (take l.term-index l.terms))
