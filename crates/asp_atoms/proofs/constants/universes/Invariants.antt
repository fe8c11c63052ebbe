use Rattle.std.proofs.Common.{◌≡◌, ◌+◌, map}
use Rattle.asp_defs.specs.Lists.{numbers_from}
use Rattle.asp_atoms.specs.Universes.{constants_of, universe_to}
use Rattle.asp_atoms.proofs.constants.universes.Given as goal

abbrev pub invariant-loop-at : goal.invariant-loop-at
invariant-loop-at l = map constants_of l.universes.items ≡ map (universe_to (map (λ r. r.now) l.levels)) (numbers_from 0 (l.at + 1))
