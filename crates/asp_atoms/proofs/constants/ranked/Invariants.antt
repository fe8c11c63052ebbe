use Rattle.std.proofs.Common.{◌≡◌, map, take}
use Rattle.asp_atoms.specs.Universes.{constants_of}
use Rattle.asp_atoms.specs.Vocabularies.{const_rank}
use Rattle.asp_atoms.proofs.constants.ranked.Given as goal

abbrev pub invariant-loop-constants : goal.invariant-loop-constants
invariant-loop-constants l = l.out.items ≡ map (map (const_rank l.all)) (map constants_of (take l.constants-index l.universes))
