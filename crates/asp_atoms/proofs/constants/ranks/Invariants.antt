use Rattle.std.proofs.Common.{◌≡◌, map, take}
use Rattle.asp_atoms.specs.Vocabularies.{const_rank}
use Rattle.asp_atoms.proofs.constants.ranks.Given as goal

abbrev pub invariant-loop-constant : goal.invariant-loop-constant
invariant-loop-constant l = l.ranks.items ≡ map (const_rank l.all) (take l.constant-index l.constant-items)
