use Rattle.std.proofs.Common.{length, take}
use Rattle.asp_completion.specs.Levels.{game_at}
use Rattle.asp_completion.specs.Chains.{AreLower}
use Rattle.asp_completion.proofs.heads.lower_table.Given as goal

-- the atoms so far are there
abbrev pub invariant-loop-atom : goal.invariant-loop-atom
invariant-loop-atom l = AreLower (take l.atom-index l.base) (length (game_at l.level).bases.atoms) l.table.items
