use Rattle.std.proofs.Common.{length, take}
use Rattle.asp_completion.specs.Levels.{game_at, rules_at}
use Rattle.asp_completion.specs.Chains.{AreHeads}
use Rattle.asp_completion.proofs.Linking.{wanted_so_far}
use Rattle.asp_completion.proofs.heads.add_heads.Given as goal

-- the rule was put before those of the atoms so far
abbrev pub invariant-loop-atom : goal.invariant-loop-atom
invariant-loop-atom l =
    AreHeads (rules_at l.level) (length (game_at l.level).bases.atoms)
    (wanted_so_far (rules_at l.level) l.place (take l.atom-index l.atoms)) l.heads.chains.items l.heads.links.items
