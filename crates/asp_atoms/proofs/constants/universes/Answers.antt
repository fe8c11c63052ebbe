use Rattle.std.proofs.Common.{◌+◌, List, map, arith, Bor}
use Rattle.asp_defs.specs.declared.syntax.Rule.{Rule}
use Rattle.asp_defs.specs.Constants.{rule_constants}
use Rattle.asp_atoms.specs.Universes.{constants_of, universe_to}
use Rattle.asp_atoms.proofs.Orders.{const_lawful}
use Rattle.asp_atoms.proofs.Levels.{value_long, level_step}
use Rattle.asp_atoms.proofs.constants.universes.Goals as goal

pub index-requires : goal.index-requires
index-requires c =
    let l = value_long constants_of (universe_to (map (λ (r : Bor (List Rule)). r.now) c.args.levels.now)) c.loop-at.universes.items (c.loop-at.at + 1) c.loop-at.invariant in
    let o = c.loop-at.universes.ok in
    omega (arith, l, o)

pub loop-at-preserved : goal.loop-at-preserved
loop-at-preserved c =
    level_step const_lawful rule_constants constants_of c.args.levels.now c.loop-at.at c.loop-at.universes.items c.push-in-loop-at.new.self.items
    c.index-levels-at.result c.index.result.now c.in_ok-next.next (omega arith) c.index-levels-at.is c.loop-at.invariant c.index.ensures
    c.in_ok-next.ensures c.in_ok-push-2.ensures.items
