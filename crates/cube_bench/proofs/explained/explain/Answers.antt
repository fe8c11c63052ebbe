use Rattle.std.proofs.Common.{ap, ◌∙◌, length, arith}
use Rattle.asp_explain.proofs.Cubing.{rules-below}
use Rattle.cube_bench.proofs.explained.explain.Goals as goal

pub derive_all-requires : goal.derive_all-requires
derive_all-requires c =
    rules-below c.args.game.now c.len-level.result c.level_rules.result.now (length c.in-Ok.set) c.requires
    (omega (arith, c.len-level.ensures, c.requires.some_levels)) (omega (arith, c.len-level.ensures)) c.level_rules.ensures
    (ap length c.in-Ok.ensures ∙ (c.in_ok-outer_move.ensures ∙ c.len-count.ensures))
