use Rattle.std.proofs.Common.{sym, ◌∙◌}
use Rattle.asked_moves.proofs.Moving.{on_base}
use Rattle.asked_moves.proofs.asked.keep.Goals as goal

pub keep-requires : goal.keep-requires
keep-requires c =
    on_base c.args.answers.now.moves c.args.game.now c.args.level c.base.result.now c.args.cube.now c.requires.game c.requires.level
    c.base.ensures (sym c.are_in.ensures ∙ c.if-not-are_in.false)
