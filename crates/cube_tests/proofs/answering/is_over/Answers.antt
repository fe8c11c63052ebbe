use Rattle.std.proofs.Common.{length, refl}
use Rattle.asp_explain.proofs.Cubing.{outer-below}
use Rattle.cube_tests.proofs.answering.is_over.Goals as goal

pub are_alike-requires-clause-below : goal.are_alike-requires-clause-below
are_alike-requires-clause-below c =
    outer-below c.args.game.now c.args.level c.base_of.result.now (length c.args.outer_move.now) (length c.args.outer_move.now) c.requires.valid c.requires.last
    c.base_of.ensures refl c.requires.outer_length
