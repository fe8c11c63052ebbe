use Rattle.std.proofs.Common.{length}
use Rattle.asp_bits.specs.Places.{true_places}
use Rattle.asp_explain.proofs.Cubing.{move-cube}
use Rattle.asp_explain.proofs.cube.move_cube.Goals as goal

pub returns : goal.returns
returns c =
    move-cube c.args.game.now c.args.level c.args.won.now (true_places c.args.outer_move.now) (true_places c.args.set.now) (length c.args.set.now) c.in_ok-marks.marks _
    c.requires.valid c.requires.first c.requires.last c.requires.set c.requires.won c.in_ok-marks.ensures c.in_ok-cube.ensures.lits
