use Rattle.std.proofs.lemmas.Result.{on_ok_weaker}
use Rattle.asp_bits.specs.Places.{true_places}
use Rattle.asked_moves.proofs.Moving.{blockable, asked_blocked}
use Rattle.asked_moves.proofs.asked.take.Goals as goal

pub block-requires : goal.block-requires
block-requires c =
    blockable c.args.answers.now.moves c.args.base.now (true_places c.args.set.now) c.in_ok-cube.cube.items c.as_slice.result.now
    c.as_slice.ensures.value c.requires.base c.requires.found c.in_ok-cube.ensures

pub returns : goal.returns
returns c =
    on_ok_weaker c.block.result
    (asked_blocked c.args.answers.now.moves c.block.new.self.moves (true_places c.args.set.now) c.as_slice.result.now c.requires.found)
    c.block.ensures.blocked
