use Rattle.std.proofs.Common.{◌∙◌, ap}
use Rattle.asp_bits.specs.Places.{true_places}
use Rattle.asp_defs.specs.Interpretations.{holds}
use Rattle.asked_moves.proofs.Moving.{cube_more}
use Rattle.asked_moves.proofs.questions.put_literal.Goals as goal

pub returns : goal.returns
returns c =
    cube_more c.args.base.now (true_places c.args.set.now) c.args.cube.now.items c.push.new.self.items c.literal.result c.in_ok-push.ensures.items
    c.requires.cube c.literal.ensures.is (ap (holds c.args.base.now) c.literal.ensures.atom ∙ c.requires.member)
