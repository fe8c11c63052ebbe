use Rattle.std.proofs.Common.{length}
use Rattle.asp_bits.specs.Places.{true_places}
use Rattle.asp_eval.proofs.Deciding.{judgement}
use Rattle.asp_eval.proofs.judged.evaluate.Goals as goal

pub returns : goal.returns
returns c =
    judgement c.args.game.now (true_places c.args.set.now) (length c.args.set.now) c.in_ok-decided.decided.verdict c.in_ok-decided.decided.atoms c.in_ok-cube.cube
    c.requires.set c.in_ok-decided.ensures c.in_ok-cube.ensures.lits
