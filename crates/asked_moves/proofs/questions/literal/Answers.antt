use Rattle.std.proofs.Common.{refl}
use Rattle.asp_bits.specs.Places.{true_places}
use Rattle.asp_reduct.proofs.Truths.{holds-read}
use Rattle.asked_moves.proofs.Moving.{is_true}
use Rattle.asked_moves.proofs.questions.literal.Goals as goal

pub returns-clause-is : goal.returns-clause-is
returns-clause-is c = is_true (true_places c.args.set.now) _ c.get.result refl (holds-read c.args.set.now _ c.get.result c.get.ensures)
