use Rattle.std.proofs.Common.{not, ap, ◌∙◌}
use Rattle.asp_bits.specs.Places.{true_places}
use Rattle.asp_reduct.proofs.Truths.{none-any}
use Rattle.cube_tests.proofs.meeting.none_true.Goals as goal

pub returns : goal.returns
returns c = ap not c.any_true.ensures ∙ none-any (true_places c.args.set.now) c.args.atoms.now
