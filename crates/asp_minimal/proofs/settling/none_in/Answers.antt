use Rattle.std.proofs.Common.{not, ap, ◌∙◌}
use Rattle.asp_bits.specs.Places.{true_places}
use Rattle.asp_reduct.proofs.Truths.{none-any}
use Rattle.asp_minimal.proofs.settling.none_in.Goals as goal

pub returns : goal.returns
returns c = ap not c.any_true.ensures ∙ none-any (true_places c.args.part.now) c.args.atoms.now
