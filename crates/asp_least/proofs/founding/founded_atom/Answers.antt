use Rattle.std.proofs.Common.{sym, ◌∙◌}
use Rattle.asp_bits.specs.Places.{true_places}
use Rattle.asp_least.proofs.FoundedAtoms.{founds-from}
use Rattle.asp_least.proofs.founding.founded_atom.Goals as goal

pub returns : goal.returns
returns c =
    founds-from (true_places c.args.set.now) (true_places c.args.left.now) c.args.rule.now c.as_slice.result.now c.left_head.result
    c.as_slice.ensures (sym c.any_true.ensures ∙ c.if-any_true.false) c.left_head.ensures
