use Rattle.std.proofs.Common.{◌∙◌, sym}
use Rattle.asp_bits.specs.Places.{true_places}
use Rattle.asp_explain.proofs.FoundedAtoms.{founds-from}
use Rattle.asp_explain.proofs.founding.founded_atom.Goals as goal

pub returns-in-None : goal.returns-in-None
returns-in-None c =
    founds-from (true_places c.args.set.now) (true_places c.args.founded.now) c.args.rule.now c.as_slice.result.now c.only_head_atom.result
    (sym c.body_true.ensures ∙ c.if-not-body_true.false) c.as_slice.ensures c.in-None.ensures c.only_head_atom.ensures
