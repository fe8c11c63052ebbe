use Rattle.std.proofs.Common.{sym, ◌∙◌}
use Rattle.asp_bits.specs.Places.{true_places}
use Rattle.asp_least.proofs.FoundedAtoms.{only-true}
use Rattle.asp_least.proofs.heads.only_true.Goals as goal

pub returns-then-no_other : goal.returns-then-no_other
returns-then-no_other c =
    only-true (true_places c.args.set.now) c.args.atoms.now c.in_ok-atom.atom c.in_ok-atom.ensures (sym c.no_other.ensures ∙ c.if-no_other.true)
