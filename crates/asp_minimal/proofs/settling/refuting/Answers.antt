use Rattle.std.proofs.Common.{List, ℕ, sym, ◌∙◌, subst}
use Rattle.asp_bits.specs.Places.{true_places}
use Rattle.asp_minimal.specs.Settling.{RefutesPart}
use Rattle.asp_minimal.proofs.Settled.{refutes-part}
use Rattle.asp_minimal.proofs.settling.refuting.Goals as goal

pub returns : goal.returns
returns c =
    subst (λ (U : List ℕ). RefutesPart c.args.rules.now (true_places c.args.set.now) (true_places c.args.part.now) U) (sym c.in_ok-atoms.ensures)
    (refutes-part c.args.rules.now (true_places c.args.set.now) c.args.part.now c.in-Some.field-0 (rw c.in-Some.is at c.first_place.ensures)
    (sym c.is_unfounded.ensures ∙ c.if-not-is_unfounded.false))
