use Rattle.std.proofs.Common.{sym, ◌∙◌}
use Rattle.asp_bits.specs.Places.{true_places}
use Rattle.asp_minimal.proofs.Reasons.{blocks_nothing}
use Rattle.asp_minimal.proofs.blocking.add_reason.Goals as goal

pub returns-then-not-concerns : goal.returns-then-not-concerns
returns-then-not-concerns c =
    blocks_nothing (true_places c.args.set.now) (true_places c.args.part.now) (true_places c.args.outer.now) c.args.rule.now c.args.clause.now.items
    (sym c.concerns.ensures ∙ c.if-not-concerns.true)
