use Rattle.std.proofs.Common.{ℕ, sym, subst}
use Rattle.std.specs.Prelude.{IsTrue}
use Rattle.asp_bits.specs.Places.{true_places}
use Rattle.asp_reduct.specs.Bounds.{is_rule_below}
use Rattle.asp_minimal.proofs.Reasons.{chosen_outer, chosen_other}
use Rattle.asp_minimal.proofs.blocking.chosen_reason.Goals as goal

pub outer_reason-requires-clause-below : goal.outer_reason-requires-clause-below
outer_reason-requires-clause-below c = subst (λ (n : ℕ). IsTrue (is_rule_below n c.args.rule.now)) (sym c.requires.outer_length) c.requires.below

pub outer_reason-requires-clause-same_length : goal.outer_reason-requires-clause-same_length
outer_reason-requires-clause-same_length c = sym c.requires.outer_length

pub returns-in-Some : goal.returns-in-Some
returns-in-Some c =
    chosen_outer (true_places c.args.set.now) (true_places c.args.part.now) (true_places c.args.outer.now) c.args.rule.now c.in-Some.lit c.in-Some.ensures

pub returns : goal.returns
returns c =
    chosen_other (true_places c.args.set.now) (true_places c.args.part.now) (true_places c.args.outer.now) c.args.rule.now c.reason.result
    c.in_default.ensures c.reason.ensures
