use Rattle.std.proofs.Common.{ℕ, ℤ, ◌≡◌, ◌∙◌, ap, map, rules, arith}
use Rattle.std.proofs.lemmas.Int.{to_z-of_z}
use mir.Syntax.{w32}
use mir.Val.{of_z, to_z}
use Rattle.asp_defs.specs.declared.ground.Const.TheVariants as const
use Rattle.asp_defs.specs.Constants.{integers_from, interval_length}
use Rattle.asp_template.specs.Ranks.{rank_of}
use Rattle.asp_template.proofs.Integers.{passed, integers_step}
use Rattle.asp_template.proofs.facts.interval_ranks.Goals as goal

pub loop-step-preserved : goal.loop-step-preserved
loop-step-preserved c =
    integers_step (λ (x : ℤ). rank_of c.args.constants.now (const.Int x)) _ c.loop-step.step _ _ c.rank_of.result c.loop-step.invariant c.in_ok-push.ensures.items
    (passed (λ (x : ℤ). rank_of c.args.constants.now (const.Int x)) c.stepped-value.result c.rank_of.result (search rules) c.rank_of.ensures
    ∙ ap (λ (x : ℤ). rank_of c.args.constants.now (const.Int x)) c.stepped-value.ensures)

pub returns : goal.returns
returns c =
    let length : c.interval_length-step-end.result ≡ interval_length c.args.low c.args.high =
    passed (λ (z : ℤ). interval_length z c.args.high) c.args.low c.interval_length-step-end.result c.ranges.low
    (passed (λ (z : ℤ). interval_length (to_z w32 (of_z w32 c.args.low)) z) c.args.high c.interval_length-step-end.result c.ranges.high c.interval_length-step-end.ensures) in
    let steps : c.loop-step.step ≡ interval_length c.args.low c.args.high = omega (arith, length) in
    c.loop-step.invariant
    ∙ (ap (λ (z : ℤ). map (λ (x : ℤ). rank_of c.args.constants.now (const.Int x)) (integers_from z c.loop-step.step)) (to_z-of_z w32 c.args.low c.ranges.low)
    ∙ ap (λ (n : ℕ). map (λ (x : ℤ). rank_of c.args.constants.now (const.Int x)) (integers_from c.args.low n)) steps)
