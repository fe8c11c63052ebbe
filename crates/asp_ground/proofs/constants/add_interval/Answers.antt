use Rattle.std.proofs.Common.{ℕ, ℤ, ◌≡◌, ◌∙◌, ap, subst, List, map, rules, arith}
use Rattle.std.proofs.lemmas.Int.{to_z-of_z}
use mir.Syntax.{w32}
use mir.Val.{of_z, to_z}
use Rattle.asp_defs.specs.declared.ground.Const.{Const}
use Rattle.asp_defs.specs.declared.ground.Const.TheVariants as const
use Rattle.asp_defs.specs.Constants.{integers_from, interval, interval_length}
use Rattle.asp_atoms.specs.declared.const_refs.ConstRef.{ConstRef}
use Rattle.asp_atoms.specs.ConstRefs.{const_of}
use Rattle.asp_ground.specs.Gaps.{HasAll}
use Rattle.asp_ground.specs.Counts.{Gathers}
use Rattle.asp_template.proofs.Integers.{passed, told_both}
use Rattle.asp_ground.proofs.Gathered.{gathers_integer, all_there}
use Rattle.asp_ground.proofs.constants.add_interval.Goals as goal

pub loop-step-preserved : goal.loop-step-preserved
loop-step-preserved c =
    gathers_integer (map const_of c.args.found.now.items) (map const_of c.loop-step.found.items) (map const_of c.add_constant.new.found.items) _ c.loop-step.step _ c.loop-step.invariant c.add_constant.ensures
    (to_z-of_z w32 c.stepped-value.result (search rules) ∙ c.stepped-value.ensures)

pub returns : goal.returns
returns c =
    let length : c.interval_length-step-end.result ≡ interval_length c.args.low c.args.high =
    passed (λ (z : ℤ). interval_length z c.args.high) c.args.low c.interval_length-step-end.result c.ranges.low
    (passed (λ (z : ℤ). interval_length (to_z w32 (of_z w32 c.args.low)) z) c.args.high c.interval_length-step-end.result c.ranges.high c.interval_length-step-end.ensures) in
    let steps : c.loop-step.step ≡ interval_length c.args.low c.args.high = omega (arith, length) in
    let whole : map const.Int (integers_from (to_z w32 (of_z w32 c.args.low)) c.loop-step.step) ≡ map const.Int (integers_from c.args.low (interval_length c.args.low c.args.high)) =
    ap (λ (z : ℤ). map const.Int (integers_from z c.loop-step.step)) (to_z-of_z w32 c.args.low c.ranges.low)
    ∙ ap (λ (n : ℕ). map const.Int (integers_from c.args.low n)) steps in
    subst (λ (cs : List Const). Gathers (map const_of c.args.found.now.items) (map const_of c.loop-step.found.items) cs) whole c.loop-step.invariant

pub returns-then-has_interval : goal.returns-then-has_interval
returns-then-has_interval c =
    all_there (map const_of c.args.found.now.items) (map const.Int (interval c.args.low c.args.high)) c.requires
    (subst (λ (refs : List ConstRef). HasAll (map const_of refs) (map const.Int (interval c.args.low c.args.high))) c.as_slice.ensures.value
    (told_both (λ (x y : ℤ). HasAll (map const_of c.as_slice.result.now) (map const.Int (interval x y))) c.args.low c.args.high c.ranges.low c.ranges.high (c.has_interval.ensures c.if-has_interval.true)))
