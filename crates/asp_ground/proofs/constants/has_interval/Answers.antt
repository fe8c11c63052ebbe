use Rattle.std.proofs.Common.{ℤ, ◌≡◌, ◌+◌, ◌-◌, ◌∙◌, sym, map, arith}
use Rattle.asp_defs.specs.Constants.{interval_length}
use Rattle.asp_atoms.specs.ConstRefs.{const_of}
use Rattle.asp_ground.specs.Gaps.{IsIntegerAt}
use Rattle.asp_template.proofs.Integers.{told, told_both}
use Rattle.asp_ground.proofs.Rows.{interval_there, nothing_there}
use Rattle.asp_ground.proofs.constants.has_interval.Goals as goal

pub returns-in-Ok : goal.returns-in-Ok
returns-in-Ok c known =
    let length : c.interval_length-length.result ≡ interval_length c.args.low c.args.high =
    told_both (λ (x y : ℤ). c.interval_length-length.result ≡ interval_length x y) c.args.low c.args.high c.ranges.low c.ranges.high c.interval_length-length.ensures in
    let some = c.if-length-eq0.false in
    let long : interval_length c.args.low c.args.high ≡ (c.interval_length-length.result - 1) + 1 = omega (arith, length, some) in
    interval_there (map const_of c.args.found.now) c.requires c.args.low c.args.high c.in-Ok.first (c.interval_length-length.result - 1) long
    (told (λ (z : ℤ). IsIntegerAt (map const_of c.args.found.now) z c.in-Ok.first) c.args.low c.ranges.low c.in-Ok.ensures)
    (told (λ (z : ℤ). IsIntegerAt (map const_of c.args.found.now) z (c.in-Ok.first + (c.interval_length-length.result - 1))) c.args.high c.ranges.high (c.is_behind.ensures known))

pub returns-then-length-eq0 : goal.returns-then-length-eq0
returns-then-length-eq0 c known =
    nothing_there (map const_of c.args.found.now) c.args.low (interval_length c.args.low c.args.high)
    (told_both (λ (x y : ℤ). interval_length x y ≡ 0) c.args.low c.args.high c.ranges.low c.ranges.high (sym c.interval_length-length.ensures ∙ c.if-length-eq0.true))
