use Rattle.std.proofs.Common.{◌≡◌, ◌+◌, ◌-◌, ◌∙◌, List, ℕ, ap, arith, length, Bor}
use Rattle.std.proofs.lemmas.List.{length-map}
use Rattle.asp_defs.specs.declared.syntax.Rule.{Rule}
use Rattle.asp_defs.specs.ConstraintPart.{first_headed_from, level_rule_count}
use Rattle.asp_check.proofs.Rules.{count_before}
use Rattle.asp_check.proofs.checks.headed_in.Goals as goal

pub returns : goal.returns
returns c =
    let same = length-map c.args.rules.now (λ (r : Bor Rule). r.now) in
    let given = ap length c.requires in
    let cons : length c.as_slice-cons.result.now ≡ length c.args.program.now.cons = ap length c.as_slice-cons.ensures in
    let whole = count_before c.args.program.now in
    let before : length c.args.rules.now - length c.as_slice-cons.result.now + 1 ≡ level_rule_count c.args.program.now + 1 = omega (arith, same, given, cons, whole) in
    c.first_headed.ensures
    ∙ (ap (λ (n : ℕ). first_headed_from n c.as_slice-cons.result.now) before
    ∙ ap (λ (rs : List Rule). first_headed_from (level_rule_count c.args.program.now + 1) rs) c.as_slice-cons.ensures)
