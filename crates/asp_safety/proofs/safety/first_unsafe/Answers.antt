use Rattle.std.proofs.Common.{◌≡◌, ◌∙◌, [], sym, ap, arith}
use Rattle.asp_defs.specs.Safety.{rule_unsafe, rule_variables}
use Rattle.asp_safety.specs.Variables.{terms_of}
use Rattle.std.proofs.lemmas.Bool.{eqb-true}
use Rattle.asp_safety.proofs.Steps.{none_left}
use Rattle.asp_safety.proofs.Unsafe.{find_none}
use Rattle.asp_safety.proofs.safety.first_unsafe.Goals as goal

pub returns-then-is_empty : goal.returns-then-is_empty
returns-then-is_empty c =
    let nothing : c.in_ok-others.others.items ≡ [] =
    none_left c.in_ok-others.others.items (omega (arith, c.in_ok-others.others.ok, eqb-true _ 0 (sym c.is_empty.ensures ∙ c.if-is_empty.true))) in
    find_none (rule_unsafe c.args.rule.now) (rule_variables c.args.rule.now) (sym c.in_ok-others.ensures ∙ ap terms_of nothing)
