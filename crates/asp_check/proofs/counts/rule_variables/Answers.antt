use Rattle.std.proofs.Common.{◌≡◌, ◌∙◌, length, ap, arith}
use Rattle.std.proofs.lemmas.List.{length-map}
use Rattle.asp_defs.specs.Safety.{rule_variables}
use Rattle.asp_safety.specs.Variables.{term_of, terms_of}
use Rattle.asp_safety.proofs.Occurrences.{occurrences_few}
use Rattle.asp_check.proofs.counts.rule_variables.Goals as goal

pub returns-then-len-most : goal.returns-then-len-most
returns-then-len-most c =
    let few = occurrences_few (rule_variables c.args.rule.now) in
    let written : length (terms_of c.in_ok-written.written.items) ≡ length (rule_variables c.args.rule.now) = ap length (c.in_ok-written.ensures ∙ c.of_rule.ensures.variables) in
    let same = length-map c.in_ok-written.written.items term_of in
    let len = c.len.ensures in
    omega (arith, few, written, same, len, c.in_ok-written.written.ok, c.if-len-most.true)
