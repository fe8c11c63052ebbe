use Rattle.std.proofs.Common.{◌≡◌, ◌∙◌, ap, rules}
use Rattle.std.specs.List.{flat_map}
use Rattle.asp_defs.specs.Constants.{term_constants}
use Rattle.asp_defs.specs.Instances.{term_variables}
use Rattle.asp_walk.specs.Written.{rule_terms}
use Rattle.asp_walk.proofs.Reading.{rule_variables_are, rule_constants_are}
use Rattle.asp_walk.proofs.terms.Terms.of_rule.Goals as goal

pub returns-clause-variables : goal.returns-clause-variables
returns-clause-variables c =
    let terms : c.of_walk.result ≡ rule_terms c.args.rule.now = search rules in
    ap (flat_map term_variables) terms ∙ rule_variables_are c.args.rule.now

pub returns-clause-constants : goal.returns-clause-constants
returns-clause-constants c =
    let terms : c.of_walk.result ≡ rule_terms c.args.rule.now = search rules in
    ap (flat_map term_constants) terms ∙ rule_constants_are c.args.rule.now
