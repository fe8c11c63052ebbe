use Rattle.std.proofs.Common.{◌≡◌, ◌++◌, ◌∙◌, List, sym, ap, take, arith}
use Rattle.std.specs.List.{flat_map}
use Rattle.asp_defs.specs.declared.syntax.Rule.{Rule}
use Rattle.asp_defs.specs.declared.syntax.Part.{Part}
use Rattle.std.proofs.lemmas.List.{take_all}
use Rattle.asp_check.proofs.Rules.{rules_are}
use Rattle.asp_check.proofs.checks.all_rules.Goals as goal

pub returns : goal.returns
returns c =
    let levels : take c.loop-level.level-index c.as_slice-levels.result.now ≡ c.args.program.now.levels =
    take_all c.loop-level.level-index c.as_slice-levels.result.now (omega arith) ∙ c.as_slice-levels.ensures in
    c.in_ok-add_rules-2.ensures
    ∙ (ap (λ (rs : List Rule). rs ++ c.as_slice-2.result.now) c.loop-level.invariant
    ∙ (ap (λ (ps : List Part). flat_map (λ (part : Part). part.rules) ps ++ c.as_slice-2.result.now) levels
    ∙ (ap (λ (rs : List Rule). flat_map (λ (part : Part). part.rules) c.args.program.now.levels ++ rs) c.as_slice-2.ensures
    ∙ sym (rules_are c.args.program.now.levels c.args.program.now.cons))))
