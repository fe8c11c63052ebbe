use Rattle.std.proofs.Common.{◌∙◌, refl, ap, List, ◌++◌, map, length, replicate}
use Rattle.std.proofs.lemmas.Result.{IfOk-equal}
use Rattle.asp_defs.specs.declared.ground.GroundRule.{GroundRule}
use Rattle.asp_template.specs.Ranks.{capped}
use Rattle.asp_safety.specs.Variables.{term_of}
use Rattle.asp_template.specs.Variables.{found_disjunctive}
use Rattle.asp_template.specs.Templates.{instances_over}
use Rattle.asp_template.specs.Compiled.{schema_instances}
use Rattle.asp_template.proofs.Templates.{disjunctive_over}
use Rattle.asp_template.proofs.rules.add_disjunctive.Goals as goal

pub returns : goal.returns
returns c =
    IfOk-equal c.add_all.result c.add_all.new.out
    (c.args.out.now ++ instances_over c.capped-size.result c.in_ok-template.template (replicate (length c.as_slice-variables.result.now) c.args.ranks.now))
    (c.args.out.now ++ schema_instances c.args.vocabulary.now c.args.ranks.now (found_disjunctive c.args.atoms.now c.args.body.now))
    c.add_all.ensures
    (ap (λ (rs : List GroundRule). c.args.out.now ++ rs)
    (disjunctive_over c.args.vocabulary.now c.args.ranks.now c.args.atoms.now c.args.body.now c.as_slice-variables.result.now c.in_ok-heads.heads c.capped-size.result (length c.as_slice-variables.result.now) c.in_ok-template.template
    (ap (map term_of) c.as_slice-variables.ensures.value ∙ c.disjunctive_variables-found.ensures)
    c.in_ok-heads.ensures
    c.in_ok-template.ensures
    (c.capped-size.ensures ∙ ap capped c.len.ensures)
    refl))
