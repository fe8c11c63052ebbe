use Rattle.std.proofs.Common.{◌∙◌, sym, ap, List, ◌++◌}
use Rattle.std.proofs.lemmas.Result.{IfOk-equal}
use Rattle.asp_defs.specs.declared.ground.GroundRule.{GroundRule}
use Rattle.asp_defs.specs.declared.syntax.Atom.{Atom}
use Rattle.asp_defs.specs.declared.syntax.Element.{Element}
use Rattle.asp_defs.specs.declared.syntax.Head.{Head}
use Rattle.asp_defs.specs.declared.syntax.Head.TheVariants.{Disj, Choice}
use Rattle.asp_defs.specs.declared.syntax.Literal.{Literal}
use Rattle.asp_template.specs.Compiled.{head_instances, compiled_instances}
use Rattle.asp_template.proofs.rules.add_rule.Goals as goal

pub returns-in-Disj : goal.returns-in-Disj
returns-in-Disj c =
    IfOk-equal c.add_disjunction.result c.add_disjunction.new.out
    (c.args.out.now ++ head_instances c.args.vocabulary.now c.args.ranks.now (Disj c.as_slice.result.now) c.as_slice-body.result.now)
    (c.args.out.now ++ compiled_instances c.args.vocabulary.now c.args.ranks.now c.args.rule.now)
    c.add_disjunction.ensures
    (ap (λ (rs : List GroundRule). c.args.out.now ++ rs)
    (ap (λ (atoms : List Atom). head_instances c.args.vocabulary.now c.args.ranks.now (Disj atoms) c.as_slice-body.result.now) c.as_slice.ensures
    ∙ (ap (λ (body : List Literal). head_instances c.args.vocabulary.now c.args.ranks.now (Disj c.in-Disj.atoms) body) c.as_slice-body.ensures
    ∙ ap (λ (head : Head). head_instances c.args.vocabulary.now c.args.ranks.now head c.args.rule.now.body) (sym c.in-Disj.is))))

pub returns-in-Choice : goal.returns-in-Choice
returns-in-Choice c =
    IfOk-equal c.add_elements.result c.add_elements.new.out
    (c.args.out.now ++ head_instances c.args.vocabulary.now c.args.ranks.now (Choice c.in-Choice.field-0 c.as_slice-in-Choice.result.now c.in-Choice.field-2) c.as_slice-body.result.now)
    (c.args.out.now ++ compiled_instances c.args.vocabulary.now c.args.ranks.now c.args.rule.now)
    c.add_elements.ensures
    (ap (λ (rs : List GroundRule). c.args.out.now ++ rs)
    (ap (λ (elements : List Element). head_instances c.args.vocabulary.now c.args.ranks.now (Choice c.in-Choice.field-0 elements c.in-Choice.field-2) c.as_slice-body.result.now) c.as_slice-in-Choice.ensures
    ∙ (ap (λ (body : List Literal). head_instances c.args.vocabulary.now c.args.ranks.now (Choice c.in-Choice.field-0 c.in-Choice.elements c.in-Choice.field-2) body) c.as_slice-body.ensures
    ∙ ap (λ (head : Head). head_instances c.args.vocabulary.now c.args.ranks.now head c.args.rule.now.body) (sym c.in-Choice.is))))
