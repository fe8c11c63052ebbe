use Rattle.std.proofs.Common.{◌∙◌, [], ap, map}
use Rattle.std.specs.List.{fold}
use Rattle.asp_template.specs.declared.template.Template.{Template}
use Rattle.asp_safety.specs.Variables.{term_of}
use Rattle.asp_template.specs.Compiled.{with_literal}
use Rattle.asp_template.proofs.Templates.{literals_more}
use Rattle.asp_template.proofs.compiler.compile.Goals as goal

pub returns : goal.returns
returns c =
    c.in_ok-add_literals-2.ensures
    ∙ (ap (λ (t : Template). fold (with_literal c.args.vocabulary.now (map term_of c.args.variables.now)) t c.args.cond.now)
    (c.in_ok-add_literals.ensures
    ∙ (ap (λ (t : Template). fold (with_literal c.args.vocabulary.now (map term_of c.args.variables.now)) t c.args.body.now) c.bare-template.ensures
    ∙ literals_more c.args.vocabulary.now (map term_of c.args.variables.now) c.args.choice c.args.heads [] c.args.body.now))
    ∙ literals_more c.args.vocabulary.now (map term_of c.args.variables.now) c.args.choice c.args.heads c.args.body.now c.args.cond.now)
