use Rattle.std.proofs.Common.{◌∙◌, List, ap}
use Rattle.std.specs.List.{flat_map}
use Rattle.asp_defs.specs.declared.syntax.Literal.{Literal}
use Rattle.asp_defs.specs.Instances.{term_variables}
use Rattle.asp_walk.specs.Written.{literal_terms}
use Rattle.asp_walk.proofs.Reading.{literals_variables_are}
use Rattle.asp_walk.proofs.terms.Terms.of_literals.Goals as goal

pub returns-clause-variables : goal.returns-clause-variables
returns-clause-variables c =
    ap (flat_map term_variables) (c.of_walk.ensures ∙ ap (λ (ls : List Literal). flat_map literal_terms ls) c.of_literals.ensures)
    ∙ literals_variables_are c.args.literals.now
