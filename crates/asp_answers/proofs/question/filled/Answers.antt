use Rattle.std.proofs.Common.{◌∙◌}
use Rattle.asp_answers.proofs.Steps.{filled-serves}
use Rattle.asp_answers.proofs.question.filled.Goals as goal

pub fill-requires-clause-atoms : goal.fill-requires-clause-atoms
fill-requires-clause-atoms c = c.in_ok-search.ensures.atoms_are ∙ c.size.ensures.is

pub fill-requires-clause-none : goal.fill-requires-clause-none
fill-requires-clause-none c = c.in_ok-search.ensures.clauses

pub fill-requires-clause-no_firm : goal.fill-requires-clause-no_firm
fill-requires-clause-no_firm c = c.in_ok-search.ensures.firm

pub returns : goal.returns
returns c =
    filled-serves c.args.level.now c.args.budget c.size.result c.in_ok-search.search c.fill.new.search c.in_ok-search.ensures
    c.size.ensures.is c.in_ok-fill.ensures
