use Rattle.asp_answers.proofs.Judging.{some-first, first-holds}
use Rattle.asp_answers.proofs.find.first_of.Goals as goal

pub bounds-atoms-0 : goal.bounds-atoms-0
bounds-atoms-0 c = some-first c.args.atoms.now c.requires

pub returns : goal.returns
returns c = first-holds c.args.atoms.now _ c.requires
