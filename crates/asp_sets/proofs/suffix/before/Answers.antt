use Rattle.asp_sets.proofs.Ends.{stripped}
use Rattle.asp_sets.proofs.suffix.before.Goals as goal

pub returns : goal.returns
returns c = stripped c.args.text.now c.args.end.now c.strip_suffix.result c.strip_suffix.ensures.cases
