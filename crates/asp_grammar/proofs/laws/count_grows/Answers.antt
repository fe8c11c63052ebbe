use Rattle.asp_grammar.proofs.Counts as counts
use Rattle.asp_grammar.proofs.laws.count_grows.Goals as goal

pub returns : goal.returns
returns c = counts.count_grows
