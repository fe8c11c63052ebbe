use Rattle.asp_defs.proofs.Irrelevance as laws
use Rattle.asp_defs.proofs.laws.values_rest_on_rules_and_bounds.Goals as goal

pub returns : goal.returns
returns c = laws.values_rest_on_rules_and_bounds
