use Rattle.std.proofs.Common.{◌∙◌}
use Rattle.asp_safety.proofs.Sets.{contains_is}
use Rattle.asp_safety.proofs.closure.has.Goals as goal

pub returns : goal.returns
returns c = c.contains.ensures ∙ contains_is c.args.set.now.keys c.args.variable
