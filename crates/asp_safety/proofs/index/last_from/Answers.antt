use Rattle.std.proofs.Common.{◌∙◌}
use Rattle.asp_safety.proofs.Places.{lookup_is}
use Rattle.asp_safety.proofs.index.last_from.Goals as goal

pub returns : goal.returns
returns c = c.copied.ensures ∙ (c.get.ensures.value ∙ lookup_is c.args.index.now.last.entries c.args.variable)
