use Rattle.std.proofs.Common.{◌∙◌, ap}
use Rattle.std.specs.Prelude.{option_map}
use Rattle.asp_safety.specs.Variables.{term_of}
use Rattle.asp_safety.proofs.Representing.{represented_is}
use Rattle.asp_safety.proofs.representatives.representative_of.Goals as goal

pub returns : goal.returns
returns c = ap (option_map term_of) (c.copied.ensures ∙ (c.get.ensures.value ∙ represented_is c.args.representatives.now.entries c.args.variable))
