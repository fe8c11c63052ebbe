use Rattle.asp_defs.proofs.TextsApart as texts
use Rattle.asp_defs.proofs.laws_text.refusals_are_unique.Goals as goal

pub returns : goal.returns
returns c = texts.refusals_are_unique
