use Rattle.asp_sets.proofs.Again.{texts_are_read}
use Rattle.asp_sets.proofs.laws.texts_are_read.Goals as goal

pub returns : goal.returns
returns c = texts_are_read
