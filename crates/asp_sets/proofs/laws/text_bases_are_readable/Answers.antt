use Rattle.asp_sets.proofs.Vocabulary.{text_bases_are_readable}
use Rattle.asp_sets.proofs.laws.text_bases_are_readable.Goals as goal

pub returns : goal.returns
returns c = text_bases_are_readable
