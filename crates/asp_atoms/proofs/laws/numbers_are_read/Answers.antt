use Rattle.asp_atoms.proofs.Assembling.{number_reads}
use Rattle.asp_atoms.proofs.laws.numbers_are_read.Goals as goal

pub returns : goal.returns
returns c = λ p q args h. number_reads p q h.known args h.long h.members
