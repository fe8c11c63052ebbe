use Rattle.asp_atoms.proofs.Assembling.{number_below}
use Rattle.asp_atoms.proofs.laws.numbers_are_below.Goals as goal

pub returns : goal.returns
returns c = λ p q args h. number_below p q h.known args h.long h.members
