use Rattle.std.specs.Prelude.{refl}
use Rattle.std.specs.Fmt.{digits}
use Rattle.asp_examples.proofs.texts.logs.Goals as goal

pub returns-clause-won : goal.returns-clause-won
unfolding digits
returns-clause-won c = refl

pub returns-clause-cube : goal.returns-clause-cube
unfolding digits
returns-clause-cube c = refl
