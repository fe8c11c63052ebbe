use Rattle.std.specs.Prelude.{refl}
use Rattle.std.specs.Fmt.{digits}
use Rattle.asp_examples.proofs.texts.canonical_texts.Goals as goal

pub returns-clause-strong : goal.returns-clause-strong
unfolding digits
returns-clause-strong c = refl

pub returns-clause-bounds : goal.returns-clause-bounds
unfolding digits
returns-clause-bounds c = refl

pub returns-clause-terms : goal.returns-clause-terms
unfolding digits
returns-clause-terms c = refl
