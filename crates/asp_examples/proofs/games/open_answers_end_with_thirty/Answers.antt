use Rattle.std.specs.Prelude.{refl}
use Rattle.std.specs.Fmt.{digits}
use Rattle.asp_examples.proofs.games.open_answers_end_with_thirty.Goals as goal

pub returns-clause-verdict : goal.returns-clause-verdict
unfolding digits
returns-clause-verdict c = refl

pub returns-clause-page : goal.returns-clause-page
unfolding digits
returns-clause-page c = refl
