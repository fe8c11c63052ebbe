-- The printed set of a text's program is read again.
use Rattle.std.proofs.Common.{length, nat_lt}
use Rattle.std.proofs.lemmas.Bool.{ltb-true}
use Rattle.asp_defs.specs.Bases.{bases_of, last_level}
use Rattle.asp_defs.specs.Games.{game_of, base}
use Rattle.asp_defs.proofs.Lists.{all_at}
use Rattle.asp_atoms.proofs.Comparing.{ascends_by_test}
use Rattle.asp_sets.specs.Laws.{TextsAreRead}
use Rattle.asp_sets.proofs.Walking.{text_spelled}
use Rattle.asp_sets.proofs.Vocabulary.{base_spelled, first_within, text_bases_are_readable}
use Rattle.asp_sets.proofs.Apart.{read_again}

pub texts_are_read : TextsAreRead
texts_are_read bytes p text valid I i =
    let parts = text_spelled bytes p text in
    read_again (bases_of p) (text_bases_are_readable bytes p text valid) (ascends_by_test (bases_of p).atoms valid.ordered_atoms) (base_spelled p (last_level p) parts.0 parts.1)
    (λ k m. ltb-true k (length (bases_of p).atoms) (all_at (λ n. nat_lt n (length (bases_of p).atoms)) (base (game_of p) 1) k (first_within (game_of p) valid) m)) I i
