use Rattle.asp_clauses.proofs.StoreLemmas.{AreWatches-none}
use Rattle.std.proofs.Common.{refl}
use Rattle.asp_clauses.proofs.watches.Watches.new.Goals as goal

pub returns-clause-sound : goal.returns-clause-sound
returns-clause-sound c = AreWatches-none _ c.requires refl c.in_ok-new.ensures (c.in_ok-vec.ensures.items_if_clones_equal (λ y k. k))
