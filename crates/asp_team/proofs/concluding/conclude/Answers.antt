use Rattle.std.proofs.Common.{ℕ, subst}
use Rattle.asp_bits.specs.Places.{true_places}
use Rattle.asp_store.specs.Shelves.{IsHolding}
use Rattle.asp_node.proofs.Steps.{ok-same}
use Rattle.asp_team.proofs.concluding.conclude.Goals as goal

pub returns-in-Decided-clause-held : goal.returns-in-Decided-clause-held
returns-in-Decided-clause-held g c at same =
    subst (λ (k : ℕ). IsHolding (g.S.Shelf.state c.args.shelf.now).seen c.args.place.now.level (true_places c.args.place.now.outer.now) k) (ok-same _ at same)
    (c.requires.decided _ (cc))
