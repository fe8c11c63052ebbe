use Rattle.std.proofs.Common.{ℕ, ap, subst}
use Rattle.asp_bits.specs.Places.{true_places}
use Rattle.asp_store.specs.Shelves.{IsHolding}
use Rattle.asp_node.specs.Children.{ChildState}
use Rattle.asp_team.proofs.layer.LayerChildOwn.ask.Goals as goal

pub returns-clause-held : goal.returns-clause-held
returns-clause-held g c at same =
    subst (λ (k : ℕ). IsHolding c.ask.new.shelf.seen k (true_places c.args.set.now) at) (ap (λ (s : ChildState). s.level) c.self.view_is) (c.ask.ensures.held at same)
