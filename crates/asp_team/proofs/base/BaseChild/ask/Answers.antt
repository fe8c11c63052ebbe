use Rattle.std.proofs.Common.{ℕ, ◌+◌, ◌∙◌, ap, subst}
use Rattle.asp_bits.specs.Places.{true_places}
use Rattle.asp_defs.specs.declared.ground.Game.{Game}
use Rattle.asp_defs.specs.Games.{level_count}
use Rattle.asp_store.specs.Shelves.{IsHolding}
use Rattle.asp_node.specs.Children.{ChildState}
use Rattle.asp_team.proofs.base.BaseChild.ask.Goals as goal

pub returns-clause-held : goal.returns-clause-held
returns-clause-held g c at same =
    subst (λ (k : ℕ). IsHolding (g.S.Shelf.state c.judge.new.shelf).seen k (true_places c.args.set.now) at)
    (ap (λ (h : Game). level_count h + 1) c.deref.ensures ∙ ap (λ (s : ChildState). s.level) c.self.view_is)
    (c.judge.ensures.held at same)
