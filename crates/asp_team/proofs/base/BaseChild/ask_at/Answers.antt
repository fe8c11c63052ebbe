use Rattle.std.proofs.Common.{ℕ, ◌+◌, ◌≡◌, ◌∙◌, ap, refl, subst}
use Rattle.asp_bits.specs.Places.{true_places}
use Rattle.asp_defs.specs.declared.ground.Game.{Game}
use Rattle.asp_defs.specs.Games.{level_count}
use Rattle.asp_store.specs.Shelves.{IsHolding}
use Rattle.asp_node.specs.Children.{ChildState}
use Rattle.asp_team.proofs.Judged.{last-level}
use Rattle.asp_team.proofs.base.BaseChild.ask_at.Goals as goal

pub returns-clause-held : goal.returns-clause-held
returns-clause-held g c at same =
    let behind : c.args.self.now.level ≡ level_count c.args.self.now.game + 1 =
    subst (λ (s : ChildState). s.level ≡ level_count s.game + 1) c.self.view_is refl in
    subst (λ (k : ℕ). IsHolding (g.S.Shelf.state c.judge.new.shelf).seen k (true_places c.args.set.now) at)
    (ap (λ (h : Game). level_count h + 1) c.deref.ensures ∙ (ap (λ (s : ChildState). s.level) c.self.view_is
    ∙ last-level c.args.self.now.level c.args._level (level_count c.args.self.now.game) behind c.requires.first c.requires.last))
    (c.judge.ensures.held at same)
