use Rattle.std.proofs.Common.{◌≡◌, ◌∙◌, sym, subst, false}
use Rattle.asp_bits.specs.Places.{true_places}
use Rattle.asp_defs.specs.History.{is_held}
use Rattle.asp_store.specs.Shelves.{ShelfState, IsHolding}
use Rattle.asp_store.proofs.Held.{not-held}
use Rattle.asp_store.proofs.Shelving.{holding}
use Rattle.asp_store.proofs.own.OwnShelf.look.Goals as goal

pub returns-clause-found : goal.returns-clause-found
returns-clause-found c at e =
    subst (λ (s : ShelfState). IsHolding s.seen c.args.level (true_places c.args.set.now) at) c.self.view_is
    (holding c.self.inside.store.history c.args.level (true_places c.args.set.now) at (sym c.look.ensures.first ∙ e))

pub returns-clause-none : goal.returns-clause-none
returns-clause-none c e =
    subst (λ (s : ShelfState). is_held s.seen c.args.level (true_places c.args.set.now) ≡ false) c.self.view_is
    (not-held c.self.inside.store.history c.args.level (true_places c.args.set.now) (sym c.look.ensures.first ∙ e))
