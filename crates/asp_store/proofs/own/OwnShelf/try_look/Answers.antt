use Rattle.std.proofs.Common.{◌≡◌, sym, subst, Some, false}
use Rattle.asp_bits.specs.Places.{true_places}
use Rattle.asp_defs.specs.History.{is_held}
use Rattle.asp_store.specs.Histories.{first_held}
use Rattle.asp_store.specs.Shelves.{ShelfState, IsHolding}
use Rattle.asp_store.proofs.Held.{not-held}
use Rattle.asp_store.proofs.Shelving.{holding}
use Rattle.asp_store.proofs.own.OwnShelf.try_look.Goals as goal

pub returns-in-Some-clause-found : goal.returns-in-Some-clause-found
returns-in-Some-clause-found c at e =
    subst (λ (s : ShelfState). IsHolding s.seen c.args.level (true_places c.args.set.now) at) c.self.view_is
    (holding c.self.inside.store.history c.args.level (true_places c.args.set.now) at
    (let told : first_held c.self.inside.store.history c.args.level (true_places c.args.set.now) ≡ Some at = cc in told))

pub returns-clause-absent : goal.returns-clause-absent
returns-clause-absent c e =
    subst (λ (s : ShelfState). is_held s.seen c.args.level (true_places c.args.set.now) ≡ false) c.self.view_is
    (not-held c.self.inside.store.history c.args.level (true_places c.args.set.now) (sym c.in_default.ensures.first))
