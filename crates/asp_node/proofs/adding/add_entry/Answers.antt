use Rattle.std.proofs.Common.{ℕ, ap, subst}
use Rattle.std.specs.Prelude.{Ok, Err}
use Rattle.asp_defs.specs.declared.faults.Unknown.{Unknown}
use Rattle.asp_store.specs.Shelves.{IsHolding}
use Rattle.asp_node.specs.Causes.{IsStoreSpent}
use Rattle.asp_node.proofs.Refusing.{refused}
use Rattle.asp_node.proofs.Steps.{ok-same, spent-same, holding-own}
use Rattle.asp_node.proofs.adding.add_entry.Goals as goal

pub returns-in-Ok-Known-clause-held : goal.returns-in-Ok-Known-clause-held
returns-in-Ok-Known-clause-held g c at same =
    subst (λ (k : ℕ). IsHolding (g.S.Shelf.state c.add.new.self).seen c.args.entry.level c.args.entry.seed k) (ok-same _ at same)
    (c.in-Ok-Known.ensures.known _ (ap (λ added. Ok added) c.in-Ok-Known.field-0-is))

pub returns-in-Ok-New-clause-held : goal.returns-in-Ok-New-clause-held
returns-in-Ok-New-clause-held g c at same =
    subst (λ (k : ℕ). IsHolding (g.S.Shelf.state c.add.new.self).seen c.args.entry.level c.args.entry.seed k) (ok-same _ at same)
    (holding-own (g.S.Shelf.state c.args.shelf.now).game (g.S.Shelf.state c.add.new.self).seen c.args.entry _ c.requires.formed
    (c.in-Ok-New.ensures.added _ (ap (λ added. Ok added) c.in-Ok-New.field-0-is)))

pub returns-in-Err-Spent-clause-spent : goal.returns-in-Err-Spent-clause-spent
returns-in-Err-Spent-clause-spent g c unknown same =
    let old = g.S.Shelf.state c.args.shelf.now in
    let new = g.S.Shelf.state c.add.new.self in
    subst (λ (u : Unknown). IsStoreSpent old new u) (spent-same _ unknown same)
    (refused old new c.args.entry _ c.requires.valid c.requires.formed c.requires.justified c.add.ensures.goes_on
    (c.in-Err-Spent.ensures.spent _ (ap (λ fault. Err fault) c.in-Err-Spent.field-0-is)))
