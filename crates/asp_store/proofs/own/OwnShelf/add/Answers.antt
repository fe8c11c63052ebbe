use Rattle.std.proofs.Common.{◌≡◌, ◌∙◌, refl, sym, ap, subst, inl, inr, ◌⊎◌, ◌+◌, ◌-◌, ◌^◌, ◌≤◌, min, get_or, set}
use Rattle.std.specs.Prelude.{Result, Err}
use Rattle.asp_defs.specs.declared.faults.Unknown.{Unknown}
use Rattle.asp_defs.specs.Games.{IsValid}
use Rattle.asp_defs.specs.Entries.{Entry}
use Rattle.asp_defs.proofs.HistoryLaws.{entry-level}
use Rattle.asp_store.specs.declared.added.Added.{Added}
use Rattle.asp_store.specs.declared.added.AddFault.{AddFault}
use Rattle.asp_store.specs.declared.added.AddFault.TheVariants.{Spent}
use Rattle.asp_store.specs.Shelves.{ShelfState, GoesOn, IsRefused, own_of, refusals_at}
use Rattle.asp_store.proofs.Shelving.{grown, goes-grown, known-holding, one-raised, refused, has-count}
use Rattle.asp_store.proofs.own.OwnShelf.add.Goals as goal

pub returns-in_default-2-clause-goes_on : goal.returns-in_default-2-clause-goes_on
returns-in_default-2-clause-goes_on c =
    subst (λ (s : ShelfState). GoesOn s (own_of c.add.new.self c.self.inside.refusals)) c.self.view_is
    (goes-grown c.self.inside.store c.add.new.self c.self.inside.refusals c.args.entry
    (grown c.self.inside.store c.add.new.self c.args.entry c.add.result c.add.ensures.known c.add.ensures.added c.add.ensures.refused) c.add.ensures.legal)

pub returns-in_default-2-clause-known : goal.returns-in_default-2-clause-known
returns-in_default-2-clause-known c at e = known-holding c.self.inside.store c.add.new.self c.args.entry at (c.add.ensures.known at e)

pub returns-in-Err-Spent-clause-refusals : goal.returns-in-Err-Spent-clause-refusals
returns-in-Err-Spent-clause-refusals c l =
    let low : 1 ≤ c.entry.inside.level = subst (λ (e : Entry). 1 ≤ e.level) (sym c.entry.view_is) (entry-level c.args.self.now.game c.args.entry c.requires.formed) in
    let now : ShelfState = own_of c.add.new.self (set c.self.inside.refusals (c.entry.inside.level - 1) c.saturating_add.result) in
    subst (λ (s : ShelfState). (refusals_at now l ≡ refusals_at s l) ⊎ ((l ≡ c.args.entry.level) × ((u : Unknown) × (◌≡◌ {A = Result Added AddFault} (Err (Spent c.in-Err-Spent.unknown)) (Err (Spent u)))))) c.self.view_is
    (elim (one-raised c.self.inside.store c.add.new.self c.self.inside.refusals c.entry.inside.level c.saturating_add.result low l) [
      | inl kept ↦ inl kept
      | inr here ↦ inr (here ∙ ap (λ (e : Entry). e.level) c.entry.view_is, (c.in-Err-Spent.unknown, refl))
    ])

pub returns-in-Err-Spent-clause-spent : goal.returns-in-Err-Spent-clause-spent
returns-in-Err-Spent-clause-spent c u e =
    subst (λ (s : ShelfState). IsRefused s (own_of c.add.new.self (set c.self.inside.refusals (c.entry.inside.level - 1) c.saturating_add.result)) c.args.entry u) c.self.view_is
    (subst (λ (e : Entry). IsRefused (own_of c.self.inside.store c.self.inside.refusals) (own_of c.add.new.self (set c.self.inside.refusals (e.level - 1) c.saturating_add.result)) c.args.entry u) (sym c.entry.view_is)
    (refused c.self.inside.store c.add.new.self c.self.inside.refusals c.args.entry u c.saturating_add.result c.in-Err-Spent.ensures.refused (c.in-Err-Spent.ensures.spent u (subst (λ (f : AddFault). ◌≡◌ {A = Result Added AddFault} (Err f) (Err (Spent u))) (sym c.in-Err-Spent.field-0-is) e))
    (entry-level c.args.self.now.game c.args.entry c.requires.formed)
    (has-count c.args.self.now.game c.args.entry c.self.inside.refusals (subst (λ (s : ShelfState). IsValid s.game) c.self.view_is c.add.ensures.valid) c.requires.formed c.self.told)
    (subst (λ (e : Entry). c.saturating_add.result ≡ min (get_or c.self.inside.refusals (e.level - 1) 0 + 1) (2 ^ 64 - 1)) c.entry.view_is c.saturating_add.ensures)))
