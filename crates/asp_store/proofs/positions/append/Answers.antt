use Rattle.std.proofs.Common.{rules, ◌≡◌, ◌<◌, sym, subst, ℕ, length, map, set}
use Rattle.asp_defs.specs.Entries.{Entry}
use Rattle.asp_store.specs.Stores.{snoc_at}
use Rattle.asp_store.proofs.Keeping.{levels-more, levels-same, on_err}
use Rattle.asp_store.proofs.positions.append.Goals as goal

pub returns-in_err-push-clause-no_position : goal.returns-in_err-push-clause-no_position
returns-in_err-push-clause-no_position c =
    on_err c.from_residual-in_err-push.result
    (levels-same c.args.levels.now.items c.entry.inside.level c.index_mut.result.now c.push.new.self c.index_mut.ensures.value c.in_err-push.ensures.items)

pub returns-clause-levels : goal.returns-clause-levels
returns-clause-levels c =
    let at : c.len-at.result ≡ length c.args.entries.now.items = search rules in
    subst (λ (e : Entry). map (λ v. v.items) (set c.args.levels.now.items c.entry.inside.level c.push.new.self) ≡ snoc_at (map (λ v. v.items) c.args.levels.now.items) e.level (length c.args.entries.now.items)) c.entry.view_is
    (subst (λ (k : ℕ). map (λ v. v.items) (set c.args.levels.now.items c.entry.inside.level c.push.new.self) ≡ snoc_at (map (λ v. v.items) c.args.levels.now.items) c.entry.inside.level k) at
    (levels-more c.args.levels.now.items c.entry.inside.level _ c.index_mut.result.now c.push.new.self c.index_mut.ensures.value c.in_ok-push.ensures.items
    (subst (λ (e : Entry). e.level < length c.args.levels.now.items) (sym c.entry.view_is) c.requires.level)))
