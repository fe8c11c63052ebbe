use Rattle.std.proofs.Common.{◌≡◌, ℕ, ◌+◌, ◌*◌, refl, ◌∙◌, ap, arith, replicate}
use Rattle.asp_clauses.specs.Records.{end}
use Rattle.asp_clauses.proofs.NumberedLemmas.{AreWatches-unlinked}
use Rattle.asp_clauses.proofs.watches.Watches.unlink_all.Goals as goal

pub returns-clause-watches : goal.returns-clause-watches
returns-clause-watches c =
    let w = c.args.self.now in let s = c.requires in
    let n : w.heads.len ≡ 2 * w.atoms + 1 = omega (arith, w.heads.ok, s.heads) in
    AreWatches-unlinked w _ s refl refl refl (c.fill.ensures.items (λ y k. k) ∙ ap (λ (x : ℕ). replicate x end) n)
