use Rattle.std.proofs.Common.{ℕ, ◌<◌, subst, sym, arith}
use Rattle.asp_clauses.proofs.NumberedLemmas.{size_same}
use Rattle.asp_clauses.proofs.compact.watch_first.Goals as goal

pub watch-requires-clause-size : goal.watch-requires-clause-size
watch-requires-clause-size c =
    let old = c.args.watches.now in let now = c.loop-watches.watches in let i = c.loop-watches.invariant in
    subst (λ (n : ℕ). 0 < n) (sym (size_same old now now.watched c.requires.watches.store i.watches.store i.clauses (omega (arith, c.loop-watches-test.true, c.requires.within)))) (c.requires.not_empty now.watched c.loop-watches-test.true)
