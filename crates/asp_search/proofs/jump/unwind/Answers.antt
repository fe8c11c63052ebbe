use Rattle.std.proofs.Common.{◌≡◌, ◌-◌, ◌/◌, ◌<◌, ◌≤◌, ap, sym, ⊎_elim, arith}
use Rattle.std.proofs.lemmas.Bool.{cases_lt}
use Rattle.asp_clauses.specs.Trail.{level_at}
use Rattle.asp_search.proofs.Trails.{level_at-le}
use Rattle.asp_search.proofs.jump.unwind.Goals as goal

pub returns-then-level-levels-clause-front : goal.returns-then-level-levels-clause-front
returns-then-level-levels-clause-front c =
    let steps = c.args.trail.now.steps in
    let end = c.loop-end.end in
    let last = end - 1 in
    let i = c.loop-end.invariant in
    let level : c.level.result ≡ level_at steps last =
    c.level.ensures last (omega (arith, i.0, c.loop-end-test.true), ap (λ l. l / 2) (sym c.at-literal.ensures.literal)) in
    record {
      no_further = i.2;
      undone = λ place within high.
          ⊎_elim
          (λ (before : place < end).
          absurd (omega (arith, level, c.if-level-levels.true, high, level_at-le steps place last (omega (arith, before)))))
          (λ (after : end ≤ place). i.3 place after within)
          (cases_lt place end);
    }
