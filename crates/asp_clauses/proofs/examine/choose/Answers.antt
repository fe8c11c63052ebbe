use Rattle.std.proofs.Common.{◌≡◌, ℕ, ◌+◌, get_or, sym, subst, refl, arith}
use Rattle.asp_clauses.specs.declared.watches.Watches.{Watches}
use Rattle.asp_clauses.specs.Records.{row_at}
use Rattle.asp_clauses.proofs.ChoiceLemmas.{IsBest, IsBest-keeps, IsBest-takes, Chooses-best}
use Rattle.asp_clauses.proofs.examine.choose.Goals as goal
use Rattle.asp_clauses.proofs.examine.choose.Goals.{then-latest, else-latest}

pub loop-other-preserved : goal.loop-other-preserved
loop-other-preserved c =
    let t = c.args.trail.now in let row = row_at c.args.watches.now.records c.args.clause in
    let other = c.loop-other.other in
    elim c.if-latest.branch [
      | then-latest w ↦ subst (IsBest t row c.args.index (other + 1)) (sym w.best-is) (IsBest-takes t row c.args.index other c.loop-other.best c.latest.result c.latest-in-loop-other.result c.loop-other.invariant c.latest.ensures c.latest-in-loop-other.ensures w.if-latest.true)
      | else-latest w ↦ subst (IsBest t row c.args.index (other + 1)) (sym w.best-is) (IsBest-keeps t row c.args.index other c.loop-other.best c.latest.result c.latest-in-loop-other.result c.loop-other.invariant c.latest.ensures c.latest-in-loop-other.ensures w.if-latest.false)
    ]

pub returns : goal.returns
returns c =
    let w = c.args.watches.now in let t = c.args.trail.now in
    let row = row_at w.records c.args.clause in
    let new : Watches = record w { records = c.swap.new.self } in
    let done : c.loop-other.other ≡ get_or row 0 0 = omega (arith, c.loop-other.auto.other-end, c.loop-other-test.false, c.cell-size.ensures, c.requires.index, c.loop-other.auto.other) in
    let best = subst (λ (n : ℕ). IsBest t row c.args.index n c.loop-other.best) done c.loop-other.invariant in
    let high = best.high in
    Chooses-best w new t c.args.clause c.args.index c.loop-other.best c.requires.store c.requires.clause c.requires.index high best refl c.swap.ensures
