use Rattle.std.proofs.Common.{ℕ, ◌+◌, ◌∙◌, map, sym, ap, arith}
use Rattle.std.proofs.lemmas.List.{length-map}
use Rattle.asp_clauses.specs.Kept.{is_kept, from_on}
use Rattle.asp_clauses.proofs.FrontLemmas.{count_front, length-from_on, marked_before}
use Rattle.asp_clauses.proofs.CompactLemmas.{counted_yes, counted_no}
use Rattle.asp_clauses.proofs.compact.count_kept.Goals as goal
use Rattle.asp_clauses.proofs.compact.count_kept.Goals.{then-cell, else-cell}

pub returns-then-watched-from : goal.returns-then-watched-from
returns-then-watched-from c =
    let from = c.args.from in let marks = map is_kept c.args.records.now in
    let l = length-map c.args.records.now is_kept in let m = length-from_on from marks (omega (arith, l, c.requires.from)) in
    sym (count_front (from_on from marks) c.args.watched (λ k h. marked_before from marks k (omega (arith, h, c.if-watched-from.true))) (omega (arith, m, l, c.requires.within)))

pub loop-clause-init : goal.loop-clause-init
loop-clause-init c =
    let from = c.args.from in let marks = map is_kept c.args.records.now in
    let l = length-map c.args.records.now is_kept in let m = length-from_on from marks (omega (arith, l, c.requires.from)) in
    (sym (count_front (from_on from marks) from (marked_before from marks) (omega (arith, m, l, c.requires.from))), omega arith)

pub loop-clause-preserved : goal.loop-clause-preserved
loop-clause-preserved c =
    let rows = c.args.records.now in let from = c.args.from in let up = c.loop-clause.invariant.1 in (
      elim c.if-cell.branch [
        | then-cell w ↦ w.count-is ∙ ap (λ (n : ℕ). n + 1) c.loop-clause.invariant.0 ∙ sym (counted_yes from rows c.loop-clause.clause c.cell.result up (omega (arith, c.loop-clause-test.true, c.requires.within)) c.cell.ensures w.if-cell.true)
        | else-cell w ↦ w.count-is ∙ c.loop-clause.invariant.0 ∙ sym (counted_no from rows c.loop-clause.clause c.cell.result up (omega (arith, c.loop-clause-test.true, c.requires.within)) c.cell.ensures w.if-cell.false)
      ],
      omega (arith, up),
    )
