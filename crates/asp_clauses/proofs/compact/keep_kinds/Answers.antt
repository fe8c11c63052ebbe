use Rattle.std.proofs.Common.{◌≡◌, ◌<◌, length, map, ap, sym, ◌∙◌, arith}
use Rattle.std.proofs.lemmas.List.{length-map, get_or_read}
use Rattle.asp_clauses.specs.Kept.{is_kept, no_kind, from_on}
use Rattle.asp_clauses.proofs.FrontLemmas.{length-from_on, marked_before, marked_after}
use Rattle.asp_clauses.proofs.CompactLemmas.{mark_yes, mark_no}
use Rattle.asp_clauses.proofs.KeepLemmas.{IsKeeping-front, kept_item, dropped_item}
use Rattle.asp_clauses.proofs.compact.keep_kinds.Goals as goal
use Rattle.asp_clauses.proofs.compact.keep_kinds.Goals.{then-cell, else-cell}

pub loop-clause-init : goal.loop-clause-init
loop-clause-init c =
    let from = c.args.from in let marks = map is_kept c.args.records.now in
    let lm = length-map c.args.records.now is_kept in let lf = length-from_on from marks (omega (arith, lm, c.requires.from)) in
    (IsKeeping-front no_kind (from_on from marks) c.args.kinds.now.items from (marked_before from marks) (omega (arith, lf, lm, c.requires.from)) (omega (arith, c.requires.from, c.requires.kinds)), omega arith)

pub loop-clause-preserved : goal.loop-clause-preserved
loop-clause-preserved c =
    let rows = c.args.records.now in let from = c.args.from in let told = map is_kept rows in let marks = from_on from told in
    let kinds0 = c.args.kinds.now.items in let kinds = c.loop-clause.kinds.items in let k = c.loop-clause.clause in
    let h : k < length rows = omega (arith, c.loop-clause-test.true, c.len-clause-end.ensures.value) in
    let i = c.loop-clause.invariant.0 in let up = c.loop-clause.invariant.1 in
    let lm : length marks ≡ length rows = length-from_on from told (let l = length-map rows is_kept in omega (arith, l, c.requires.from)) ∙ length-map rows is_kept in
    let many = i.as_many in
    let mark = marked_after from told k up in (
      elim c.if-cell.branch [
        | then-cell w ↦ kept_item no_kind marks kinds0 kinds c.if-cell.kinds.items k c.loop-clause.count c.if-cell.count w.index.result.now i (omega (arith, lm, h)) (lm ∙ sym c.requires.kinds) (mark ∙ mark_yes rows k c.cell.result h c.cell.ensures w.if-cell.true)
            (get_or_read kinds k w.index.result.now (omega (arith, many, h, c.requires.kinds)) w.index.ensures no_kind) (ap (λ v. v.items) w.kinds-is) w.count-is
        | else-cell w ↦ dropped_item no_kind marks kinds0 kinds c.if-cell.kinds.items k c.loop-clause.count c.if-cell.count i (omega (arith, lm, h)) (lm ∙ sym c.requires.kinds) (mark ∙ mark_no rows k c.cell.result h c.cell.ensures w.if-cell.false) (ap (λ v. v.items) w.kinds-is) w.count-is
      ],
      omega (arith, up),
    )
