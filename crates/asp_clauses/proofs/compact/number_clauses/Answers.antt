use Rattle.std.proofs.Common.{◌<◌, arith, refl, length}
use Rattle.asp_clauses.specs.Kept.{mark_of}
use Rattle.asp_clauses.proofs.NumberedLemmas.{numbered_more}
use Rattle.asp_clauses.proofs.compact.number_clauses.Goals as goal

pub loop-clause-preserved : goal.loop-clause-preserved
loop-clause-preserved c =
    let old = c.args.watches.now in let k = c.loop-clause.clause in let marks = c.args.stays.now in
    let h : k < length old.records = omega (arith, c.loop-clause-test.true, c.len-clause-end.ensures.value) in
    let many = c.requires.marks in
    numbered_more old c.loop-clause.watches c.number_clause-next.new.watches marks 0 k c.loop-clause.next c.number_clause-next.result (mark_of marks k) c.loop-clause.invariant.0 c.loop-clause.invariant.1 (omega arith) h (omega (arith, h, many)) refl
    c.number_clause-next.ensures.records c.number_clause-next.ensures.next
