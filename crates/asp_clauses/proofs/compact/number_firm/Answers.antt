use Rattle.std.proofs.Common.{◌<◌, arith, sym, false, map, length}
use Rattle.std.proofs.lemmas.List.{length-map, get_or-map}
use Rattle.asp_clauses.specs.Kept.{is_firm, kind_at, no_kind}
use Rattle.asp_clauses.proofs.FrontLemmas.{count_front}
use Rattle.asp_clauses.proofs.NumberedLemmas.{AreNumbered-none, numbered_more}
use Rattle.asp_clauses.proofs.BookLemmas.{firm_marked}
use Rattle.asp_clauses.proofs.compact.number_firm.Goals as goal

pub loop-clause-init : goal.loop-clause-init
loop-clause-init c =
    let kinds = c.args.kinds.now in let lm = length-map kinds is_firm in
    (AreNumbered-none c.args.watches.now (map is_firm kinds) c.args.from c.requires.store, sym (count_front (map is_firm kinds) c.args.from (firm_marked kinds c.args.from c.requires.from c.requires.firm) (omega (arith, lm, c.requires.from))), omega arith)

pub loop-clause-preserved : goal.loop-clause-preserved
loop-clause-preserved c =
    let old = c.args.watches.now in let k = c.loop-clause.clause in let kinds = c.args.kinds.now in let marks = map is_firm kinds in
    let h : k < length old.records = omega (arith, c.loop-clause-test.true, c.len-clause-end.ensures.value) in
    let lm = length-map kinds is_firm in let many = c.requires.kinds in
    let up = c.loop-clause.invariant.2 in
    let more = numbered_more old c.loop-clause.watches c.number_clause-next.new.watches marks c.args.from k c.loop-clause.next c.number_clause-next.result (is_firm (kind_at kinds k)) c.loop-clause.invariant.0 c.loop-clause.invariant.1 up h (omega (arith, h, lm, many))
    (sym (get_or-map is_firm kinds k no_kind false (omega (arith, h, many)))) c.number_clause-next.ensures.records c.number_clause-next.ensures.next in
    (more.0, more.1, omega (arith, up))
