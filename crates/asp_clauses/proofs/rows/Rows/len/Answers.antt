use Rattle.std.proofs.Common.{length, ap, arith}
use Rattle.asp_clauses.proofs.RowsLemmas.{length-rows_of}
use Rattle.asp_clauses.proofs.rows.Rows.len.Goals as goal

pub returns-clause-value : goal.returns-clause-value
returns-clause-value c =
    let i = c.self.inside in let v = ap length c.self.view_is in
    omega (arith, length-rows_of i.words.items i.starts.items, v, i.starts.ok)
