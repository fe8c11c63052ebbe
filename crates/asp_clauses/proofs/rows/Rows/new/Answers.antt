use Rattle.std.proofs.Common.{◌≡◌, length, arith}
use Rattle.std.proofs.lemmas.List.{nil_from_length}
use Rattle.std.proofs.lemmas.Grind.{common_steps}
use Rattle.asp_clauses.specs.Rows.{rows_of}
use Rattle.asp_clauses.proofs.RowsLemmas.{length-rows_of}
use Rattle.asp_clauses.proofs.rows.Rows.new.Goals as goal

pub returns : goal.returns
returns c =
    let l : length c.push.new.self.items ≡ 1 = grind (arith, common_steps) in
    nil_from_length (rows_of c.new.result.items c.push.new.self.items) (omega (arith, l, length-rows_of c.new.result.items c.push.new.self.items))
