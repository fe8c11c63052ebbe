use Rattle.asp_clauses.proofs.RowsLemmas.{row_swapped}
use Rattle.asp_clauses.proofs.rows.Rows.swap.Goals as goal

pub returns : goal.returns
returns c = row_swapped c.args.self.now c.set_cell.new.self c.set_cell-2.new.self c.args.clause c.args.i c.args.j _ _ c.requires.clause c.requires.first c.requires.second c.cell-first.ensures c.cell-second.ensures c.set_cell.ensures c.set_cell-2.ensures
