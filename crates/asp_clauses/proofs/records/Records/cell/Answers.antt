use Rattle.std.proofs.Common.{ℕ, get_or, ap, sym, ◌∙◌, arith, rules}
use Rattle.asp_clauses.specs.Records.{row_at, tops_of}
use Rattle.asp_clauses.proofs.RecordLemmas.{parts, size_is, word_at}
use Rattle.asp_clauses.proofs.records.Records.cell.Goals as goal

pub cell-requires-clause-clause : goal.cell-requires-clause-clause
cell-requires-clause-clause c = (parts (tops_of c.self.inside.nodes.items) c.self.inside.rows c.args.self.now c.args.clause c.self.invariant.topped c.self.view_is c.requires.clause).in_rows

pub cell-requires-clause-index : goal.cell-requires-clause-index
cell-requires-clause-index c =
    let p = parts (tops_of c.self.inside.nodes.items) c.self.inside.rows c.args.self.now c.args.clause c.self.invariant.topped c.self.view_is c.requires.clause in
    let l = p.topped.long in omega (arith, l)

pub cell-requires-in_default-clause-clause : goal.cell-requires-in_default-clause-clause
cell-requires-in_default-clause-clause c = (parts (tops_of c.self.inside.nodes.items) c.self.inside.rows c.args.self.now c.args.clause c.self.invariant.topped c.self.view_is c.requires.clause).in_rows

pub cell-requires-in_default-clause-index : goal.cell-requires-in_default-clause-index
cell-requires-in_default-clause-index c =
    let p = parts (tops_of c.self.inside.nodes.items) c.self.inside.rows c.args.self.now c.args.clause c.self.invariant.topped c.self.view_is c.requires.clause in
    let l = p.topped.long in let s = p.size in omega (arith, l, s, c.requires.index)

pub returns-in-0 : goal.returns-in-0
returns-in-0 c =
    let i = c.self.inside in
    let p = parts (tops_of i.nodes.items) i.rows c.args.self.now c.args.clause c.self.invariant.topped c.self.view_is c.requires.clause in
    c.cell.ensures ∙ size_is (tops_of i.nodes.items) i.rows c.args.self.now c.args.clause p ∙ sym (ap (λ (n : ℕ). get_or (row_at c.args.self.now c.args.clause) n 0) c.in-0.is)

pub returns-in_default : goal.returns-in_default
returns-in_default c =
    let i = c.self.inside in
    let p = parts (tops_of i.nodes.items) i.rows c.args.self.now c.args.clause c.self.invariant.topped c.self.view_is c.requires.clause in
    c.cell-in_default.ensures ∙ word_at (tops_of i.nodes.items) i.rows c.args.self.now c.args.clause c.args.index p (search rules)
