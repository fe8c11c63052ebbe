use Rattle.std.proofs.Common.{arith}
use Rattle.asp_clauses.proofs.RowsLemmas.{row_facts, word_within, word_read}
use Rattle.asp_clauses.proofs.rows.Rows.cell.Goals as goal

pub index-requires : goal.index-requires
index-requires c =
    let i = c.self.inside in
    let f = row_facts i.words.items i.starts.items c.args.self.now c.self.invariant c.self.view_is c.args.clause c.requires.clause in
    omega (arith, f.numbered, i.starts.ok)

pub overflow_add-index : goal.overflow_add-index
overflow_add-index c =
    let i = c.self.inside in
    let f = row_facts i.words.items i.starts.items c.args.self.now c.self.invariant c.self.view_is c.args.clause c.requires.clause in
    record { fits = (word_within i.words.items i.starts.items c.args.self.now c.args.clause _ c.args.index f c.index.ensures c.requires.index).1 }

pub index-requires-2 : goal.index-requires-2
index-requires-2 c =
    let i = c.self.inside in
    let f = row_facts i.words.items i.starts.items c.args.self.now c.self.invariant c.self.view_is c.args.clause c.requires.clause in
    let w = word_within i.words.items i.starts.items c.args.self.now c.args.clause c.index.result.now c.args.index f c.index.ensures c.requires.index in
    omega (arith, w.0, i.words.ok)

pub returns : goal.returns
returns c =
    let i = c.self.inside in
    let f = row_facts i.words.items i.starts.items c.args.self.now c.self.invariant c.self.view_is c.args.clause c.requires.clause in
    word_read i.words.items i.starts.items c.args.self.now c.self.invariant c.args.clause c.index.result.now c.args.index _ f c.index.ensures c.requires.index c.index-2.ensures
