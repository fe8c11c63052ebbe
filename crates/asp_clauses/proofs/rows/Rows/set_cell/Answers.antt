use Rattle.std.proofs.Common.{arith}
use Rattle.asp_clauses.proofs.RowsLemmas.{row_facts, word_within, word_written}
use Rattle.asp_clauses.proofs.rows.Rows.set_cell.Goals as goal

pub index-requires : goal.index-requires
index-requires c =
    let i = c.self.inside in
    let f = row_facts i.words.items i.starts.items c.args.self.now c.self.invariant c.self.view_is c.args.clause c.requires.clause in
    omega (arith, f.numbered, i.starts.ok)

pub overflow_add-start : goal.overflow_add-start
overflow_add-start c =
    let i = c.self.inside in
    let f = row_facts i.words.items i.starts.items c.args.self.now c.self.invariant c.self.view_is c.args.clause c.requires.clause in
    record { fits = (word_within i.words.items i.starts.items c.args.self.now c.args.clause _ c.args.index f c.index.ensures c.requires.index).1 }

pub index_mut-requires : goal.index_mut-requires
index_mut-requires c =
    let i = c.self.inside in
    let f = row_facts i.words.items i.starts.items c.args.self.now c.self.invariant c.self.view_is c.args.clause c.requires.clause in
    let w = word_within i.words.items i.starts.items c.args.self.now c.args.clause c.index.result.now c.args.index f c.index.ensures c.requires.index in
    omega (arith, w.0, i.words.ok)

pub returns : goal.returns
returns c =
    let i = c.self.inside in
    let f = row_facts i.words.items i.starts.items c.args.self.now c.self.invariant c.self.view_is c.args.clause c.requires.clause in
    word_written i.words.items i.starts.items c.args.self.now c.self.invariant c.self.view_is c.args.clause c.index.result.now c.args.index c.args.value f c.index.ensures c.requires.index
