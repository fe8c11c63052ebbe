use Rattle.std.proofs.Common.{◌≡◌, ℕ, ◌+◌, ◌-◌, List, [], get_or, take, drop, ◌∙◌, ap, arith}
use Rattle.asp_clauses.proofs.RowsLemmas.{row_facts, word_within, first_read, part_read, start_read}
use Rattle.asp_clauses.proofs.rows.Rows.literals.Goals as goal

pub index-requires : goal.index-requires
index-requires c =
    let i = c.self.inside in
    let f = row_facts i.words.items i.starts.items c.args.self.now c.self.invariant c.self.view_is c.args.clause c.requires.clause in
    omega (arith, f.numbered, i.starts.ok)

pub index-requires-2 : goal.index-requires-2
index-requires-2 c =
    let i = c.self.inside in
    let f = row_facts i.words.items i.starts.items c.args.self.now c.self.invariant c.self.view_is c.args.clause c.requires.clause in
    let size = c.requires.size in
    let w = word_within i.words.items i.starts.items c.args.self.now c.args.clause c.index.result.now 0 f c.index.ensures (omega (arith, size)) in
    omega (arith, w.0, i.words.ok)

pub slice_bounds-result-end : goal.slice_bounds-result-end
slice_bounds-result-end c =
    let i = c.self.inside in
    let rows = c.args.self.now in
    let f = row_facts i.words.items i.starts.items rows c.self.invariant c.self.view_is c.args.clause c.requires.clause in
    let size = c.requires.size in
    let s = start_read i.words.items i.starts.items rows c.args.clause c.index.result.now f c.index.ensures in
    let n = first_read i.words.items i.starts.items rows c.self.invariant c.args.clause c.index.result.now c.index-2.result.now f c.index.ensures (omega (arith, size)) c.index-2.ensures in
    omega (arith, s, n, size, f.within, c.deref.ensures.len, i.words.ok)

pub returns : goal.returns
returns c =
    let i = c.self.inside in
    let rows = c.args.self.now in
    let f = row_facts i.words.items i.starts.items rows c.self.invariant c.self.view_is c.args.clause c.requires.clause in
    let size = c.requires.size in
    let s = c.index.result.now in
    let n = first_read i.words.items i.starts.items rows c.self.invariant c.args.clause s c.index-2.result.now f c.index.ensures (omega (arith, size)) c.index-2.ensures in
    let m : (s + 1 + c.index-2.result.now) - (s + 1) ≡ get_or (get_or rows c.args.clause []) 0 0 = omega (arith, n) in
    ap (λ (x : List ℕ). take ((s + 1 + c.index-2.result.now) - (s + 1)) (drop (s + 1) x)) c.deref.ensures.value
    ∙ ap (λ (x : ℕ). take x (drop (s + 1) i.words.items)) m
    ∙ part_read i.words.items i.starts.items rows c.self.invariant c.args.clause s 1 (get_or (get_or rows c.args.clause []) 0 0) f c.index.ensures size
