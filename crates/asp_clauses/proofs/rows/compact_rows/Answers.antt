use Rattle.std.proofs.Common.{◌≡◌, ℕ, ◌+◌, ◌-◌, ◌*◌, ◌<◌, List, length, take, map, ap, ◌∙◌, arith, refl}
use Rattle.std.proofs.lemmas.List.{get_or_read, length-map}
use Rattle.asp_clauses.specs.Rows.{rows_of}
use Rattle.asp_clauses.specs.Records.{has_number, tops_of, node_at}
use Rattle.asp_clauses.specs.Kept.{from_on}
use Rattle.asp_clauses.proofs.FrontLemmas.{length-from_on, marked_before, marked_after}
use Rattle.asp_clauses.proofs.RowsLemmas.{length-rows_of, row_ends}
use Rattle.asp_clauses.proofs.CompactLemmas.{IsCompacting-front, start_of, top_yes, top_no, compacted_yes, compacted_no, compacted_all}
use Rattle.asp_clauses.proofs.NodeLemmas.{many_tops, number_of_node}
use Rattle.asp_clauses.proofs.rows.compact_rows.Goals as goal
use Rattle.asp_clauses.proofs.rows.compact_rows.Goals.{then-node, else-node}

pub index-requires : goal.index-requires
index-requires c =
    let starts = c.args.starts.now in let lr = length-rows_of c.args.words.now.items starts.items in let some = c.requires.rows.some in
    omega (arith, lr, c.requires.from, some, starts.ok)

pub loop-row-init : goal.loop-row-init
loop-row-init c =
    let words = c.args.words.now.items in let starts = c.args.starts.now.items in let from = c.args.from in let told = map has_number (tops_of c.args.nodes.now) in
    let lr = length-rows_of words starts in let lm = length-map (tops_of c.args.nodes.now) has_number in
    let lt = many_tops c.args.nodes.now (rows_of words starts) c.requires.nodes in
    let lf = length-from_on from told (omega (arith, lm, lt, c.requires.from)) in
    let some = c.requires.rows.some in
    let h : from < length starts = omega (arith, lr, c.requires.from, some) in
    (IsCompacting-front words starts (from_on from told) from c.index.result.now c.requires.rows (marked_before from told) (omega (arith, lf, lm, lt)) h (get_or_read starts from c.index.result.now h c.index.ensures 0), omega arith)

pub bounds-nodes-row : goal.bounds-nodes-row
bounds-nodes-row c =
    let starts0 = c.args.starts.now.items in
    let lr = length-rows_of c.args.words.now.items starts0 in
    omega (arith, c.loop-row-test.true, c.len-row-end.ensures, c.args.starts.now.ok, lr, c.requires.nodes)

pub overflow_sub-end : goal.overflow_sub-end
overflow_sub-end c =
    let words0 = c.args.words.now.items in let starts0 = c.args.starts.now.items in
    let words = c.loop-row.words.items in let starts = c.loop-row.starts.items in let row = c.loop-row.row in
    let i = c.loop-row.invariant.0 in
    let h : row < length starts0 - 1 = omega (arith, c.loop-row-test.true, c.len-row-end.ensures, c.args.starts.now.ok) in
    let s = start_of words0 starts0 (from_on c.args.from (map has_number (tops_of c.args.nodes.now))) words starts row c.loop-row.count c.loop-row.end row c.index-in-loop-row.result.now i (omega arith) (omega (arith, h)) c.index-in-loop-row.ensures in
    let n = start_of words0 starts0 (from_on c.args.from (map has_number (tops_of c.args.nodes.now))) words starts row c.loop-row.count c.loop-row.end (row + 1) c.index-in-loop-row-2.result.now i (omega arith) (omega (arith, h)) c.index-in-loop-row-2.ensures in
    let ends = row_ends words0 starts0 c.requires.rows row h in
    omega (arith, s, n, ends.0)

pub overflow_cast-end-then-node : goal.overflow_cast-end-then-node
overflow_cast-end-then-node c =
    let words0 = c.args.words.now.items in let starts0 = c.args.starts.now.items in
    let words = c.loop-row.words.items in let starts = c.loop-row.starts.items in let row = c.loop-row.row in
    let i = c.loop-row.invariant.0 in
    let h : row < length starts0 - 1 = omega (arith, c.loop-row-test.true, c.len-row-end.ensures, c.args.starts.now.ok) in
    let s = start_of words0 starts0 (from_on c.args.from (map has_number (tops_of c.args.nodes.now))) words starts row c.loop-row.count c.loop-row.end row c.index-in-loop-row.result.now i (omega arith) (omega (arith, h)) c.index-in-loop-row.ensures in
    let n = start_of words0 starts0 (from_on c.args.from (map has_number (tops_of c.args.nodes.now))) words starts row c.loop-row.count c.loop-row.end (row + 1) c.index-in-loop-row-2.result.now i (omega arith) (omega (arith, h)) c.index-in-loop-row-2.ensures in
    let ends = row_ends words0 starts0 c.requires.rows row h in
    let low = i.lower in let small = c.requires.rows.small in
    record { fits = omega (arith, s, n, ends.0, ends.1, low, small) }

pub loop-row-preserved : goal.loop-row-preserved
loop-row-preserved c =
    let words0 = c.args.words.now.items in let starts0 = c.args.starts.now.items in
    let words = c.loop-row.words.items in let starts = c.loop-row.starts.items in let row = c.loop-row.row in
    let i = c.loop-row.invariant.0 in let r = c.requires.rows in
    let h : row < length starts0 - 1 = omega (arith, c.loop-row-test.true, c.len-row-end.ensures, c.args.starts.now.ok) in
    let s = start_of words0 starts0 (from_on c.args.from (map has_number (tops_of c.args.nodes.now))) words starts row c.loop-row.count c.loop-row.end row c.index-in-loop-row.result.now i (omega arith) (omega (arith, h)) c.index-in-loop-row.ensures in
    let n = start_of words0 starts0 (from_on c.args.from (map has_number (tops_of c.args.nodes.now))) words starts row c.loop-row.count c.loop-row.end (row + 1) c.index-in-loop-row-2.result.now i (omega arith) (omega (arith, h)) c.index-in-loop-row-2.ensures in
    let tops = (tops_of c.args.nodes.now) in let from = c.args.from in let told = map has_number tops in let marks = from_on from told in
    let lr = length-rows_of words0 starts0 in let lm = length-map tops has_number in let lt = many_tops c.args.nodes.now (rows_of words0 starts0) c.requires.nodes in
    let many : length marks ≡ length (rows_of words0 starts0) = length-from_on from told (omega (arith, lm, lt, c.requires.from)) ∙ lm ∙ lt in
    let up = c.loop-row.invariant.1 in let mark = marked_after from told row up in
    let number = number_of_node c.args.nodes.now row (node_at c.args.nodes.now (2 * row)) (omega (arith, lr, h, c.requires.nodes)) refl in (
      elim c.if-node.branch [
        | then-node b ↦ compacted_yes words0 starts0 marks words starts c.if-node.words.items c.if-node.starts.items row c.loop-row.count c.loop-row.end c.index-in-loop-row.result.now c.index-in-loop-row-2.result.now c.if-node.count c.if-node.end r i h
            many (mark ∙ top_yes tops row (node_at c.args.nodes.now (2 * row)).next (omega (arith, lr, h, lt)) number b.if-node.true) s n (ap (λ v. v.items) b.words-is ∙ b.copy_within.ensures.items) (ap (λ v. v.items) b.starts-is) b.count-is b.end-is
        | else-node b ↦ compacted_no words0 starts0 marks words starts c.if-node.words.items c.if-node.starts.items row c.loop-row.count c.loop-row.end c.if-node.count c.if-node.end r i h
            many (mark ∙ top_no tops row (node_at c.args.nodes.now (2 * row)).next (omega (arith, lr, h, lt)) number b.if-node.false) (ap (λ v. v.items) b.words-is) (ap (λ v. v.items) b.starts-is) b.count-is b.end-is
      ],
      omega (arith, up),
    )

pub returns-clause-kept : goal.returns-clause-kept
returns-clause-kept c =
    let words0 = c.args.words.now.items in let starts0 = c.args.starts.now.items in
    let i = c.loop-row.invariant.0 in
    let t = i.treated in
    let tops = tops_of c.args.nodes.now in let told = map has_number tops in let lt = many_tops c.args.nodes.now (rows_of words0 starts0) c.requires.nodes in let lm = length-map tops has_number in
    ap (λ (x : List ℕ). rows_of x c.truncate-2.new.self.items) c.truncate.ensures.items ∙ ap (rows_of (take c.loop-row.end c.loop-row.words.items)) c.truncate-2.ensures.items
    ∙ compacted_all words0 starts0 (from_on c.args.from (map has_number (tops_of c.args.nodes.now))) c.loop-row.words.items c.loop-row.starts.items c.loop-row.row c.loop-row.count c.loop-row.end c.requires.rows i (length-from_on c.args.from told (omega (arith, lm, lt, c.requires.from)) ∙ lm ∙ lt) (omega (arith, c.loop-row-test.false, c.len-row-end.ensures, c.args.starts.now.ok, t))
