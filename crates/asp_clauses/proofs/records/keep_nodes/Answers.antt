use Rattle.std.proofs.Common.{◌≡◌, ◌+◌, ◌*◌, ◌<◌, ◌≤◌, ◌∙◌, length, map, refl, ap, arith}
use Rattle.std.proofs.lemmas.List.{length-map, get_or_read}
use Rattle.asp_clauses.specs.Records.{Top, no_node, no_top, has_number, tops_of}
use Rattle.asp_clauses.specs.Kept.{from_on}
use Rattle.asp_clauses.proofs.KeptLemmas.{kept_all}
use Rattle.asp_clauses.proofs.FrontLemmas.{length-from_on, marked_before, marked_after}
use Rattle.asp_clauses.proofs.CompactLemmas.{top_yes, top_no}
use Rattle.asp_clauses.proofs.KeepLemmas.{IsKeeping-front, dropped_item}
use Rattle.asp_clauses.proofs.NodeLemmas.{kept_node, number_of_node, front_nodes}
use Rattle.asp_clauses.proofs.records.keep_nodes.Goals as goal
use Rattle.asp_clauses.proofs.records.keep_nodes.Goals.{then-first, else-first}

pub loop-clause-init : goal.loop-clause-init
loop-clause-init c =
    let tops = tops_of c.args.nodes.now.items in let from = c.args.from in let told = map has_number tops in
    let lm = length-map tops has_number in let lf = length-from_on from told (omega (arith, lm, c.requires.from)) in
    (IsKeeping-front no_top (from_on from told) tops from (marked_before from told) (omega (arith, lf, lm, c.requires.from)) c.requires.from, refl, omega arith, omega arith, c.requires.from)

pub index-first-requires : goal.index-first-requires
index-first-requires c =
    let nodes0 = c.args.nodes.now.items in let nodes = c.loop-clause.nodes.items in let k = c.loop-clause.clause in let count = c.loop-clause.count in
    let len = c.loop-clause.invariant.1 in
    let h : k < length (tops_of nodes0) = omega (arith, c.loop-clause-test.true, c.len-clause-end.ensures, c.args.nodes.now.ok, c.requires.even) in
    let within : 2 * k + 1 < length nodes = omega (arith, len, h, c.requires.even) in
    omega (arith, within, c.loop-clause.nodes.ok)

pub index-second-requires : goal.index-second-requires
index-second-requires c =
    let nodes0 = c.args.nodes.now.items in let nodes = c.loop-clause.nodes.items in let k = c.loop-clause.clause in let count = c.loop-clause.count in
    let len = c.loop-clause.invariant.1 in
    let h : k < length (tops_of nodes0) = omega (arith, c.loop-clause-test.true, c.len-clause-end.ensures, c.args.nodes.now.ok, c.requires.even) in
    let within : 2 * k + 1 < length nodes = omega (arith, len, h, c.requires.even) in
    omega (arith, within, c.loop-clause.nodes.ok)

pub loop-clause-preserved : goal.loop-clause-preserved
loop-clause-preserved c =
    let nodes0 = c.args.nodes.now.items in let nodes = c.loop-clause.nodes.items in let k = c.loop-clause.clause in let count = c.loop-clause.count in
    let len = c.loop-clause.invariant.1 in
    let h : k < length (tops_of nodes0) = omega (arith, c.loop-clause-test.true, c.len-clause-end.ensures, c.args.nodes.now.ok, c.requires.even) in
    let within : 2 * k + 1 < length nodes = omega (arith, len, h, c.requires.even) in
    let from = c.args.from in let tops0 = tops_of nodes0 in let told = map has_number tops0 in let marks = from_on from told in
    let lt = length-map tops0 has_number in
    let lm : length marks ≡ length tops0 = length-from_on from told (omega (arith, lt, c.requires.from)) ∙ lt in
    let i = c.loop-clause.invariant.0 in let up = c.loop-clause.invariant.2 in let behind = c.loop-clause.invariant.3 in
    let first = c.index-first.result.now in let second = c.index-second.result.now in
    let read = get_or_read nodes (2 * k) first (omega (arith, within)) c.index-first.ensures no_node in
    let read_too = get_or_read nodes (2 * k + 1) second within c.index-second.ensures no_node in
    let was = number_of_node nodes k first within read ∙ ap (λ (t : Top). t.first_link) (i.later k (omega arith)) in
    let mark = marked_after from told k up in
    elim c.if-first.branch [
      | then-first w ↦
          let kept_now = kept_node marks nodes0 nodes c.if-first.nodes.items k count c.if-first.count first second i len c.requires.even (omega (arith, lm, h)) lm (mark ∙ top_yes tops0 k first.next h was w.if-first.true) read read_too (ap (λ v. v.items) w.nodes-is) w.count-is in
          (kept_now.0, kept_now.1, omega (arith, up), omega (arith, behind, w.count-is), omega (arith, h))
      | else-first w ↦ (
        dropped_item no_top marks tops0 (tops_of nodes) (tops_of c.if-first.nodes.items) k count c.if-first.count i (omega (arith, lm, h)) lm (mark ∙ top_no tops0 k first.next h was w.if-first.false) (ap (λ v. tops_of v.items) w.nodes-is) w.count-is,
        ap (λ v. length v.items) w.nodes-is ∙ len,
        omega (arith, up),
        omega (arith, behind, w.count-is),
        omega (arith, h),
      )
    ]

pub returns-clause-even : goal.returns-clause-even
returns-clause-even c =
    let len = c.loop-clause.invariant.1 in let behind = c.loop-clause.invariant.3 in let most = c.loop-clause.invariant.4 in
    (front_nodes c.loop-clause.nodes.items c.truncate.new.self.items c.loop-clause.count (2 * c.loop-clause.count) refl c.truncate.ensures.items (omega (arith, len, behind, most, c.requires.even))).1

pub returns-clause-kept : goal.returns-clause-kept
returns-clause-kept c =
    let nodes0 = c.args.nodes.now.items in let tops0 = tops_of nodes0 in let from = c.args.from in let told = map has_number tops0 in let marks = from_on from told in
    let i = c.loop-clause.invariant.0 in let len = c.loop-clause.invariant.1 in let behind = c.loop-clause.invariant.3 in let most = c.loop-clause.invariant.4 in
    let lt = length-map tops0 has_number in
    let lm = length-from_on from told (omega (arith, lt, c.requires.from)) in
    let all : length tops0 ≤ c.loop-clause.clause = omega (arith, c.loop-clause-test.false, c.len-clause-end.ensures, c.args.nodes.now.ok, c.requires.even) in
    (front_nodes c.loop-clause.nodes.items c.truncate.new.self.items c.loop-clause.count (2 * c.loop-clause.count) refl c.truncate.ensures.items (omega (arith, len, behind, most, c.requires.even))).0
    ∙ i.so_far ∙ kept_all marks tops0 c.loop-clause.clause (omega (arith, lm, lt, all)) all
