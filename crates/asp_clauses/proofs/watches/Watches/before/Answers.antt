use Rattle.std.proofs.Common.{ℕ, ◌+◌, get_or, ◌∙◌, ap, arith}
use Rattle.std.proofs.lemmas.List.{get_or_read}
use Rattle.asp_clauses.specs.Records.{row_at}
use Rattle.asp_clauses.proofs.UnwatchLemmas.{IsSeeking-start, IsSeeking-more, seek_found, seek_row, seek_before, seek_ends}
use Rattle.asp_clauses.proofs.watches.Watches.before.Goals as goal

pub walk-init : goal.walk-init
walk-init c = λ lists l.
    let w = c.args.self.now in let s = c.requires.watches.store in
    let read = get_or_read w.heads.items c.args.literal c.index-other.result.now (let h = s.heads in let a = c.requires.code in omega (arith, h, a)) c.index-other.ensures 0 in
    IsSeeking-start w lists c.args.literal c.args.clause c.index-other.result.now l c.requires.code read

pub returns-then-other-clause-clause-within : goal.returns-then-other-clause-clause-within
returns-then-other-clause-clause-within c =
    let w = c.requires.watches in
    seek_before c.args.self.now w.listed.0 c.args.literal c.args.clause c.walk.previous c.walk.other c.walk._turn w.store w.listed.1 c.requires.code c.requires.clause (c.walk.invariant w.listed.0 w.listed.1)

pub returns-then-other-clause-clause-before : goal.returns-then-other-clause-clause-before
returns-then-other-clause-clause-before c = λ lists l.
    let s = c.requires.watches.store in let low = c.requires.clause.0 in let most = s.watched in let few = s.few in
    (c.walk._turn, seek_found lists c.args.literal c.args.clause c.walk.previous c.walk.other c.walk._turn (c.walk.invariant lists l) c.if-other-clause.true (omega (arith, low, most, few)))

pub side-side-requires-clause-clause : goal.side-side-requires-clause-clause
side-side-requires-clause-clause c =
    let w = c.requires.watches in
    seek_row c.args.self.now w.listed.0 c.args.literal c.args.clause c.walk.previous c.walk.other c.walk._turn w.store w.listed.1 c.requires.code c.requires.clause (c.walk.invariant w.listed.0 w.listed.1)

pub link-other-requires-clause-clause : goal.link-other-requires-clause-clause
link-other-requires-clause-clause c =
    let w = c.requires.watches in
    seek_row c.args.self.now w.listed.0 c.args.literal c.args.clause c.walk.previous c.walk.other c.walk._turn w.store w.listed.1 c.requires.code c.requires.clause (c.walk.invariant w.listed.0 w.listed.1)

pub walk-preserved : goal.walk-preserved
walk-preserved c = λ lists l.
    IsSeeking-more c.args.self.now lists c.args.literal c.args.clause c.walk.previous c.walk.other c.link-other.result c.walk._turn l c.requires.code c.requires.clause (c.walk.invariant lists l) c.if-other-clause.false (c.link-other.ensures ∙ ap (λ (n : ℕ). get_or (row_at c.args.self.now.records c.walk.other) (1 + n) 0) c.side-side.ensures)

pub returns-clause-within : goal.returns-clause-within
returns-clause-within c =
    let w = c.requires.watches in
    seek_before c.args.self.now w.listed.0 c.args.literal c.args.clause c.walk.previous c.walk.other c.walk._turn w.store w.listed.1 c.requires.code c.requires.clause (c.walk.invariant w.listed.0 w.listed.1)

pub returns-clause-before : goal.returns-clause-before
returns-clause-before c = λ lists l.
    absurd (seek_ends c.args.self.now lists c.args.literal c.args.clause c.walk.previous c.walk.other c.walk._turn c.requires.watches.store l c.requires.code c.requires.clause (c.walk.invariant lists l) (omega (arith, c.walk-test.false, c.len-turn-end.ensures.value)))
