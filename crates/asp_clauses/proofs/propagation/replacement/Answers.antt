use Rattle.std.proofs.Common.{◌≡◌, ℕ, ◌+◌, ◌<◌, List, length, get_or, ◌∙◌, ap, subst, arith, inl, inr}
use Rattle.std.proofs.lemmas.Bool.{cases_lt}
use Rattle.asp_clauses.specs.Literal.{negated}
use Rattle.asp_clauses.specs.Records.{row_at, literals_of}
use Rattle.asp_clauses.specs.Trail.{IsPlaced}
use Rattle.asp_clauses.proofs.WatchLemmas.{cell_in_range, literal_in_row, length_literals, row_size}
use Rattle.asp_clauses.proofs.propagation.replacement.Goals as goal

-- a literal of the clause by its place in the row
literal_read : (row literals : List ℕ) (i : ℕ) → literals ≡ literals_of row → i < get_or row 0 0 → get_or literals i 0 ≡ get_or row (3 + i) 0
literal_read row literals i e h = ap (λ (x : List ℕ). get_or x i 0) e ∙ literal_in_row row i h

pub literals-literals-requires-clause-size : goal.literals-literals-requires-clause-size
literals-literals-requires-clause-size c =
    let w = c.args.watches.now in let s = row_size w.atoms (row_at w.records c.args.clause) (c.requires.store.records c.args.clause c.requires.clause) in
    omega (arith, s.1)

pub bounds-literals-index : goal.bounds-literals-index
bounds-literals-index c =
    let w = c.args.watches.now in let row = row_at w.records c.args.clause in
    let l = ap length c.literals-literals.ensures ∙ length_literals w.atoms row (c.requires.store.records c.args.clause c.requires.clause) in
    omega (arith, l, c.loop-index-test.true, c.cell-index-end.ensures)

pub is_false-requires : goal.is_false-requires
is_false-requires c =
    let w = c.args.watches.now in
    let row = row_at w.records c.args.clause in let h : c.loop-index.index < get_or row 0 0 = omega (arith, c.loop-index-test.true, c.cell-index-end.ensures) in
    let read = literal_read row c.literals-literals.result.now c.loop-index.index c.literals-literals.ensures h in
    let r = cell_in_range w.atoms (row_at w.records c.args.clause) c.loop-index.index (c.requires.store.records c.args.clause c.requires.clause) (omega (arith, c.loop-index-test.true, c.cell-index-end.ensures)) in
    omega (arith, r, read, c.requires.atoms)

pub loop-index-preserved : goal.loop-index-preserved
loop-index-preserved c = λ i two h.
    let w = c.args.watches.now in let t = c.args.trail.now in
    let row = row_at w.records c.args.clause in let in_row : c.loop-index.index < get_or row 0 0 = omega (arith, c.loop-index-test.true, c.cell-index-end.ensures) in
    let read = literal_read row c.literals-literals.result.now c.loop-index.index c.literals-literals.ensures in_row in
    let r = cell_in_range w.atoms row c.loop-index.index (c.requires.store.records c.args.clause c.requires.clause) (omega (arith, c.loop-index-test.true, c.cell-index-end.ensures)) in
    elim (cases_lt i c.loop-index.index) [
      | inl lt ↦ c.loop-index.invariant i two lt
      | inr ge ↦
          let same : c.loop-index.index ≡ i = omega arith in
          subst (λ (n : ℕ). IsPlaced t.steps (negated (get_or row (3 + n) 0))) same
          (subst (λ (n : ℕ). IsPlaced t.steps (negated n)) read (c.is_false.ensures.fails c.if-not-is_false.false (omega (arith, r, read, c.requires.atoms))))
    ]
