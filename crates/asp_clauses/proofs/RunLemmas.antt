-- Propagation as a whole, and what it has reached in the end.
use Rattle.std.proofs.Common.{◌≡◌, ℕ, ◌+◌, ◌*◌, ◌/◌, ◌<◌, ◌≤◌, List, length, get_or, map, sym, ◌∙◌, ap, arith, inl, inr, subst}
use Rattle.std.specs.List.{Contains}
use Rattle.std.proofs.lemmas.List.{length-map}
use Rattle.std.proofs.lemmas.Bool.{cases_lt, cases_eq}
use Rattle.asp_clauses.specs.declared.watches.Watches.{Watches}
use Rattle.asp_clauses.specs.Literal.{negated}
use Rattle.asp_clauses.specs.Records.{row_at, literals_of}
use Rattle.asp_clauses.specs.Trail.{TrailState, IsPlaced, IsFalse, Implies}
use Rattle.asp_clauses.specs.Moves.{NextVisit}
use Rattle.asp_clauses.specs.Book.{BookState, visit_at, IsWatched, AllWatched, Goes}
use Rattle.asp_clauses.specs.Watches.{AreWatches, book_of}
use Rattle.asp_clauses.specs.Visits.{Extends, Propagates}
use Rattle.asp_clauses.specs.Choices.{IsVisit, IsFixpoint}
use Rattle.asp_clauses.proofs.FewLemmas.{not_both, not_placed}
use Rattle.asp_clauses.proofs.StoreLemmas.{clause_at-book}
use Rattle.asp_clauses.proofs.WatchLemmas.{length_literals, literal_in_row, cell_in_range, watches_differ}
use Rattle.asp_clauses.proofs.ChoiceLemmas.{placed_visited}
use Rattle.asp_clauses.proofs.ReorderLemmas.{SameClauses-trans, Contains-at}
use Rattle.asp_clauses.proofs.ExamineLemmas.{Extends-refl, Extends-trans}
use Rattle.asp_clauses.proofs.VisitLemmas.{watched_cells}

pub Propagates-trans : (a b c : Watches) (x y z : TrailState) → Propagates a b x y → Propagates b c y z → Propagates a c x z
Propagates-trans a b c x y z p q = record {
  watches = q.watches;
  goes = q.goes;
  clauses = SameClauses-trans (map literals_of a.records) (map literals_of b.records) (map literals_of c.records) p.clauses q.clauses;
  atoms = q.atoms ∙ p.atoms;
  extended = Extends-trans x y z p.extended q.extended;
}

pub as_many : (a b : Watches) (x y : TrailState) → Propagates a b x y → length b.records ≡ length a.records
as_many a b x y p =
    let e = p.clauses.as_many in let l = length-map a.records literals_of in let m = length-map b.records literals_of in omega (arith, e, l, m)

-- a visit is counted as done
pub Goes-advanced : (book : BookState) (old new : TrailState) → (let t : TrailState = record old { head = old.head + 1 } in new ≡ t) → old.head ≤ length old.steps → AllWatched book old.steps (old.head + 1) → Goes book old → Goes book new
Goes-advanced book old new e left visited g =
    let last = g.marks.last in
    subst (Goes book) (sym e) (record {
      same_atoms = g.same_atoms;
      lawful = g.lawful;
      counted = g.counted;
      bounded = g.bounded;
      marks = record {
        as_many = g.marks.as_many;
        each = g.marks.each;
        ordered = g.marks.ordered;
        last = λ level h. let l = last level h in omega (arith, l);
        visits = omega (arith, left);
      };
      watches = record { now = visited; back = g.watches.back };
    })

pub Extends-advanced : (old new : TrailState) → (let t : TrailState = record old { head = old.head + 1 } in new ≡ t) → Extends old new
Extends-advanced old new e =
    let same = Extends-refl old in
    subst (Extends old) (sym e) (same.0, record { steps = same.1.steps; implied = same.1.implied; count = same.1.count; atoms = same.1.atoms; budget = same.1.budget })

pub IsVisit-next : (trail : TrailState) (code : ℕ) → NextVisit trail code → IsVisit trail code
IsVisit-next trail code n = record { left = n.left; is = sym n.is; within = n.within }

-- ---- where all is visited, no clause is false and none is unit
all_visited : (trail : TrailState) (head code : ℕ) → head ≡ length trail.steps + 1 → code < 2 * trail.atoms → IsPlaced trail.steps (negated code) → (visit : ℕ) × (visit < head) × (visit_at trail.atoms trail.steps visit ≡ code)
all_visited trail head code e h p = let v = placed_visited trail.atoms trail.steps code p in (v.0, omega (arith, v.1, e), v.2)

pub IsFixpoint-from : (watches : Watches) (trail : TrailState) → AreWatches watches → Goes (book_of watches) trail → watches.watched ≡ length watches.records → trail.head ≡ length trail.steps + 1 → IsFixpoint (book_of watches) trail.steps
IsFixpoint-from watches trail w g all head number low =
    let len = length-map watches.records literals_of in
    let in_rows : number < length watches.records = omega (arith, low, len) in
    let row = row_at watches.records number in
    let r = w.store.records number in_rows in
    let some = w.store.not_empty number (omega (arith, in_rows, all)) in
    let atoms = g.same_atoms in
    let is = clause_at-book watches.records number in_rows in
    let cells = watched_cells watches.atoms row trail.steps trail.head r (subst (IsWatched watches.atoms trail.steps trail.head) is (g.watches.now number (omega (arith, in_rows, all)))) in
    let lit = length_literals watches.atoms row r in
    let d = g.lawful.distinct in
    let code0 = cell_in_range watches.atoms row 0 r some in
    let here : (code : ℕ) → code < 2 * trail.atoms → IsPlaced trail.steps (negated code) → (visit : ℕ) × (visit < trail.head) × (visit_at watches.atoms trail.steps visit ≡ code) = λ code h p.
    let v = all_visited trail trail.head code head h p in (v.0, v.1, ap (λ (n : ℕ). visit_at n trail.steps v.0) atoms ∙ v.2) in
    let contains0 : Contains (literals_of row) (get_or row 3 0) = subst (Contains (literals_of row)) (literal_in_row row 0 some) (Contains-at (literals_of row) 0 (omega (arith, lit, some))) in
    -- a clause of one literal: the origin was visited, so its literal is true
    let single : get_or row 0 0 < 2 → IsPlaced trail.steps (get_or row 3 0) = λ one. cells.1 0 (omega (arith, head)) (sym (r.one one)) in
    let contains1 : 1 < get_or row 0 0 → Contains (literals_of row) (get_or row 4 0) = λ two. subst (Contains (literals_of row)) (literal_in_row row 1 two) (Contains-at (literals_of row) 1 (omega (arith, lit, two))) in (
      λ f.
          let f' = subst (IsFalse trail.steps) is f in
          let first = f' (get_or row 3 0) contains0 in
          elim (cases_lt 1 (get_or row 0 0)) [
            | inl two ↦
                let second = f' (get_or row 4 0) (contains1 two) in
                let v = here (get_or row 3 0) (omega (arith, code0, atoms)) first in
                not_both trail.steps (get_or row 4 0) d (cells.0 v.0 v.1 v.2) second
            | inr one ↦ not_both trail.steps (get_or row 3 0) d (single (omega (arith, one))) first
          ],
      λ u.
          let literal = u.0 in let un = u.1 in
          let i = subst (λ (c : List ℕ). Implies trail.steps c literal) is u.2 in
          let open_literal : (other : ℕ) → other ≡ literal → IsPlaced trail.steps other → ⊥ = λ other e p. not_placed trail.steps literal other un (ap (λ (n : ℕ). n / 2) e) p in
          elim (cases_lt 1 (get_or row 0 0)) [
            | inl two ↦
                let code1 = cell_in_range watches.atoms row 1 r two in
                elim (cases_eq (get_or row 3 0) literal) [
                  | inl e ↦
                      let second = i.others_fail (get_or row 4 0) (contains1 two) (λ x. watches_differ watches.atoms row r some (e ∙ sym x)) in
                      let v = here (get_or row 4 0) (omega (arith, code1, atoms)) second in
                      open_literal (get_or row 3 0) e (cells.1 v.0 v.1 v.2)
                  | inr ne ↦
                      let first = i.others_fail (get_or row 3 0) contains0 ne in
                      let v = here (get_or row 3 0) (omega (arith, code0, atoms)) first in
                      let other_true = cells.0 v.0 v.1 v.2 in
                      elim (cases_eq (get_or row 4 0) literal) [
                        | inl e ↦ open_literal (get_or row 4 0) e other_true
                        | inr ne1 ↦ not_both trail.steps (get_or row 4 0) d other_true (i.others_fail (get_or row 4 0) (contains1 two) ne1)
                      ]
                ]
            | inr one ↦
                let first_true = single (omega (arith, one)) in
                elim (cases_eq (get_or row 3 0) literal) [
                  | inl e ↦ open_literal (get_or row 3 0) e first_true
                  | inr ne ↦ not_both trail.steps (get_or row 3 0) d first_true (i.others_fail (get_or row 3 0) contains0 ne)
                ]
          ],
    )
