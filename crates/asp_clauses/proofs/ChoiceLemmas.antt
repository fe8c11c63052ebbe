-- The order in which literals became false.
use Rattle.std.proofs.Common.{◌≡◌, ◌≢◌, ℕ, zero, suc, ◌+◌, ◌*◌, ◌<◌, ◌≤◌, List, length, get_or, set, sym, ◌∙◌, ap, arith, inl, inr, subst, length-set}
use Rattle.std.specs.List.{swap}
use Rattle.std.specs.List.Sorted.{IsPermutation}
use Rattle.std.proofs.lemmas.List.Sorted.{IsPermutation-swap, IsPermutation-trans}
use Rattle.std.proofs.lemmas.Bool.{cases_lt, cases_eq}
use Rattle.asp_clauses.specs.declared.trail.Step.{Step}
use Rattle.asp_clauses.specs.declared.watches.Watches.{Watches}
use Rattle.asp_clauses.specs.Literal.{negated}
use Rattle.asp_clauses.specs.Records.{row_at, literals_of}
use Rattle.asp_clauses.specs.Trail.{TrailState, IsPlaced, literal_at}
use Rattle.asp_clauses.specs.Book.{visit_at}
use Rattle.asp_clauses.specs.Watches.{IsStore}
use Rattle.asp_clauses.specs.Choices.{IsLatest, IsFalseBy, IsLastFrom, Chooses, Orders}
use Rattle.asp_clauses.proofs.LiteralLemmas.{negated-negated}
use Rattle.asp_clauses.proofs.WatchLemmas.{swap_first, swap_second, swap_other, row_size, length_literals, literals_of-swap, IsRecord-swap, row_set_same, row_set_other}
use Rattle.asp_clauses.proofs.MoveLemmas.{IsStore-row}

-- what was visited is false
pub visited_placed : (atoms : ℕ) (steps : List Step) (visit code : ℕ) → code < 2 * atoms → visit ≤ length steps → visit_at atoms steps visit ≡ code → IsPlaced steps (negated code)
visited_placed atoms steps zero code h l e = absurd (omega arith)
visited_placed atoms steps (suc place) code h l e = (place, omega arith, sym (negated-negated (literal_at steps place)) ∙ ap negated e)

-- what is false was visited, or will be
pub placed_visited : (atoms : ℕ) (steps : List Step) (code : ℕ) → IsPlaced steps (negated code) → (visit : ℕ) × (visit ≤ length steps) × (visit_at atoms steps visit ≡ code)
placed_visited atoms steps code p = (suc p.0, omega (arith, p.1), ap negated p.2 ∙ negated-negated code)

-- the number for a literal that isn't false
pub IsLatest-none : (trail : TrailState) (literal : ℕ) → literal < 2 * trail.atoms → (IsPlaced trail.steps (negated literal) → ⊥) → IsLatest trail literal (length trail.steps + 1)
IsLatest-none trail literal h stands = record {
  fails = λ l. absurd (omega arith);
  only = λ v l e. absurd (stands (visited_placed trail.atoms trail.steps v literal h l e));
}

-- the best of the literals that were looked at
pub record IsBest (trail : TrailState) (row : List ℕ) (index other best : ℕ) : Type 0 where
  pub low : index ≤ best
  pub high : best < other
  pub last : (o visit : ℕ) → index ≤ o → o < other → visit ≤ length trail.steps → visit_at trail.atoms trail.steps visit ≡ get_or row (3 + best) 0 → IsFalseBy trail (get_or row (3 + o) 0) visit

pub IsBest-keeps : (trail : TrailState) (row : List ℕ) (index other best x y : ℕ) → IsBest trail row index other best → IsLatest trail (get_or row (3 + best) 0) x → IsLatest trail (get_or row (3 + other) 0) y → y ≤ x → IsBest trail row index (other + 1) best
IsBest-keeps trail row index other best x y b lx ly h =
    let high = b.high in record {
      low = b.low;
      high = omega arith;
      last = λ o visit a c l e. elim (cases_lt o other) [
        | inl lt ↦ b.last o visit a lt l e
        | inr ge ↦
            let same : o ≡ other = omega arith in
            let is : visit ≡ x = lx.only visit l e in
            (y, omega (arith, is), ly.fails (omega (arith, is)) ∙ sym (ap (λ (n : ℕ). get_or row (3 + n) 0) same))
      ];
    }

pub IsBest-takes : (trail : TrailState) (row : List ℕ) (index other best x y : ℕ) → IsBest trail row index other best → IsLatest trail (get_or row (3 + best) 0) x → IsLatest trail (get_or row (3 + other) 0) y → x < y → IsBest trail row index (other + 1) other
IsBest-takes trail row index other best x y b lx ly h =
    let high = b.high in let low = b.low in record {
      low = omega arith;
      high = omega arith;
      last = λ o visit a c l e.
          let is : visit ≡ y = ly.only visit l e in
          elim (cases_lt o other) [
            | inl lt ↦ let f = b.last o x a lt (omega (arith, is)) (lx.fails (omega (arith, is))) in (f.0, omega (arith, f.1, is), f.2)
            | inr ge ↦ let same : o ≡ other = omega arith in (visit, omega arith, e ∙ sym (ap (λ (n : ℕ). get_or row (3 + n) 0) same))
          ];
    }

-- the best comes to the index
pub Chooses-best : (old new : Watches) (trail : TrailState) (clause index best : ℕ) → IsStore old → clause < length old.records → index < get_or (row_at old.records clause) 0 0 → best < get_or (row_at old.records clause) 0 0 →
    IsBest trail (row_at old.records clause) index (get_or (row_at old.records clause) 0 0) best → (let w : Watches = record old { records = new.records } in new ≡ w) → new.records ≡ set old.records clause (swap (row_at old.records clause) (3 + index) (3 + best)) → Chooses old new trail clause index
Chooses-best old new trail clause index best s h hi hb b same records =
    let row = row_at old.records clause in
    let r = s.records clause h in
    let size = row_size old.atoms row r in
    let li : 3 + index < length row = omega (arith, size.1, hi) in let lb : 3 + best < length row = omega (arith, size.1, hb) in
    let new_row = swap row (3 + index) (3 + best) in
    let here : row_at new.records clause ≡ new_row = ap (λ (x : List (List ℕ)). row_at x clause) records ∙ row_set_same old.records clause new_row h in
    let new_size : get_or new_row 0 0 ≡ get_or row 0 0 = swap_other row (3 + index) (3 + best) 0 li lb (omega arith) (omega arith) in
    let low = b.low in
    record {
      same = same;
      best = (best, low, hb, records);
      last = subst (λ (x : List ℕ). IsLastFrom trail x index index) (sym here) (λ o visit a c l e.
          let lt : o < get_or row 0 0 = omega (arith, c, new_size) in
          let then_best : visit_at trail.atoms trail.steps visit ≡ get_or row (3 + best) 0 = e ∙ swap_first row (3 + index) (3 + best) li lb in
          elim (cases_eq o index) [
            | inl is ↦ (visit, omega arith, e ∙ sym (ap (λ (n : ℕ). get_or new_row (3 + n) 0) is))
            | inr ni ↦ elim (cases_eq o best) [
              | inl is ↦ let f = b.last index visit (omega arith) hi l then_best in (f.0, f.1, f.2 ∙ sym (ap (λ (n : ℕ). get_or new_row (3 + n) 0) is ∙ swap_second row (3 + index) (3 + best) li lb))
              | inr nb ↦ let f = b.last o visit a lt l then_best in (f.0, f.1, ◌∙◌ {a = visit_at trail.atoms trail.steps f.0} f.2 (sym (swap_other row (3 + index) (3 + best) (3 + o) li lb (omega (arith, ni)) (omega (arith, nb)))))
            ]
          ]);
    }

-- what an exchange of literals leaves
pub record Exchanged (old new : Watches) (clause index best : ℕ) : Type 0 where
  pub store : IsStore new
  pub as_many : length new.records ≡ length old.records
  pub others : (number : ℕ) → number ≢ clause → row_at new.records number ≡ row_at old.records number
  pub here : row_at new.records clause ≡ swap (row_at old.records clause) (3 + index) (3 + best)
  pub size : get_or (row_at new.records clause) 0 0 ≡ get_or (row_at old.records clause) 0 0
  pub reordered : IsPermutation (literals_of (row_at old.records clause)) (literals_of (row_at new.records clause))

pub exchanged : (old new : Watches) (clause index best : ℕ) → IsStore old → clause < length old.records → index < get_or (row_at old.records clause) 0 0 → best < get_or (row_at old.records clause) 0 0 →
    (let w : Watches = record old { records = new.records } in new ≡ w) → new.records ≡ set old.records clause (swap (row_at old.records clause) (3 + index) (3 + best)) → Exchanged old new clause index best
exchanged old new clause index best s h hi hb same records =
    let row = row_at old.records clause in
    let r = s.records clause h in
    let size = row_size old.atoms row r in
    let lit = length_literals old.atoms row r in
    let li : 3 + index < length row = omega (arith, size.1, hi) in let lb : 3 + best < length row = omega (arith, size.1, hb) in
    let new_row = swap row (3 + index) (3 + best) in
    let here : row_at new.records clause ≡ new_row = ap (λ (x : List (List ℕ)). row_at x clause) records ∙ row_set_same old.records clause new_row h in
    let new_size : get_or new_row 0 0 ≡ get_or row 0 0 = swap_other row (3 + index) (3 + best) 0 li lb (omega arith) (omega arith) in
    record {
      store = IsStore-row old new clause new_row s (ap (λ (w : Watches). w.atoms) same) (ap (λ (w : Watches). w.watched) same) (ap (λ (w : Watches). length w.heads.items) same) records h (IsRecord-swap old.atoms row index best r hi hb) new_size;
      as_many = ap length records ∙ length-set old.records clause new_row;
      others = λ number ne. ap (λ (x : List (List ℕ)). row_at x number) records ∙ row_set_other old.records clause number new_row ne;
      here = here;
      size = ap (λ (x : List ℕ). get_or x 0 0) here ∙ new_size;
      reordered = IsPermutation-swap (literals_of row) (literals_of (row_at new.records clause)) index best (omega (arith, lit, hi)) (omega (arith, lit, hb)) (ap literals_of here ∙ literals_of-swap old.atoms row index best r hi hb);
    }

-- after the first choice alone, where the clause has one literal
pub Orders-one : (old new : Watches) (trail : TrailState) (clause : ℕ) → IsStore old → clause < length old.records → 0 < get_or (row_at old.records clause) 0 0 → Chooses old new trail clause 0 → get_or (row_at new.records clause) 0 0 ≡ 1 → Orders old new trail clause
Orders-one old new trail clause s h some c one =
    let x = exchanged old new clause 0 c.best.0 s h some c.best.2 c.same c.best.3 in
    record {
      same = c.same;
      store = x.store;
      as_many = x.as_many;
      others = x.others;
      size = x.size;
      reordered = x.reordered;
      first = c.last;
      second = λ other visit a b l e. absurd (omega (arith, a, b, one));
    }

swapped_place : (row : List ℕ) (best other size : ℕ) → 1 < size → best < size → other < size → 3 + size ≤ length row → (place : ℕ) × (place < size) × (get_or (swap row 4 (3 + best)) (3 + other) 0 ≡ get_or row (3 + place) 0)
swapped_place row best other size h hb ho l =
    let l1 : 4 < length row = omega arith in let lb : 3 + best < length row = omega arith in
    elim (cases_eq other 1) [
      | inl is ↦ (best, hb, ap (λ (n : ℕ). get_or (swap row 4 (3 + best)) (3 + n) 0) is ∙ swap_first row 4 (3 + best) l1 lb)
      | inr n1 ↦ elim (cases_eq other best) [
        | inl is ↦ (1, h, ap (λ (n : ℕ). get_or (swap row 4 (3 + best)) (3 + n) 0) is ∙ swap_second row 4 (3 + best) l1 lb)
        | inr nb ↦ (other, ho, swap_other row 4 (3 + best) (3 + other) l1 lb (omega (arith, n1)) (omega (arith, nb)))
      ]
    ]

-- after both choices
pub Orders-two : (old one two : Watches) (trail : TrailState) (clause : ℕ) → IsStore old → clause < length old.records → 0 < get_or (row_at old.records clause) 0 0 → Chooses old one trail clause 0 → 1 < get_or (row_at one.records clause) 0 0 → Chooses one two trail clause 1 → Orders old two trail clause
Orders-two old one two trail clause s h some c more d =
    let x = exchanged old one clause 0 c.best.0 s h some c.best.2 c.same c.best.3 in
    let h1 : clause < length one.records = omega (arith, x.as_many, h) in
    let y = exchanged one two clause 1 d.best.0 x.store h1 more d.best.2 d.same d.best.3 in
    let row = row_at one.records clause in
    let r = x.store.records clause h1 in
    let size = row_size one.atoms row r in
    let first_kept : get_or (row_at two.records clause) 3 0 ≡ get_or row 3 0 = ap (λ (z : List ℕ). get_or z 3 0) y.here ∙ swap_other row 4 (3 + d.best.0) 3 (omega (arith, size.0)) (omega (arith, size.1, d.best.2)) (omega arith) (omega (arith, d.best.1)) in
    let records_only : two ≡ (let w : Watches = record old { records = two.records } in w) = d.same ∙ ap (λ (v : Watches). let w : Watches = record v { records = two.records } in w) c.same in
    record {
      same = records_only;
      store = y.store;
      as_many = y.as_many ∙ x.as_many;
      others = λ number ne. y.others number ne ∙ x.others number ne;
      size = y.size ∙ x.size;
      reordered = IsPermutation-trans (literals_of (row_at old.records clause)) (literals_of row) (literals_of (row_at two.records clause)) x.reordered y.reordered;
      first = λ other visit a b l e.
          let place = swapped_place row d.best.0 other (get_or row 0 0) more d.best.2 (omega (arith, b, y.size)) size.1 in
          let f = c.last place.0 visit (omega arith) place.1 l (e ∙ first_kept) in
          (f.0, f.1, ◌∙◌ {a = visit_at trail.atoms trail.steps f.0} f.2 (sym place.2 ∙ sym (ap (λ (z : List ℕ). get_or z (3 + other) 0) y.here)));
      second = d.last;
    }
