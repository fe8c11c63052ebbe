-- Marks whose heads are lowered.
use Rattle.std.proofs.Common.{◌≡◌, ◌≢◌, ℕ, ◌-◌, ◌<◌, ◌≤◌, List, length, set, min, refl, sym, ◌∙◌, ap, arith, inl, inr, subst}
use Rattle.std.proofs.lemmas.List.{get_or-set_same, get_or-set_other}
use Rattle.std.proofs.lemmas.Bool.{cases_eq}
use Rattle.asp_clauses.specs.declared.trail.Step.{Step}
use Rattle.asp_clauses.specs.declared.trail.Mark.{Mark}
use Rattle.asp_clauses.specs.Trail.{no_mark, mark_at}
use Rattle.asp_clauses.specs.Tables.{IsMark, AreMarks}
use Rattle.asp_clauses.specs.Moves.{lowered}

-- what the loop keeps: the marks from a level on are lowered
pub record LoweredFrom (before now : List Mark) (count visit level : ℕ) : Type 0 where
  pub within : level ≤ count
  pub same : (k : ℕ) → k < level → mark_at now k ≡ mark_at before k
  pub low : (k : ℕ) → level ≤ k → k < count → mark_at now k ≡ lowered visit (mark_at before k)

pub LoweredFrom-none : (marks : List Mark) (count visit : ℕ) → LoweredFrom marks marks count visit count
LoweredFrom-none marks count visit = record { within = omega arith; same = λ k h. refl; low = λ k a b. absurd (omega arith) }

lowered_at : (visit : ℕ) (mark : Mark) → visit ≤ mark.head → (let m : Mark = record mark { head = visit } in m) ≡ lowered visit mark
lowered_at visit mark h = let e : visit ≡ min mark.head visit = omega arith in ap (λ (n : ℕ). let m : Mark = record { start = mark.start; head = n } in m) e

pub LoweredFrom-more : (before now : List Mark) (count visit level : ℕ) (mark : Mark) → count ≤ length now → 0 < level → LoweredFrom before now count visit level → mark ≡ mark_at now (level - 1) → visit < mark.head →
    LoweredFrom before (set now (level - 1) (record mark { head = visit })) count visit (level - 1)
LoweredFrom-more before now count visit level mark len some l e h =
    let new : Mark = record mark { head = visit } in
    let within = l.within in
    record {
      within = omega arith;
      same = λ k lt. let ne : k ≢ level - 1 = omega arith in get_or-set_other now (level - 1) k new no_mark ne ∙ l.same k (omega arith);
      low = λ k a b. elim (cases_eq k (level - 1)) [
        | inl same ↦
            ap (λ (x : ℕ). mark_at (set now (level - 1) new) x) same ∙ get_or-set_same now (level - 1) new no_mark (omega arith) ∙ lowered_at visit mark (omega arith)
            ∙ ap (lowered visit) (e ∙ l.same (level - 1) (omega arith)) ∙ sym (ap (λ (x : ℕ). lowered visit (mark_at before x)) same)
        | inr ne ↦ get_or-set_other now (level - 1) k new no_mark ne ∙ l.low k (omega (arith, ne)) b
      ];
    }

-- lowered marks are marks
pub AreMarks-lowered : (steps : List Step) (marks new : List Mark) (head visit : ℕ) → AreMarks steps marks head → length new ≡ length marks → ((level : ℕ) → level < length marks → mark_at new level ≡ lowered visit (mark_at marks level)) → AreMarks steps new head
AreMarks-lowered steps marks new head visit m len low = record {
  as_many = len ∙ m.as_many;
  each = λ level h. let e = m.each level (omega (arith, len)) in let visits = e.visits in subst (IsMark steps level) (sym (low level (omega (arith, len)))) (record {
    within = e.within;
    decision = e.decision;
    before = e.before;
    visits = omega (arith, visits);
  });
  ordered = λ i j ij h.
      let o = m.ordered i j ij (omega (arith, len)) in
      let a = ap (λ (x : Mark). x.head) (low i (omega (arith, len))) in let b = ap (λ (x : Mark). x.head) (low j (omega (arith, len))) in omega (arith, a, b, o);
  last = λ level h. let l = m.last level (omega (arith, len)) in let a = ap (λ (x : Mark). x.head) (low level (omega (arith, len))) in omega (arith, a, l);
  visits = m.visits;
}
