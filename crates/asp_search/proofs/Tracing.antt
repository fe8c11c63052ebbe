-- lemmas on the way back from a false assumption
use Rattle.std.proofs.Common.{◌≡◌, ℕ, suc, ◌/◌, ◌<◌, ◌≤◌, true, false, List, [], ◌∷◌, ◌++◌, length, get_or, take, Some, refl, sym, ap, ◌∙◌, subst, ⊎_elim, inl, inr, arith}
use Rattle.std.specs.List.{Contains}
use Rattle.std.proofs.lemmas.List.{get_or_append_left, length_push}
use Rattle.std.proofs.lemmas.List.Elements.{Contains-push_cases}
use Rattle.std.proofs.lemmas.Bool.{cases_Bool, cases_lt}
use Rattle.asp_clauses.specs.declared.trail.Step.{Step}
use Rattle.asp_clauses.specs.Literal.{negated}
use Rattle.asp_clauses.specs.Trail.{step_at, literal_at, is_decision, decisions, IsPlaced, IsLawful, clause_at}
use Rattle.asp_search.specs.Meaning.{truth, MentionedIn, Mentions}
use Rattle.asp_search.specs.Analysis.{IsFixed, MarksReason}
use Rattle.asp_search.specs.Cores.{IsMarkedDecision, IsTrace, IsCore}
use Rattle.asp_search.specs.Solver.{AreAssumptions, DecidesAssumed}
use Rattle.asp_clauses.proofs.LiteralLemmas.{negated-half, negated-≢}
use Rattle.asp_search.proofs.Truth.{Contains-cases, true-negated}
use Rattle.asp_search.proofs.Trails.{has_reason, placed_before}
use Rattle.asp_search.proofs.Resolution.{all_grounded, fixed_true, Refutes-resolved, Refutes-kept}
use Rattle.asp_clauses.proofs.ReorderLemmas.{Contains-place}
use Rattle.asp_clauses.proofs.FewLemmas.{not_both}
use Rattle.asp_search.proofs.Marking.{same_place}

only : (x y : ℕ) → Contains (x ∷ []) y → x ≡ y
only x y c = ⊎_elim (λ (e : x ≡ y). e) (λ (t : Contains [] y). absurd (omega (arith, t.1))) (Contains-cases x [] y c)

module _ (atoms : ℕ) (clauses : List (List ℕ)) (steps : List Step) (lawful : IsLawful atoms clauses steps) where
  -- the false assumption alone
  pub IsTrace-start : (failed newly : ℕ) (marked : List ℕ) → IsPlaced steps (negated failed) → MarksReason steps (failed ∷ []) (decisions steps) [] marked newly → IsTrace clauses steps marked (length steps) (failed ∷ [])
  IsTrace-start failed newly marked placed b = record {
    refutes = record {
      none = λ v sat seen kept.
          let holds : truth v failed ≡ true = kept failed (0, omega arith, refl) in
          let fails : truth v (negated failed) ≡ true = ⊎_elim
          (λ (f : IsFixed steps (negated failed)). fixed_true atoms clauses clauses steps lawful (all_grounded atoms clauses steps lawful) v sat (negated failed) f)
          (λ (m : Contains marked (negated failed)). subst (λ (l : ℕ). truth v l ≡ true) placed.2 (seen placed.0 placed.1 placed.1 (subst (λ (l : ℕ). Contains marked l) (sym placed.2) m)))
          (b.covers failed (0, omega arith, refl) placed) in
          true-negated v failed fails holds;
    };
    levels = b.marked;
    some = omega arith;
    mentions = λ literal c.
        ⊎_elim
        (λ (h : Contains [] literal). absurd (omega (arith, h.1)))
        (λ (m : MentionedIn (failed ∷ []) (literal / 2)).
        let k = b.marked literal c in
        let half : literal_at steps k.place / 2 ≡ literal_at steps placed.0 / 2 = omega (arith, k.is, placed.2, negated-half failed, m.of_atom, only failed m.literal m.has) in
        let same : k.place ≡ placed.0 = same_place steps lawful.distinct k.place placed.0 k.within placed.1 half in
        inl (sym k.is ∙ (ap (λ (p : ℕ). literal_at steps p) same ∙ placed.2)))
        (b.mentions literal c);
    members = λ literal c. inl (sym (only failed literal c));
  }

  module _ (marked core : List ℕ) (place : ℕ) (within : place < length steps) (trace : IsTrace clauses steps marked (suc place) core) where
    pub IsTrace-resolved : (number newly : ℕ) (more : List ℕ) → (step_at steps place).reason ≡ Some number → MarksReason steps (clause_at clauses number) (decisions steps) marked more newly → IsTrace clauses steps more place core
    IsTrace-resolved number newly more reason b =
        let r = lawful.reasoned place within number reason in
        record {
          refutes = Refutes-resolved atoms clauses clauses steps lawful (all_grounded atoms clauses steps lawful) marked more core place number within reason (number, r.0, refl) b.grows b.covers trace.refutes;
          levels = b.marked;
          some = trace.some;
          mentions = λ literal c.
              ⊎_elim
              (λ (h : Contains marked literal). trace.mentions literal h)
              (λ (m : MentionedIn (clause_at clauses number) (literal / 2)). inr (record { number = number; within = r.0; mentioned = m }))
              (b.mentions literal c);
          members = λ literal c.
              ⊎_elim
              (λ (e : literal ≡ get_or core 0 0). inl e)
              (λ (d : IsMarkedDecision steps marked literal). inr (record { place = d.place; within = d.within; is = d.is; decided = d.decided; has = b.grows literal d.has }))
              (trace.members literal c);
        }

    pub first-push : get_or (core ++ literal_at steps place ∷ []) 0 0 ≡ get_or core 0 0
    first-push = get_or_append_left core (literal_at steps place ∷ []) 0 0 trace.some

    pub IsTrace-kept : Contains marked (literal_at steps place) → is_decision (step_at steps place) ≡ true → IsTrace clauses steps marked place (core ++ literal_at steps place ∷ [])
    IsTrace-kept m decided = record {
      refutes = Refutes-kept atoms clauses clauses steps lawful (all_grounded atoms clauses steps lawful) marked core place trace.refutes;
      levels = trace.levels;
      some = omega (arith, length_push core (literal_at steps place));
      mentions = λ literal c. rw first-push (trace.mentions literal c);
      members = λ literal c.
          rw first-push (⊎_elim
          (λ (h : Contains core literal). trace.members literal h)
          (λ (e : literal_at steps place ≡ literal). inr (record { place = place; within = within; is = e; decided = decided; has = subst (λ (l : ℕ). Contains marked l) e m }))
          (Contains-push_cases core (literal_at steps place) literal c));
    }

  -- the whole way back gives a core of the assumptions
  pub IsCore-from : (assumed marked core : List ℕ) (failed : ℕ) → AreAssumptions atoms assumed → DecidesAssumed assumed steps → Contains assumed failed → IsPlaced steps (negated failed) → get_or core 0 0 ≡ failed → IsTrace clauses steps marked 0 core → IsCore clauses assumed core
  IsCore-from assumed marked core failed assumptions decides has fails first trace = record {
    part = part;
    refuted = λ v sat all. trace.refutes.none v sat (λ p below inside m. absurd (omega (arith, below))) all;
    mentioned = λ literal c.
        ⊎_elim
        (λ (e : literal ≡ get_or core 0 0). subst (λ (l : ℕ). Mentions clauses (l / 2)) (sym (e ∙ first)) failed_mentioned)
        (λ (d : IsMarkedDecision steps marked literal).
        ⊎_elim
        (λ (e : literal ≡ negated (get_or core 0 0)). absurd (opposite_not_assumed (subst (λ (l : ℕ). Contains assumed l) (e ∙ ap (λ (l : ℕ). negated l) first) (decided_assumed literal d))))
        (λ (m : Mentions clauses (literal / 2)). m)
        (trace.mentions literal d.has))
        (trace.members literal c);
  } where
    -- a decision is assumed, since the false assumption isn't true
    decided_at : (p : ℕ) → p < length steps → is_decision (step_at steps p) ≡ true → Contains assumed (literal_at steps p)
    decided_at p within is =
        ⊎_elim
        (λ (c : Contains assumed (literal_at steps p)). c)
        (λ (all : (literal : ℕ) → Contains assumed literal → IsPlaced (take p steps) literal).
        let b = placed_before steps p failed (all failed has) in
        absurd (not_both steps failed lawful.distinct (b.0, b.2, b.3) fails))
        (decides p within is)

    decided_assumed : (literal : ℕ) → IsMarkedDecision steps marked literal → Contains assumed literal
    decided_assumed literal d = subst (λ (l : ℕ). Contains assumed l) d.is (decided_at d.place d.within d.decided)

    part : (literal : ℕ) → Contains core literal → Contains assumed literal
    part literal c =
        ⊎_elim
        (λ (e : literal ≡ get_or core 0 0). subst (λ (l : ℕ). Contains assumed l) (sym (e ∙ first)) has)
        (λ (d : IsMarkedDecision steps marked literal). decided_assumed literal d)
        (trace.members literal c)

    -- no two assumptions are on one atom
    opposite_not_assumed : Contains assumed (negated failed) → ⊥
    opposite_not_assumed c =
        let i = Contains-place assumed failed has in
        let j = Contains-place assumed (negated failed) c in
        ⊎_elim
        (λ (b : i.0 < j.0). assumptions.distinct i.0 j.0 b j.1 (omega (arith, i.2, j.2, negated-half failed)))
        (λ (u : j.0 ≤ i.0).
        ⊎_elim
        (λ (b : j.0 < i.0). assumptions.distinct j.0 i.0 b i.1 (omega (arith, i.2, j.2, negated-half failed)))
        (λ (w : i.0 ≤ j.0).
        let e : i.0 ≡ j.0 = omega (arith, u, w) in
        negated-≢ failed (sym j.2 ∙ (ap (λ (k : ℕ). get_or assumed k 0) (sym e) ∙ i.2)))
        (cases_lt j.0 i.0))
        (cases_lt i.0 j.0)

    failed_mentioned : Mentions clauses (failed / 2)
    failed_mentioned =
        ⊎_elim
        (λ (t : is_decision (step_at steps fails.0) ≡ true). absurd (opposite_not_assumed (subst (λ (l : ℕ). Contains assumed l) fails.2 (decided_at fails.0 fails.1 t))))
        (λ (f : is_decision (step_at steps fails.0) ≡ false).
        let n = has_reason (step_at steps fails.0) f in
        let r = lawful.reasoned fails.0 fails.1 n.0 n.1 in
        record { number = n.0; within = r.0; mentioned = record { literal = literal_at steps fails.0; has = r.1.has; of_atom = omega (arith, fails.2, negated-half failed) } })
        (cases_Bool (is_decision (step_at steps fails.0)))
