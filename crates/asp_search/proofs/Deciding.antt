-- lemmas on decisions, on the cursor over the assumptions, and on what a full trail satisfies
use Rattle.std.proofs.Common.{◌≡◌, ℕ, ◌+◌, ◌*◌, ◌/◌, ◌%◌, ◌<◌, ◌≤◌, ◌⊎◌, true, false, List, [], ◌∷◌, ◌++◌, length, get_or, refl, sym, ap, ◌∙◌, subst, ⊎_elim, inl, inr, arith}
use Rattle.std.specs.List.{Contains}
use Rattle.std.proofs.lemmas.List.{get_or_push, length_push, length-map, get_or-map}
use Rattle.std.proofs.lemmas.Bool.{cases_lt, not_from_false}
use Rattle.asp_clauses.specs.declared.trail.Step.{Step}
use Rattle.asp_clauses.specs.Literal.{negated}
use Rattle.asp_clauses.specs.Trail.{no_step, literal_at, decisions, IsPlaced, IsUnassigned, IsFalse, clause_at}
use Rattle.asp_clauses.specs.Book.{BookState}
use Rattle.asp_clauses.specs.Choices.{IsFixpoint}
use Rattle.asp_search.specs.Meaning.{truth, SatisfiesAll}
use Rattle.asp_search.specs.Analysis.{AreApart, is_member}
use Rattle.asp_search.specs.Solver.{IsCursor, AreInRange}
use Rattle.asp_decide.specs.Total.{IsTotal}
use Rattle.asp_search.specs.Found.{literals_of, assignment_of}
use Rattle.asp_clauses.proofs.LiteralLemmas.{is_even, negated_even, negated_odd, same_half}
use Rattle.asp_search.proofs.Truth.{truth-odd, truth-even, Contains-tail, Contains-cases}
use Rattle.asp_search.proofs.Trails.{level_at-le-decisions}
use Rattle.asp_search.proofs.Counting.{member-Contains, not_member}
use Rattle.asp_clauses.proofs.ReorderLemmas.{Contains-place}
use Rattle.asp_clauses.proofs.FewLemmas.{not_both}
use Rattle.asp_search.proofs.Stepping.{Begins-append, level_at-begins, decisions-push-le, IsHeld-begins}

-- ---- the cursor

-- over an assumption that is true
pub IsCursor-more : (assumed : List ℕ) (steps : List Step) (cursor held : ℕ) → cursor < length assumed → IsPlaced steps (get_or assumed cursor 0) → IsCursor assumed steps cursor held → IsCursor assumed steps (cursor + 1) (decisions steps)
IsCursor-more assumed steps cursor held inside placed c = record {
  within = omega (arith, inside);
  placed = λ i h.
      ⊎_elim
      (λ (b : i < cursor).
      let q = c.placed i b in
      record { place = q.place; within = q.within; is = q.is; level = q.level; by_held = level_at-le-decisions steps q.place })
      (λ (u : cursor ≤ i).
      let e : cursor ≡ i = omega (arith, h, u) in
      record {
        place = placed.0;
        within = placed.1;
        is = placed.2 ∙ ap (λ (k : ℕ). get_or assumed k 0) e;
        level = omega (arith, level_at-le-decisions steps placed.0, c.decided inside, e);
        by_held = level_at-le-decisions steps placed.0;
      })
      (cases_lt i cursor);
  decided = λ h. omega (arith, c.decided inside);
}

-- over an assumption that was just decided
pub IsCursor-decided : (assumed : List ℕ) (old : List Step) (step : Step) (cursor held : ℕ) → cursor < length assumed → get_or assumed cursor 0 ≡ step.literal → IsCursor assumed old cursor held → IsCursor assumed (old ++ step ∷ []) (cursor + 1) (decisions (old ++ step ∷ []))
IsCursor-decided assumed old step cursor held inside is c =
    let new = old ++ step ∷ [] in
    let b = Begins-append old (step ∷ []) in
    record {
      within = omega (arith, inside);
      placed = λ i h.
          ⊎_elim
          (λ (low : i < cursor).
          let q = c.placed i low in
          record {
            place = q.place;
            within = omega (arith, q.within, length_push old step);
            is = ap (λ (s : Step). s.literal) (b.same q.place q.within) ∙ q.is;
            level = omega (arith, q.level, level_at-begins old new (length old) q.place b q.within);
            by_held = level_at-le-decisions new q.place;
          })
          (λ (u : cursor ≤ i).
          let e : cursor ≡ i = omega (arith, h, u) in
          record {
            place = length old;
            within = omega (arith, length_push old step);
            is = ap (λ (s : Step). s.literal) (get_or_push old step no_step (length old) refl) ∙ (sym is ∙ ap (λ (k : ℕ). get_or assumed k 0) e);
            level = omega (arith, level_at-le-decisions new (length old), decisions-push-le old step, c.decided inside, e);
            by_held = level_at-le-decisions new (length old);
          })
          (cases_lt i cursor);
      decided = λ h. omega (arith, decisions-push-le old step, c.decided inside);
    }

-- past all assumptions
pub IsCursor-past : (assumed : List ℕ) (old : List Step) (step : Step) (cursor held : ℕ) → length assumed ≤ cursor → IsCursor assumed old cursor held → IsCursor assumed (old ++ step ∷ []) cursor held
IsCursor-past assumed old step cursor held past c =
    let new = old ++ step ∷ [] in
    let b = Begins-append old (step ∷ []) in
    record {
      within = c.within;
      placed = λ i h. IsHeld-begins assumed old new (length old) held i b (c.placed i h) (c.placed i h).within;
      decided = λ h. absurd (omega (arith, h, past));
    }

pub all_true-past : (assumed : List ℕ) (steps : List Step) (cursor held : ℕ) → length assumed ≤ cursor → IsCursor assumed steps cursor held → (literal : ℕ) → Contains assumed literal → IsPlaced steps literal
all_true-past assumed steps cursor held past c literal has =
    let k = Contains-place assumed literal has in
    let q = c.placed k.0 (omega (arith, k.1, past)) in
    (q.place, q.within, q.is ∙ k.2)

-- ---- what is unassigned

pub unassigned_from : (steps : List Step) (literal : ℕ) → (IsPlaced steps literal → ⊥) → (IsPlaced steps (negated literal) → ⊥) → IsUnassigned steps literal
unassigned_from steps literal itself opposite place within same =
    ⊎_elim
    (λ (e : literal_at steps place ≡ literal). itself (place, within, e))
    (λ (e : literal_at steps place ≡ negated literal). opposite (place, within, e))
    (same_half (literal_at steps place) literal same)

-- ---- a full trail

pub Contains-literals : (steps : List Step) (literal : ℕ) → IsPlaced steps literal → Contains (literals_of steps) literal
Contains-literals steps literal placed =
    (placed.0, omega (arith, placed.1, length-map steps (λ (s : Step). s.literal)), get_or-map (λ (s : Step). s.literal) steps placed.0 no_step literal placed.1 ∙ placed.2)

pub placed_from : (steps : List Step) (literal : ℕ) → Contains (literals_of steps) literal → IsPlaced steps literal
placed_from steps literal c =
    let within : c.0 < length steps = omega (arith, c.1, length-map steps (λ (s : Step). s.literal)) in
    (c.0, within, sym (get_or-map (λ (s : Step). s.literal) steps c.0 no_step literal within) ∙ c.2)

-- a placed literal is true under the trail's assignment
pub truth_placed : (steps : List Step) → AreApart steps → (literal : ℕ) → IsPlaced steps literal → truth (assignment_of (literals_of steps)) literal ≡ true
truth_placed steps apart literal placed =
    let v = assignment_of (literals_of steps) in
    ⊎_elim
    (λ (even : literal % 2 ≡ 0).
    let code : 2 * (literal / 2) + 1 ≡ negated literal = omega (arith, negated_even literal even) in
    let absent : is_member (literals_of steps) (2 * (literal / 2) + 1) ≡ false = not_member (literals_of steps) (2 * (literal / 2) + 1) (λ c. not_both steps literal apart placed (subst (λ (l : ℕ). IsPlaced steps l) code (placed_from steps (2 * (literal / 2) + 1) c))) in
    truth-even v literal even ∙ not_from_false _ absent)
    (λ (odd : literal % 2 ≡ 1).
    let code : 2 * (literal / 2) + 1 ≡ literal = omega (arith, odd) in
    truth-odd v literal odd ∙ member-Contains (literals_of steps) (2 * (literal / 2) + 1) (subst (λ (l : ℕ). Contains (literals_of steps) l) (sym code) (Contains-literals steps literal placed)))
    (is_even literal)

-- the clause has a true literal, or all are false
placed_or_false : (steps : List Step) (clause : List ℕ) → ((literal : ℕ) → Contains clause literal → IsPlaced steps literal ⊎ IsPlaced steps (negated literal)) → ((literal : ℕ) × Contains clause literal × IsPlaced steps literal) ⊎ IsFalse steps clause
placed_or_false steps [] decided = inr (λ literal c. absurd (omega (arith, c.1)))
placed_or_false steps (x ∷ xs) decided =
    ⊎_elim
    (λ (p : IsPlaced steps x). inl (x, (0, omega arith, refl), p))
    (λ (n : IsPlaced steps (negated x)).
    ⊎_elim
    (λ (r : (literal : ℕ) × Contains xs literal × IsPlaced steps literal). inl (r.0, Contains-tail x xs r.0 r.1, r.2))
    (λ (f : IsFalse steps xs). inr (λ literal c. ⊎_elim (λ (e : x ≡ literal). subst (λ (l : ℕ). IsPlaced steps (negated l)) e n) (λ (t : Contains xs literal). f literal t) (Contains-cases x xs literal c)))
    (placed_or_false steps xs (λ literal c. decided literal (Contains-tail x xs literal c))))
    (decided x (0, omega arith, refl))

has_value : (atoms : ℕ) (steps : List Step) → IsTotal atoms steps → (literal : ℕ) → literal < 2 * atoms → IsPlaced steps literal ⊎ IsPlaced steps (negated literal)
has_value atoms steps total literal low =
    ⊎_elim
    (λ (p : IsPlaced steps (2 * (literal / 2) + 1)).
    ⊎_elim
    (λ (even : literal % 2 ≡ 0). inr (subst (λ (l : ℕ). IsPlaced steps l) (omega (arith, negated_even literal even)) p))
    (λ (odd : literal % 2 ≡ 1). inl (subst (λ (l : ℕ). IsPlaced steps l) (omega (arith, odd)) p))
    (is_even literal))
    (λ (p : IsPlaced steps (2 * (literal / 2))).
    ⊎_elim
    (λ (even : literal % 2 ≡ 0). inl (subst (λ (l : ℕ). IsPlaced steps l) (omega (arith, even)) p))
    (λ (odd : literal % 2 ≡ 1). inr (subst (λ (l : ℕ). IsPlaced steps l) (omega (arith, negated_odd literal (omega arith))) p))
    (is_even literal))
    (total (literal / 2) (omega (arith, low)))

pub clauses_satisfied : (book : BookState) (atoms : ℕ) (steps : List Step) → AreApart steps → AreInRange atoms book.clauses → IsTotal atoms steps → IsFixpoint book steps → SatisfiesAll (assignment_of (literals_of steps)) book.clauses
clauses_satisfied book atoms steps apart ranges total fixpoint n within =
    ⊎_elim
    (λ (r : (literal : ℕ) × Contains (clause_at book.clauses n) literal × IsPlaced steps literal). record { literal = r.0; has = r.1; holds = truth_placed steps apart r.0 r.2 })
    (λ (f : IsFalse steps (clause_at book.clauses n)). absurd ((fixpoint n within).0 f))
    (placed_or_false steps (clause_at book.clauses n) (λ literal c. has_value atoms steps total literal (ranges n literal within c)))
