-- lemmas on marks beside those of an analysis
use Rattle.std.proofs.Common.{◌≡◌, ◌≢◌, ℕ, ◌-◌, ◌/◌, ◌<◌, ◌≤◌, ◌⊎◌, List, [], ◌∷◌, ◌++◌, length, get_or, take, Some, refl, sym, ap, ◌∙◌, subst, ⊎_elim, inl, inr, arith}
use Rattle.std.specs.List.{Contains}
use Rattle.std.proofs.lemmas.List.{append_assoc, append-nil, take_at, length-append, get_or_append_left, get_or-append_right}
use Rattle.std.proofs.lemmas.List.Elements.{Contains-append_left, Contains-append_cases}
use Rattle.asp_clauses.specs.declared.trail.Step.{Step}
use Rattle.asp_clauses.specs.Literal.{negated}
use Rattle.asp_clauses.specs.Trail.{literal_at, level_at, step_at, clause_at, IsLawful}
use Rattle.asp_search.specs.Analysis.{IsCut}
use Rattle.asp_search.specs.Minimize.{IsBelow, MarksBelow, MarksOne}
use Rattle.asp_clauses.proofs.LiteralLemmas.{negated-half}
use Rattle.asp_clauses.proofs.ReorderLemmas.{Contains-at}
use Rattle.asp_search.proofs.Truth.{Contains-cases}
use Rattle.asp_search.proofs.Trails.{level_at-le, placed_before}
use Rattle.asp_search.specs.Learned.{Has}
use Rattle.asp_search.proofs.Marking.{same_place-literal, mentions_based}

module _ (base : List (List ℕ)) (steps : List Step) (level : ℕ) where
  pub MarksBelow-none : (old new : List ℕ) → new ≡ old → MarksBelow base steps level old new
  MarksBelow-none old new same = record {
    added = [];
    is = same ∙ sym (append-nil old);
    each = λ literal c. absurd (omega (arith, c.1));
  }

  pub MarksBelow-then : (old middle new : List ℕ) → MarksBelow base steps level old middle → MarksBelow base steps level middle new → MarksBelow base steps level old new
  MarksBelow-then old middle new a b = record {
    added = a.added ++ b.added;
    is = b.is ∙ (ap (λ (l : List ℕ). l ++ b.added) a.is ∙ append_assoc old a.added b.added);
    each = λ literal c.
        ⊎_elim
        (λ (h : Contains a.added literal). a.each literal h)
        (λ (h : Contains b.added literal). b.each literal h)
        (Contains-append_cases a.added b.added literal c);
  }

  -- the first marks are the old ones
  pub MarksBelow-cut : (old new : List ℕ) (count : ℕ) → count ≡ length old → MarksBelow base steps level old new → take count new ≡ old
  MarksBelow-cut old new count same m = ap (λ (l : List ℕ). take count l) m.is ∙ take_at old m.added count (sym same)

  pub MarksBelow-old : (old new : List ℕ) (k : ℕ) → k < length old → MarksBelow base steps level old new → get_or new k 0 ≡ get_or old k 0
  MarksBelow-old old new k low m = ap (λ (l : List ℕ). get_or l k 0) m.is ∙ get_or_append_left old m.added 0 k low

  pub MarksBelow-longer : (old new : List ℕ) → MarksBelow base steps level old new → length old ≤ length new
  MarksBelow-longer old new m = omega (arith, ap (λ (l : List ℕ). length l) m.is, length-append old m.added)

  -- a later one is below the level
  pub MarksBelow-new : (old new : List ℕ) (k literal : ℕ) → length old ≤ k → k < length new → literal ≡ get_or new k 0 → MarksBelow base steps level old new → IsBelow base steps level literal
  MarksBelow-new old new k literal low within is m =
      let size = ap (λ (l : List ℕ). length l) m.is in
      let inside : k - length old < length m.added = omega (arith, low, within, size, length-append old m.added) in
      let reads : get_or m.added (k - length old) 0 ≡ literal = sym (is ∙ (ap (λ (l : List ℕ). get_or l k 0) m.is ∙ get_or-append_right old m.added (length old) k 0 refl low)) in
      subst (λ (l : ℕ). IsBelow base steps level l) reads (m.each (get_or m.added (k - length old) 0) (Contains-at m.added (k - length old) inside))

  -- what makes a literal of a reason false is below the level where the implied literal is
  pub MarksBelow-one : (atoms : ℕ) (clauses : List (List ℕ)) → IsLawful atoms clauses steps → (literal other number : ℕ) (old new : List ℕ) (b : IsBelow base steps level literal) → (step_at steps b.place).reason ≡ Some number → Has base (clause_at clauses number)
      → Contains (clause_at clauses number) other → MarksOne steps literal other old new → MarksBelow base steps level old new
  MarksBelow-one atoms clauses lawful literal other number old new b reason based has how =
      ⊎_elim
      (λ (same : new ≡ old). MarksBelow-none old new same)
      (λ (m : (new ≡ old ++ negated other ∷ []) × (other ≢ literal) × ((place : ℕ) → place < length steps → literal_at steps place ≡ negated other → 0 < level_at steps place)).
      let r = lawful.reasoned b.place b.within number reason in
      let q = placed_before steps b.place (negated other) (r.1.others_fail other has (λ (e : other ≡ literal_at steps b.place). m.1 (e ∙ b.is))) in
      record {
        added = negated other ∷ [];
        is = m.0;
        each = λ l c.
            ⊎_elim
            (λ (e : negated other ≡ l).
            subst (λ (x : ℕ). IsBelow base steps level x) e (record {
              place = q.0;
              within = q.2;
              is = q.3;
              above = m.2 q.0 q.2 q.3;
              below = omega (arith, b.below, level_at-le steps q.0 b.place (omega (arith, q.1)));
              mentioned = mentions_based base (clause_at clauses number) (negated other / 2) based (record { literal = other; has = has; of_atom = sym (negated-half other) });
            }))
            (λ (t : Contains [] l). absurd (omega (arith, t.1)))
            (Contains-cases (negated other) [] l c);
      })
      how

  -- a cut stays one
  pub IsCut-more : (atoms : ℕ) (clauses : List (List ℕ)) → IsLawful atoms clauses steps → (marked more : List ℕ) (place : ℕ) → IsCut base steps marked level place → MarksBelow base steps level marked more → IsCut base steps more level place
  IsCut-more atoms clauses lawful marked more place cut m =
      let grows : (literal : ℕ) → Contains marked literal → Contains more literal = λ literal c. rw m.is (Contains-append_left marked m.added literal c) in
      let cases : (literal : ℕ) → Contains more literal → Contains marked literal ⊎ IsBelow base steps level literal = λ literal c.
      ⊎_elim
      (λ (h : Contains marked literal). inl h)
      (λ (h : Contains m.added literal). inr (m.each literal h))
      (Contains-append_cases marked m.added literal (subst (λ (l : List ℕ). Contains l literal) m.is c)) in
      record {
        refutes = record { none = λ v sat seen kept. cut.refutes.none v sat (λ p below inside h. seen p below inside (grows _ h)) kept };
        within = cut.within;
        is_marked = grows _ cut.is_marked;
        at_level = cut.at_level;
        alone = λ p before c.
            ⊎_elim
            (λ (h : Contains marked (literal_at steps p)). cut.alone p before h)
            (λ (b : IsBelow base steps level (literal_at steps p)).
            let same : b.place ≡ p = same_place-literal steps lawful.distinct b.place p b.within (omega (arith, before, cut.within)) b.is in
            omega (arith, b.below, ap (λ (x : ℕ). level_at steps x) same))
            (cases (literal_at steps p) c);
        levels = λ literal c.
            ⊎_elim
            (λ (h : Contains marked literal). cut.levels literal h)
            (λ (b : IsBelow base steps level literal). record { place = b.place; within = b.within; is = b.is; above = b.above; most = omega (arith, b.below) })
            (cases literal c);
        mentions = λ literal c.
            ⊎_elim
            (λ (h : Contains marked literal). cut.mentions literal h)
            (λ (b : IsBelow base steps level literal). b.mentioned)
            (cases literal c);
      }
