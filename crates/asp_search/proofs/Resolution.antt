-- resolution along a trail: what a conflict and its reasons refute, and the clause that is learned from it
use Rattle.std.proofs.Common.{◌≡◌, ◌≢◌, ℕ, suc, zero, ◌<◌, ◌≤◌, ◌⊎◌, Bool, true, List, [], ◌∷◌, ◌++◌, length, take, Some, refl, sym, subst, ⊎_elim, arith}
use Rattle.std.specs.List.{Contains}
use Rattle.std.proofs.lemmas.List.Elements.{Contains-append_left, Contains-push}
use Rattle.std.proofs.lemmas.Bool.{cases_eq, cases_lt}
use Rattle.asp_clauses.specs.declared.trail.Step.{Step}
use Rattle.asp_clauses.specs.Literal.{negated}
use Rattle.asp_clauses.specs.Trail.{step_at, literal_at, level_at, IsPlaced, IsFalse, clause_at, IsLawful}
use Rattle.asp_search.specs.Meaning.{truth, Satisfies, SatisfiesAll}
use Rattle.asp_search.specs.Learned.{Has, IsGrounded}
use Rattle.asp_search.specs.Analysis.{Refutes, IsFixed, Covers, IsRedundant}
use Rattle.asp_clauses.proofs.LiteralLemmas.{negated-negated}
use Rattle.asp_search.proofs.Truth.{true-negated, satisfied_or_false}
use Rattle.asp_search.proofs.Trails.{placed_before, level_at-le, not_decision-at-zero, has_reason}

-- a clause all whose other literals are false makes the literal true
pub unit_true : (v : ℕ → Bool) (clause : List ℕ) (literal : ℕ) → Satisfies v clause → ((other : ℕ) → Contains clause other → other ≢ literal → truth v (negated other) ≡ true) → truth v literal ≡ true
unit_true v clause literal s others =
    ⊎_elim
    (λ (e : s.literal ≡ literal). subst (λ (l : ℕ). truth v l ≡ true) e s.holds)
    (λ (n : s.literal ≡ literal → ⊥). absurd (true-negated v s.literal (others s.literal s.has n) s.holds))
    (cases_eq s.literal literal)

-- all clauses are a base
pub all_grounded : (atoms : ℕ) (clauses : List (List ℕ)) (steps : List Step) → IsLawful atoms clauses steps → IsGrounded clauses clauses steps
all_grounded atoms clauses steps lawful place number within low reason = (number, (lawful.reasoned place within number reason).0, refl)

-- one of the clauses is satisfied
pub based_true : (base : List (List ℕ)) (v : ℕ → Bool) (clause : List ℕ) → SatisfiesAll v base → Has base clause → Satisfies v clause
based_true base v clause sat based = subst (λ (c : List ℕ). Satisfies v c) based.2 (sat based.0 based.1)

-- a clause all whose literals are false is not satisfied
pub false_unsatisfied : (v : ℕ → Bool) (clause : List ℕ) → Satisfies v clause → ((other : ℕ) → Contains clause other → truth v (negated other) ≡ true) → ⊥
false_unsatisfied v clause s others = true-negated v s.literal (others s.literal s.has) s.holds

module _ (atoms : ℕ) (base clauses : List (List ℕ)) (steps : List Step) (lawful : IsLawful atoms clauses steps) (grounded : IsGrounded base clauses steps) where
  -- an implied literal is true where the other literals of its reason are false
  pub implied_true : (v : ℕ → Bool) → SatisfiesAll v base → (place number : ℕ) → place < length steps → (step_at steps place).reason ≡ Some number → Has base (clause_at clauses number)
      → ((other : ℕ) → Contains (clause_at clauses number) other → other ≢ literal_at steps place → IsPlaced (take place steps) (negated other) → truth v (negated other) ≡ true)
      → truth v (literal_at steps place) ≡ true
  implied_true v sat place number within reason based others =
      let r = lawful.reasoned place within number reason in
      unit_true v (clause_at clauses number) (literal_at steps place) (based_true base v (clause_at clauses number) sat based) (λ other c ne. others other c ne (r.1.others_fail other c ne))

  -- what is placed before the first decision is true wherever the clauses hold
  fixed_below : (v : ℕ → Bool) → SatisfiesAll v base → (k place : ℕ) → place < k → place < length steps → level_at steps place ≡ 0 → truth v (literal_at steps place) ≡ true
  fixed_below v sat zero place below within low = absurd (omega (arith, below))
  fixed_below v sat (suc k) place below within low =
      let reason = has_reason (step_at steps place) (not_decision-at-zero steps place within low) in
      implied_true v sat place reason.0 within reason.1 (grounded place reason.0 within low reason.1) (λ other c ne placed.
      let b = placed_before steps place (negated other) placed in
      subst (λ (l : ℕ). truth v l ≡ true) b.3 (fixed_below v sat k b.0 (omega (arith, b.1, below)) b.2 (omega (arith, level_at-le steps b.0 place (omega (arith, b.1)), low))))

  pub fixed_true : (v : ℕ → Bool) → SatisfiesAll v base → (literal : ℕ) → IsFixed steps literal → truth v literal ≡ true
  fixed_true v sat literal f =
      subst (λ (l : ℕ). truth v l ≡ true) f.is (fixed_below v sat (suc f.place) f.place (omega arith) f.within f.low)

  -- a false clause
  pub Refutes-conflict : (number : ℕ) (marked : List ℕ) → Has base (clause_at clauses number) → IsFalse steps (clause_at clauses number) → Covers steps marked (clause_at clauses number) → Refutes base steps marked (length steps) []
  Refutes-conflict number marked based fails covers = record {
    none = λ v sat seen kept. false_unsatisfied v (clause_at clauses number) (based_true base v (clause_at clauses number) sat based) (λ other c.
        let placed = fails other c in
        ⊎_elim
        (λ (f : IsFixed steps (negated other)). fixed_true v sat (negated other) f)
        (λ (m : Contains marked (negated other)). subst (λ (l : ℕ). truth v l ≡ true) placed.2 (seen placed.0 placed.1 placed.1 (subst (λ (l : ℕ). Contains marked l) (sym placed.2) m)))
        (covers other c placed));
  }

  -- an implied literal is resolved with its reason
  pub Refutes-resolved : (marked more kept : List ℕ) (place number : ℕ) → place < length steps → (step_at steps place).reason ≡ Some number → Has base (clause_at clauses number) → ((literal : ℕ) → Contains marked literal → Contains more literal) → Covers steps more (clause_at clauses number) → Refutes base steps marked (suc place) kept → Refutes base steps more place kept
  Refutes-resolved marked more kept place number within reason based grows covers refutes = record {
    none = λ v sat seen all. refutes.none v sat (λ p below inside m.
        ⊎_elim
        (λ (lower : p < place). seen p lower inside (grows _ m))
        (λ (upper : place ≤ p).
        let same : p ≡ place = omega (arith, below, upper) in
        subst (λ (x : ℕ). truth v (literal_at steps x) ≡ true) (sym same) (implied_true v sat place number within reason based (λ other c ne placed.
        let b = placed_before steps place (negated other) placed in
        ⊎_elim
        (λ (f : IsFixed steps (negated other)). fixed_true v sat (negated other) f)
        (λ (n : Contains more (negated other)). subst (λ (l : ℕ). truth v l ≡ true) b.3 (seen b.0 b.1 b.2 (subst (λ (l : ℕ). Contains more l) (sym b.3) n)))
        (covers other c (b.0, b.2, b.3)))))
        (cases_lt p place)) all;
  }

  -- a literal that is not marked is passed over
  pub Refutes-passed : (marked kept : List ℕ) (place : ℕ) → (Contains marked (literal_at steps place) → ⊥) → Refutes base steps marked (suc place) kept → Refutes base steps marked place kept
  Refutes-passed marked kept place unmarked refutes = record {
    none = λ v sat seen all. refutes.none v sat (λ p below inside m.
        ⊎_elim
        (λ (lower : p < place). seen p lower inside m)
        (λ (upper : place ≤ p).
        let same : p ≡ place = omega (arith, below, upper) in
        absurd (unmarked (subst (λ (x : ℕ). Contains marked (literal_at steps x)) same m)))
        (cases_lt p place)) all;
  }

  -- a decision is kept
  pub Refutes-kept : (marked kept : List ℕ) (place : ℕ) → Refutes base steps marked (suc place) kept → Refutes base steps marked place (kept ++ literal_at steps place ∷ [])
  Refutes-kept marked kept place refutes = record {
    none = λ v sat seen all. refutes.none v sat (λ p below inside m.
        ⊎_elim
        (λ (lower : p < place). seen p lower inside m)
        (λ (upper : place ≤ p).
        let same : p ≡ place = omega (arith, below, upper) in
        subst (λ (x : ℕ). truth v (literal_at steps x) ≡ true) (sym same) (all (literal_at steps place) (Contains-push kept (literal_at steps place))))
        (cases_lt p place))
        (λ literal c. all literal (Contains-append_left kept (literal_at steps place ∷ []) literal c));
  }

  -- the clause that is learned: the negation of one literal, and of the marked ones before it that are not redundant
  pub learned_follows : (marked learned : List ℕ) (place : ℕ) → place < length steps → Refutes base steps marked (suc place) [] → Contains learned (negated (literal_at steps place))
      → ((p : ℕ) → p < place → Contains marked (literal_at steps p) → Contains learned (negated (literal_at steps p)) ⊎ IsRedundant base clauses steps marked p)
      → (v : ℕ → Bool) → SatisfiesAll v base → Satisfies v learned
  learned_follows marked learned place within refutes has rest v sat =
      ⊎_elim
      (λ (s : Satisfies v learned). s)
      (λ (f : (literal : ℕ) → Contains learned literal → truth v (negated literal) ≡ true).
      absurd (refutes.none v sat (λ p below inside m. marks_true f (suc place) p below below inside m) (λ literal c. absurd (omega (arith, c.1)))))
      (satisfied_or_false v learned)
    where
      back : (literal : ℕ) → truth v (negated (negated literal)) ≡ true → truth v literal ≡ true
      back literal h = subst (λ (l : ℕ). truth v l ≡ true) (negated-negated literal) h

      marks_true : ((literal : ℕ) → Contains learned literal → truth v (negated literal) ≡ true) → (k p : ℕ) → p < k → p < suc place → p < length steps → Contains marked (literal_at steps p) → truth v (literal_at steps p) ≡ true
      marks_true f zero p below upto inside m = absurd (omega (arith, below))
      marks_true f (suc k) p below upto inside m =
          ⊎_elim
          (λ (lower : p < place).
          ⊎_elim
          (λ (c : Contains learned (negated (literal_at steps p))). back (literal_at steps p) (f _ c))
          (λ (r : IsRedundant base clauses steps marked p).
          implied_true v sat p r.number inside r.reason r.based (λ other c ne placed.
          let b = placed_before steps p (negated other) placed in
          ⊎_elim
          (λ (x : IsFixed steps (negated other)). fixed_true v sat (negated other) x)
          (λ (n : Contains marked (negated other)). subst (λ (l : ℕ). truth v l ≡ true) b.3 (marks_true f k b.0 (omega (arith, b.1, below)) (omega (arith, b.1, upto)) b.2 (subst (λ (l : ℕ). Contains marked l) (sym b.3) n)))
          (r.others other c ne)))
          (rest p lower m))
          (λ (upper : place ≤ p).
          let same : p ≡ place = omega (arith, upto, upper) in
          subst (λ (x : ℕ). truth v (literal_at steps x) ≡ true) (sym same) (back (literal_at steps place) (f _ has)))
          (cases_lt p place)
