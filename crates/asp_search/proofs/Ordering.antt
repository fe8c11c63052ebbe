-- lemmas on decisions in order: where they are, the assignment that is found is the first one
use Rattle.std.proofs.Common.{◌≡◌, ℕ, suc, zero, ◌+◌, ◌*◌, ◌/◌, ◌%◌, ◌<◌, ◌≤◌, Bool, true, false, not, List, length, take, Option, Some, None, IfSome, refl, sym, ap, ◌∙◌, subst, ⊎_elim, arith}
use Rattle.std.specs.List.{Contains}
use Rattle.std.proofs.lemmas.Bool.{cases_lt, cases_Bool}
use Rattle.asp_clauses.specs.declared.trail.Step.{Step}
use Rattle.asp_clauses.specs.Literal.{negated}
use Rattle.asp_clauses.specs.Trail.{step_at, literal_at, is_decision, IsPlaced, IsLawful}
use Rattle.asp_clauses.proofs.LiteralLemmas.{is_even}
use Rattle.asp_decide.specs.Total.{DeniesFirst}
use Rattle.asp_search.specs.Meaning.{truth, SatisfiesAll, AllTrue}
use Rattle.asp_search.specs.Found.{literals_of, assignment_of}
use Rattle.asp_search.specs.Solver.{DecidesInOrder}
use Rattle.asp_search.specs.SearchFields.{in_order_of}
use Rattle.asp_search.proofs.Truth.{truth-odd, truth-even}
use Rattle.asp_search.proofs.Trails.{placed_before, has_reason}
use Rattle.asp_search.proofs.Resolution.{implied_true, all_grounded}
use Rattle.asp_search.proofs.Counting.{Contains-member}
use Rattle.asp_search.proofs.Deciding.{truth_placed, placed_from}

-- a literal is as true as its atom's values agree
same_truth : (v w : ℕ → Bool) (literal : ℕ) → v (literal / 2) ≡ w (literal / 2) → truth v literal ≡ truth w literal
same_truth v w literal same =
    ⊎_elim
    (λ (even : literal % 2 ≡ 0). truth-even v literal even ∙ (ap (λ (b : Bool). not b) same ∙ sym (truth-even w literal even)))
    (λ (odd : literal % 2 ≡ 1). truth-odd v literal odd ∙ (same ∙ sym (truth-odd w literal odd)))
    (is_even literal)

module _ (atoms : ℕ) (clauses : List (List ℕ)) (steps : List Step) (lawful : IsLawful atoms clauses steps) (assumed : List ℕ) (decides : DecidesInOrder assumed steps)
    (v : ℕ → Bool) (sat : SatisfiesAll v clauses) (all : AllTrue v assumed) (atom : ℕ)
    (agrees : (lower : ℕ) → lower < atom → v lower ≡ assignment_of (literals_of steps) lower)
    (last : ℕ) (within_last : last < length steps) (is_last : literal_at steps last ≡ 2 * atom + 1) where
  -- the atom stands at one place alone
  only_last : (q : ℕ) → q < last → literal_at steps q / 2 ≡ atom → ⊥
  only_last q before is = lawful.distinct q last before within_last (omega (arith, is, is_last))

  placed_early : (p : ℕ) → p ≤ last → (literal : ℕ) → literal / 2 ≡ atom → IsPlaced (take p steps) literal → ⊥
  placed_early p upto literal half placed =
      let b = placed_before steps p literal placed in
      only_last b.0 (omega (arith, b.1, upto)) (ap (λ (l : ℕ). l / 2) b.3 ∙ half)

  -- a decision that makes an atom false up to there is on a lower atom
  denied_lower : (p : ℕ) → p ≤ last → p < length steps → DeniesFirst (take p steps) (literal_at steps p) → literal_at steps p / 2 < atom
  denied_lower p upto within d =
      ⊎_elim
      (λ (low : literal_at steps p / 2 < atom). low)
      (λ (high : atom ≤ literal_at steps p / 2).
      ⊎_elim
      (λ (above : atom < literal_at steps p / 2).
      absurd (⊎_elim
      (λ (x : IsPlaced (take p steps) (2 * atom + 1)). placed_early p upto (2 * atom + 1) (omega arith) x)
      (λ (x : IsPlaced (take p steps) (2 * atom)). placed_early p upto (2 * atom) (omega arith) x)
      (d.lower atom above)))
      (λ (low : literal_at steps p / 2 ≤ atom).
      let same : literal_at steps p / 2 ≡ atom = omega (arith, low, high) in
      ⊎_elim
      (λ (before : p < last). absurd (only_last p before same))
      (λ (here : last ≤ p).
      let e : p ≡ last = omega (arith, upto, here) in
      let odd : literal_at steps p ≡ 2 * atom + 1 = ap (λ (q : ℕ). literal_at steps q) e ∙ is_last in
      absurd (omega (arith, odd, d.negative)))
      (cases_lt p last))
      (cases_lt atom (literal_at steps p / 2)))
      (cases_lt (literal_at steps p / 2) atom)

  steps_true : (k p : ℕ) → p < k → p ≤ last → p < length steps → truth v (literal_at steps p) ≡ true
  steps_true zero p below upto within = absurd (omega (arith, below))
  steps_true (suc k) p below upto within =
      ⊎_elim
      (λ (d : is_decision (step_at steps p) ≡ true).
      ⊎_elim
      (λ (c : Contains assumed (literal_at steps p)). all (literal_at steps p) c)
      (λ (denies : DeniesFirst (take p steps) (literal_at steps p)).
      same_truth v (assignment_of (literals_of steps)) (literal_at steps p) (agrees (literal_at steps p / 2) (denied_lower p upto within denies))
      ∙ truth_placed steps lawful.distinct (literal_at steps p) (p, within, refl))
      (decides p within d))
      (λ (n : is_decision (step_at steps p) ≡ false).
      let r = has_reason (step_at steps p) n in
      implied_true atoms clauses clauses steps lawful (all_grounded atoms clauses steps lawful) v sat p r.0 within r.1 (r.0, (lawful.reasoned p within r.0 r.1).0, refl) (λ other c ne placed.
      let b = placed_before steps p (negated other) placed in
      subst (λ (l : ℕ). truth v l ≡ true) b.3 (steps_true k b.0 (omega (arith, b.1, below)) (omega (arith, b.1, upto)) b.2)))
      (cases_Bool (is_decision (step_at steps p)))

  true_last : v atom ≡ true
  true_last =
      let half : (2 * atom + 1) / 2 ≡ atom = omega arith in
      ap (λ (a : ℕ). v a) (sym half)
      ∙ (sym (truth-odd v (2 * atom + 1) (omega arith)) ∙ subst (λ (l : ℕ). truth v l ≡ true) is_last (steps_true (suc last) last (omega arith) (omega arith) within_last))

-- no assignment comes before the trail's own
pub is_least : (atoms : ℕ) (clauses : List (List ℕ)) (steps : List Step) → IsLawful atoms clauses steps → (assumed : List ℕ) → DecidesInOrder assumed steps
    → (v : ℕ → Bool) → SatisfiesAll v clauses → AllTrue v assumed → (atom : ℕ) → ((lower : ℕ) → lower < atom → v lower ≡ assignment_of (literals_of steps) lower)
    → assignment_of (literals_of steps) atom ≡ true → v atom ≡ true
is_least atoms clauses steps lawful assumed decides v sat all atom agrees found =
    let placed = placed_from steps (2 * atom + 1) (Contains-member (literals_of steps) (2 * atom + 1) found) in
    true_last atoms clauses steps lawful assumed decides v sat all atom agrees placed.0 placed.1 placed.2

-- a search that is asked in order made its choices so
pub was_in_order : (asked : Option Bool) (ordered : Bool) → IfSome asked (λ (was : Bool). was ≡ ordered) → ordered ≡ true → in_order_of asked ≡ true
was_in_order None ordered same is = refl
was_in_order (Some was) ordered same is = let agrees : was ≡ ordered = same in agrees ∙ is
