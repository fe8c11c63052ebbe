-- lemmas on how a step keeps what a search rests on
use Rattle.std.proofs.Common.{◌≡◌, ℕ, suc, ◌+◌, ◌-◌, ◌*◌, ◌/◌, min, ◌<◌, ◌≤◌, ◌⊎◌, Bool, true, false, cond, List, [], ◌∷◌, ◌++◌, length, take, refl, sym, ap, ◌∙◌, subst, ⊎_elim, inl, inr, arith}
use Rattle.std.specs.List.{Contains}
use Rattle.std.proofs.lemmas.List.{get_or_append_left, get_or_push, length_push, length-take, take_all, get_or-take, ext_get_or, length-append, get_or-append_right}
use Rattle.std.proofs.lemmas.List.Sums.{sum_by-append, sum_by-cons}
use Rattle.std.proofs.lemmas.List.Sorted.{Contains-permutation, IsPermutation-sym}
use Rattle.std.proofs.lemmas.Bool.{cases_lt, cases_Bool, cond-false, false≢true}
use Rattle.asp_clauses.specs.declared.trail.Step.{Step}
use Rattle.asp_clauses.specs.Literal.{negated}
use Rattle.asp_clauses.specs.Trail.{TrailState, no_step, step_at, literal_at, is_decision, decisions, level_at, IsPlaced, IsFalse, IsLawful, clause_at, back_to}
use Rattle.asp_clauses.specs.Book.{Goes, IsClause, SameClauses}
use Rattle.asp_clauses.specs.Moves.{Places}
use Rattle.asp_clauses.specs.Visits.{Extends}
use Rattle.asp_clauses.proofs.StepsLemmas.{decisions-push_yes, decisions-push_no}
use Rattle.asp_decide.specs.Total.{IsTotal, DeniesFirst}
use Rattle.asp_search.specs.declared.solver.Solver.{Solver}
use Rattle.asp_search.specs.Meaning.{SameMeaning}
use Rattle.asp_clauses.specs.declared.kind.Kind.{Kind}
use Rattle.asp_search.specs.Learned.{IsGround, firm_of}
use Rattle.asp_search.specs.Cores.{IsCore}
use Rattle.asp_search.specs.Analysis.{IsTopLevel}
use Rattle.asp_search.specs.ClauseActivity.{ActivityState, IsLater}
use Rattle.asp_search.specs.Solver.{DecidesAssumed, IsHeld, IsCursor, IsRewound, IsOrderly, IsTakenBack, IsReady, AreInRange, AreRefuted, Stays}
use Rattle.asp_search.proofs.Clauses.{SameMeaning-refl, SameMeaning-then, SameMeaning-reordered}
use Rattle.asp_search.proofs.Trails.{kept_place, placed_back, back_to-within, back_to-step, decisions-back_to}
use Rattle.asp_clauses.proofs.ReorderLemmas.{Contains-place}
use Rattle.asp_search.proofs.Resolution.{all_grounded, fixed_true, false_unsatisfied}
use Rattle.asp_search.proofs.Basing.{SameMeaning-firm_reordered}
use Rattle.asp_search.proofs.LearnedClauses.{AreLearned-reordered}

-- both lists have the same first steps
pub record Begins (old new : List Step) (n : ℕ) : Type 0 where
  pub inside : n ≤ length old
  pub fits : n ≤ length new
  pub same : (p : ℕ) → p < n → step_at new p ≡ step_at old p

pub take-begins : (old new : List Step) (n k : ℕ) → Begins old new n → k ≤ n → take k new ≡ take k old
take-begins old new n k b h =
    ext_get_or no_step (take k new) (take k old) (omega (arith, length-take k new, length-take k old, b.inside, b.fits))
    (λ i within.
    let low : i < k = omega (arith, within, length-take k new) in
    get_or-take k new i no_step low ∙ (b.same i (omega (arith, low, h)) ∙ sym (get_or-take k old i no_step low)))

pub level_at-begins : (old new : List Step) (n p : ℕ) → Begins old new n → p < n → level_at new p ≡ level_at old p
level_at-begins old new n p b h =
    ap (λ (l : List Step). decisions l) (take-begins old new n (p + 1) b (omega (arith, h)))

-- all steps and more
pub Begins-append : (old added : List Step) → Begins old (old ++ added) (length old)
Begins-append old added = record {
  inside = omega arith;
  fits = omega (arith, length-append old added);
  same = λ p h. get_or_append_left old added no_step p h;
}

-- back to a level, and one step more
pub Begins-back : (level : ℕ) (old : List Step) (step : Step) → Begins old (back_to level old ++ step ∷ []) (length (back_to level old))
Begins-back level old step = record {
  inside = ⊎_elim (λ (h : length (back_to level old) ≤ length old). h) (λ (h : length old < length (back_to level old)). absurd (omega (arith, back_to-within level old (length old) h))) (⊎_elim (λ (x : length old < length (back_to level old)). inr x) (λ (x : length (back_to level old) ≤ length old). inl x) (cases_lt (length old) (length (back_to level old))));
  fits = omega (arith, length_push (back_to level old) step);
  same = λ p h. get_or_append_left (back_to level old) (step ∷ []) no_step p h ∙ back_to-step level old p h;
}

-- the first steps stay
pub IsGround-begins : (kinds : List Kind) (old new : List Step) (n looked : ℕ) (loose : Bool) → Begins old new n → ((place : ℕ) → place < looked → place < n) → IsGround kinds old looked loose → IsGround kinds new looked loose
IsGround-begins kinds old new n looked loose b stay g = record {
  low = λ place h.
      let inside = stay place h in
      (omega (arith, inside, b.fits), level_at-begins old new n place b inside ∙ (g.low place h).1);
  firm = λ firm place h number is.
      g.firm firm place h number (ap (λ (s : Step). s.reason) (sym (b.same place (stay place h))) ∙ is);
}

pub IsGround-append : (kinds : List Kind) (old added : List Step) (looked : ℕ) (loose : Bool) → IsGround kinds old looked loose → IsGround kinds (old ++ added) looked loose
IsGround-append kinds old added looked loose g =
    IsGround-begins kinds old (old ++ added) (length old) looked loose (Begins-append old added) (λ place h. (g.low place h).0) g

pub IsGround-back : (kinds : List Kind) (old : List Step) (step : Step) (level looked : ℕ) (loose : Bool) → IsGround kinds old looked loose → IsGround kinds (back_to level old ++ step ∷ []) looked loose
IsGround-back kinds old step level looked loose g =
    IsGround-begins kinds old (back_to level old ++ step ∷ []) (length (back_to level old)) looked loose (Begins-back level old step)
    (λ place h. let low = g.low place h in kept_place level old place low.0 (omega (arith, low.1))) g

-- each decision is an assumption, or has the property after what stands before it
abbrev Decides : (List Step → ℕ → Type 0) → List ℕ → List Step → Type 0
Decides P assumed steps =
    (place : ℕ) → place < length steps → is_decision (step_at steps place) ≡ true
    → Contains assumed (literal_at steps place) ⊎ P (take place steps) (literal_at steps place)

module _ (P : List Step → ℕ → Type 0) (assumed : List ℕ) where
  -- decisions among the first steps are as before
  decides_before : (old new : List Step) (n p : ℕ) → Begins old new n → Decides P assumed old → p < n → is_decision (step_at new p) ≡ true
      → Contains assumed (literal_at new p) ⊎ P (take p new) (literal_at new p)
  decides_before old new n p b decides h is =
      let step = b.same p h in
      ⊎_elim
      (λ (c : Contains assumed (literal_at old p)). inl (subst (λ (s : Step). Contains assumed s.literal) (sym step) c))
      (λ (d : P (take p old) (literal_at old p)).
      inr (subst (λ (l : List Step). P l (literal_at new p)) (sym (take-begins old new n p b (omega (arith, h)))) (subst (λ (s : Step). P (take p old) s.literal) (sym step) d)))
      (decides p (omega (arith, h, b.inside)) (ap (λ (s : Step). is_decision s) (sym step) ∙ is))

  -- new steps are implied
  Decides-implied : (old new : List Step) (n : ℕ) → Begins old new n → ((p : ℕ) → n ≤ p → p < length new → is_decision (step_at new p) ≡ false) → Decides P assumed old → Decides P assumed new
  Decides-implied old new n b implied decides p within is =
      ⊎_elim
      (λ (h : p < n). decides_before old new n p b decides h is)
      (λ (h : n ≤ p). absurd (false≢true (sym (implied p h within) ∙ is)))
      (cases_lt p n)

  Decides-append : (old added : List Step) → ((place : ℕ) → place < length added → is_decision (step_at added place) ≡ false) → Decides P assumed old → Decides P assumed (old ++ added)
  Decides-append old added implied decides =
      Decides-implied old (old ++ added) (length old) (Begins-append old added)
      (λ p low within. ap (λ (s : Step). is_decision s) (get_or-append_right old added (length old) p no_step refl low) ∙ implied (p - length old) (omega (arith, low, within, length-append old added))) decides

  Decides-back : (old : List Step) (step : Step) (level : ℕ) → is_decision step ≡ false → Decides P assumed old → Decides P assumed (back_to level old ++ step ∷ [])
  Decides-back old step level implied decides =
      Decides-implied old (back_to level old ++ step ∷ []) (length (back_to level old)) (Begins-back level old step)
      (λ p low within. ap (λ (s : Step). is_decision s) (get_or_push (back_to level old) step no_step p (omega (arith, low, within, length_push (back_to level old) step))) ∙ implied) decides

  -- one new step is a decision on an assumption, or has the property
  Decides-decided : (old : List Step) (step : Step) → Contains assumed step.literal ⊎ P old step.literal → Decides P assumed old → Decides P assumed (old ++ step ∷ [])
  Decides-decided old step why decides p within is =
      let b = Begins-append old (step ∷ []) in
      ⊎_elim
      (λ (h : p < length old). decides_before old (old ++ step ∷ []) (length old) p b decides h is)
      (λ (h : length old ≤ p).
      let here : step_at (old ++ step ∷ []) p ≡ step = get_or_push old step no_step p (omega (arith, h, within, length_push old step)) in
      let all_old : take p (old ++ step ∷ []) ≡ old = take-begins old (old ++ step ∷ []) (length old) p b (omega (arith, within, length_push old step)) ∙ take_all p old h in
      ⊎_elim
      (λ (c : Contains assumed step.literal). inl (subst (λ (s : Step). Contains assumed s.literal) (sym here) c))
      (λ (d : P old step.literal).
      inr (subst (λ (l : List Step). P l (literal_at (old ++ step ∷ []) p)) (sym all_old) (subst (λ (s : Step). P old s.literal) (sym here) d)))
      why)
      (cases_lt p (length old))

-- all assumptions are true
abbrev AreAllPlaced : List ℕ → List Step → ℕ → Type 0
AreAllPlaced assumed before literal = (other : ℕ) → Contains assumed other → IsPlaced before other

pub DecidesAssumed-append : (assumed : List ℕ) (old added : List Step) → ((place : ℕ) → place < length added → is_decision (step_at added place) ≡ false) → DecidesAssumed assumed old → DecidesAssumed assumed (old ++ added)
DecidesAssumed-append assumed old added implied decides = Decides-append (AreAllPlaced assumed) assumed old added implied decides

pub DecidesAssumed-back : (assumed : List ℕ) (old : List Step) (step : Step) (level : ℕ) → is_decision step ≡ false → DecidesAssumed assumed old → DecidesAssumed assumed (back_to level old ++ step ∷ [])
DecidesAssumed-back assumed old step level implied decides = Decides-back (AreAllPlaced assumed) assumed old step level implied decides

pub DecidesAssumed-decided : (assumed : List ℕ) (old : List Step) (step : Step) → Contains assumed step.literal ⊎ ((literal : ℕ) → Contains assumed literal → IsPlaced old literal) → DecidesAssumed assumed old → DecidesAssumed assumed (old ++ step ∷ [])
DecidesAssumed-decided assumed old step why decides = Decides-decided (AreAllPlaced assumed) assumed old step why decides

-- ---- the order of choices

placed-append : (old added : List Step) (literal : ℕ) → IsPlaced old literal → IsPlaced (old ++ added) literal
placed-append old added literal p =
    (p.0, omega (arith, p.1, length-append old added), ap (λ (s : Step). s.literal) (get_or_append_left old added no_step p.0 p.1) ∙ p.2)

IsTotal-append : (front : ℕ) (old added : List Step) → IsTotal front old → IsTotal front (old ++ added)
IsTotal-append front old added total atom low =
    ⊎_elim
    (λ (p : IsPlaced old (2 * atom + 1)). inl (placed-append old added (2 * atom + 1) p))
    (λ (p : IsPlaced old (2 * atom)). inr (placed-append old added (2 * atom) p))
    (total atom low)

-- no step, no decision
pub IsOrderly-none : (assumed : List ℕ) (in_order : Bool) → IsOrderly assumed [] 0 in_order
IsOrderly-none assumed in_order = record {
  valued = λ atom low. absurd (omega (arith, low));
  decides = λ ordered place within is. absurd (omega (arith, within));
}

-- implied literals more
pub IsOrderly-append : (assumed : List ℕ) (old added : List Step) (front : ℕ) (in_order : Bool) → ((place : ℕ) → place < length added → is_decision (step_at added place) ≡ false)
    → IsOrderly assumed old front in_order → IsOrderly assumed (old ++ added) front in_order
IsOrderly-append assumed old added front in_order implied o = record {
  valued = IsTotal-append front old added o.valued;
  decides = λ ordered. Decides-append (λ (before : List Step) (literal : ℕ). DeniesFirst before literal) assumed old added implied (o.decides ordered);
}

-- one decision more
pub IsOrderly-decided : (assumed : List ℕ) (old : List Step) (step : Step) (front : ℕ) (in_order : Bool) → (in_order ≡ true → Contains assumed step.literal ⊎ DeniesFirst old step.literal)
    → IsOrderly assumed old front in_order → IsOrderly assumed (old ++ step ∷ []) front in_order
IsOrderly-decided assumed old step front in_order why o = record {
  valued = IsTotal-append front old (step ∷ []) o.valued;
  decides = λ ordered. Decides-decided (λ (before : List Step) (literal : ℕ). DeniesFirst before literal) assumed old step (why ordered) (o.decides ordered);
}

-- the front may always stand lower
pub IsOrderly-lower : (assumed : List ℕ) (steps : List Step) (front new_front : ℕ) (in_order : Bool) → new_front ≤ front → IsOrderly assumed steps front in_order → IsOrderly assumed steps new_front in_order
IsOrderly-lower assumed steps front new_front in_order le o = record {
  valued = λ atom low. o.valued atom (omega (arith, low, le));
  decides = o.decides;
}

-- a literal on an atom below the front stays
placed-taken_back : (old : List Step) (step : Step) (level levels front new_front atom literal : ℕ) → levels ≤ level + 1 → IsTakenBack old levels front new_front → atom < new_front → literal / 2 ≡ atom
    → IsPlaced old literal → IsPlaced (back_to level old ++ step ∷ []) literal
placed-taken_back old step level levels front new_front atom literal upto taken low half p =
    let is : literal_at old p.0 / 2 ≡ atom = ap (λ (l : ℕ). l / 2) p.2 ∙ half in
    ⊎_elim
    (λ (stays : level_at old p.0 < levels).
    placed-append (back_to level old) (step ∷ []) literal (subst (λ (l : ℕ). IsPlaced (back_to level old) l) p.2 (placed_back level old p.0 p.1 (omega (arith, stays, upto)))))
    (λ (goes : levels ≤ level_at old p.0). absurd (omega (arith, taken.undone p.0 p.1 goes, is, low)))
    (cases_lt (level_at old p.0) levels)

-- back to a level, and one implied literal more
pub IsOrderly-back : (assumed : List ℕ) (old : List Step) (step : Step) (level levels front new_front : ℕ) (in_order : Bool) → is_decision step ≡ false → levels ≤ level + 1 → IsTakenBack old levels front new_front
    → IsOrderly assumed old front in_order → IsOrderly assumed (back_to level old ++ step ∷ []) new_front in_order
IsOrderly-back assumed old step level levels front new_front in_order implied upto taken o = record {
  valued = λ atom low.
      ⊎_elim
      (λ (p : IsPlaced old (2 * atom + 1)). inl (placed-taken_back old step level levels front new_front atom (2 * atom + 1) upto taken low (omega arith) p))
      (λ (p : IsPlaced old (2 * atom)). inr (placed-taken_back old step level levels front new_front atom (2 * atom) upto taken low (omega arith) p))
      (o.valued atom (omega (arith, low, taken.no_further)));
  decides = λ ordered. Decides-back (λ (before : List Step) (literal : ℕ). DeniesFirst before literal) assumed old step level implied (o.decides ordered);
}

pub decisions-push-le : (steps : List Step) (step : Step) → decisions (steps ++ step ∷ []) ≤ decisions steps + 1
decisions-push-le steps step =
    ⊎_elim
    (λ (t : is_decision step ≡ true). omega (arith, decisions-push_yes steps step t))
    (λ (f : is_decision step ≡ false). omega (arith, decisions-push_no steps step f))
    (cases_Bool (is_decision step))

-- an assumption that is true by the first steps stays so where these stay
pub IsHeld-begins : (assumed : List ℕ) (old new : List Step) (n held i : ℕ) → Begins old new n → (h : IsHeld assumed old held i) → h.place < n → IsHeld assumed new held i
IsHeld-begins assumed old new n held i b h low = record {
  place = h.place;
  within = omega (arith, low, b.fits);
  is = ap (λ (s : Step). s.literal) (b.same h.place low) ∙ h.is;
  level = omega (arith, h.level, level_at-begins old new n h.place b low);
  by_held = omega (arith, h.by_held, level_at-begins old new n h.place b low);
}

-- the cursor after a jump to a level that keeps the assumptions before it
pub IsCursor-kept : (assumed : List ℕ) (old : List Step) (step : Step) (cursor held level : ℕ) → is_decision step ≡ false → level < decisions old → held ≤ level → IsCursor assumed old cursor held → IsCursor assumed (back_to level old ++ step ∷ []) cursor held
IsCursor-kept assumed old step cursor held level implied above keeps c =
    let new = back_to level old ++ step ∷ [] in
    let b = Begins-back level old step in
    record {
      within = c.within;
      placed = λ i h.
          let q = c.placed i h in
          IsHeld-begins assumed old new (length (back_to level old)) held i b q (kept_place level old q.place q.within (omega (arith, q.by_held, keeps)));
      decided = λ h. omega (arith, c.decided h, above, decisions-push_no (back_to level old) step implied, decisions-back_to old level);
    }

-- and to one below
pub IsCursor-back : (assumed : List ℕ) (old : List Step) (step : Step) (cursor held level : ℕ) → is_decision step ≡ false → level < decisions old → IsCursor assumed old cursor held → IsCursor assumed (back_to level old ++ step ∷ []) (min cursor level) level
IsCursor-back assumed old step cursor held level implied above c =
    let new = back_to level old ++ step ∷ [] in
    let b = Begins-back level old step in
    record {
      within = omega (arith, c.within);
      placed = λ i h.
          let q = c.placed i (omega (arith, h)) in
          let low : level_at old q.place ≤ level = omega (arith, q.level, h) in
          IsHeld-begins assumed old new (length (back_to level old)) level i b
          (record { place = q.place; within = q.within; is = q.is; level = q.level; by_held = low })
          (kept_place level old q.place q.within low);
      decided = λ h.
          ⊎_elim
          (λ (x : cursor < length assumed). omega (arith, c.decided x, above, decisions-push_no (back_to level old) step implied, decisions-back_to old level))
          (λ (x : length assumed ≤ cursor). omega (arith, h, x, decisions-push_no (back_to level old) step implied, decisions-back_to old level))
          (cases_lt cursor (length assumed));
    }

pub IsCursor-rewound : (assumed : List ℕ) (old : List Step) (step : Step) (cursor held level new_cursor new_held : ℕ) → is_decision step ≡ false → level < decisions old → IsRewound cursor held level new_cursor new_held
    → IsCursor assumed old cursor held → IsCursor assumed (back_to level old ++ step ∷ []) new_cursor new_held
IsCursor-rewound assumed old step cursor held level new_cursor new_held implied above how c =
    ⊎_elim
    (λ (k : (new_cursor ≡ cursor) × (new_held ≡ held) × (held ≤ level)). rw (k.0, k.1) (IsCursor-kept assumed old step cursor held level implied above k.2 c))
    (λ (k : (new_cursor ≡ min cursor level) × (new_held ≡ level)). rw (k.0, k.1) (IsCursor-back assumed old step cursor held level implied above c))
    how

-- the cursor after steps that are implied
pub IsCursor-implied : (assumed : List ℕ) (old added : List Step) (cursor held : ℕ) → decisions (old ++ added) ≡ decisions old → IsCursor assumed old cursor held → IsCursor assumed (old ++ added) cursor held
IsCursor-implied assumed old added cursor held same c =
    let b = Begins-append old added in
    record {
      within = c.within;
      placed = λ i h. IsHeld-begins assumed old (old ++ added) (length old) held i b (c.placed i h) (c.placed i h).within;
      decided = λ h. omega (arith, same, c.decided h);
    }

-- one clause more
pub AreInRange-push : (atoms : ℕ) (clauses : List (List ℕ)) (clause : List ℕ) → IsClause atoms clause → AreInRange atoms clauses → AreInRange atoms (clauses ++ clause ∷ [])
AreInRange-push atoms clauses clause is ranges n literal within has =
    ⊎_elim
    (λ (b : n < length clauses). ranges n literal b (subst (λ (c : List ℕ). Contains c literal) (get_or_append_left clauses (clause ∷ []) [] n b) has))
    (λ (u : length clauses ≤ n).
    let k = Contains-place clause literal (subst (λ (c : List ℕ). Contains c literal) (get_or_push clauses clause [] n (omega (arith, u, within, length_push clauses clause))) has) in
    subst (λ (l : ℕ). l < 2 * atoms) k.2 (is.in_range k.0 k.1))
    (cases_lt n (length clauses))

-- ---- propagation

decisions-implied : (added : List Step) → ((place : ℕ) → place < length added → is_decision (step_at added place) ≡ false) → decisions added ≡ 0
decisions-implied [] implied = refl
decisions-implied (s ∷ later) implied =
    omega (arith, sum_by-cons (λ (s : Step). cond (is_decision s) 1 0) s later, cond-false {A = ℕ} (is_decision s) 1 0 (implied 0 (omega arith)), decisions-implied later (λ p h. implied (suc p) (omega (arith, h))))

pub decisions-append-implied : (old added : List Step) → ((place : ℕ) → place < length added → is_decision (step_at added place) ≡ false) → decisions (old ++ added) ≡ decisions old
decisions-append-implied old added implied =
    omega (arith, sum_by-append (λ (s : Step). cond (is_decision s) 1 0) old added, decisions-implied added implied)

pub AreInRange-reordered : (atoms : ℕ) (old new : List (List ℕ)) → SameClauses old new → AreInRange atoms old → AreInRange atoms new
AreInRange-reordered atoms old new same ranges n literal within has =
    let inside : n < length old = omega (arith, within, same.as_many) in
    ranges n literal inside (Contains-permutation (clause_at new n) (clause_at old n) literal (IsPermutation-sym (clause_at old n) (clause_at new n) (same.reordered n inside)) has)

-- where the conflict is false from the start, no assignment satisfies the clauses
pub refuted_at_zero : (atoms : ℕ) (clauses : List (List ℕ)) (steps : List Step) → IsLawful atoms clauses steps → (number level : ℕ) → number < length clauses → IsFalse steps (clause_at clauses number) → IsTopLevel steps (clause_at clauses number) level → level ≡ 0 → AreRefuted clauses
refuted_at_zero atoms clauses steps lawful number level within fails top zero_level v sat =
    false_unsatisfied v (clause_at clauses number) (sat number within) (λ other c.
    let p = fails other c in
    fixed_true atoms clauses clauses steps lawful (all_grounded atoms clauses steps lawful) v sat (negated other) (record { place = p.0; within = p.1; is = p.2; low = omega (arith, zero_level, top.most other p.0 c p.1 p.2) }))

-- a solver that differs in nothing that matters
pub IsReady-kept : (old new : Solver) → IsReady old → new.book ≡ old.book → new.trail ≡ old.trail → new.assumed ≡ old.assumed → new.cursor ≡ old.cursor → new.held ≡ old.held → new.front ≡ old.front → new.in_order ≡ old.in_order → new.looked ≡ old.looked → new.ground_loose ≡ old.ground_loose → new.seen.codes ≡ old.seen.codes → new.seen.marked ≡ [] → new.heap.atoms ≡ old.heap.atoms → IsReady new
IsReady-kept old new ready book trail assumed cursor held front in_order looked loose codes unmarked heap = record {
  fitted = record {
    goes = rw (book, trail) ready.fitted.goes;
    few = rw trail ready.fitted.few;
    codes = rw trail (codes ∙ ready.fitted.codes);
    heap_atoms = rw trail (heap ∙ ready.fitted.heap_atoms);
  };
  ranges = rw (book, trail) ready.ranges;
  learned = rw book ready.learned;
  ground = rw (book, trail, looked, loose) ready.ground;
  unmarked = unmarked;
  assumptions = rw (trail, assumed) ready.assumptions;
  assumed = rw (trail, assumed) ready.assumed;
  cursor = rw (trail, assumed, cursor, held) ready.cursor;
  order = rw (trail, assumed, front, in_order) ready.order;
}

-- an activity that is as it was
pub IsLater-same : (old new : ActivityState) → new ≡ old → IsLater old new
IsLater-same old new same = record {
  total = let e = ap (λ (a : ActivityState). a.total) same in omega (arith, e);
  interval = let e = ap (λ (a : ActivityState). a.interval) same in omega (arith, e);
}

pub IsLater-then : (old middle new : ActivityState) → IsLater old middle → IsLater middle new → IsLater old new
IsLater-then old middle new a b = record {
  total = omega (arith, a.total, b.total);
  interval = omega (arith, a.interval, b.interval);
}

-- nothing that callers see has changed
pub Stays-kept : (old new : Solver) → IsReady old → new.book ≡ old.book → new.trail ≡ old.trail → new.assumed ≡ old.assumed → new.cursor ≡ old.cursor → new.held ≡ old.held → new.front ≡ old.front → new.in_order ≡ old.in_order → new.looked ≡ old.looked → new.ground_loose ≡ old.ground_loose → new.seen.codes ≡ old.seen.codes → new.seen.marked ≡ [] → new.heap.atoms ≡ old.heap.atoms → new.decided ≡ old.decided → new.activity ≡ old.activity → Stays old new
Stays-kept old new ready book trail assumed cursor held front in_order looked loose codes unmarked heap decided activity = record {
  ready = IsReady-kept old new ready book trail assumed cursor held front in_order looked loose codes unmarked heap;
  meaning = rw book (SameMeaning-refl old.book.clauses);
  firm = rw book (SameMeaning-refl (firm_of old.book));
  atoms = ap (λ (t : TrailState). t.atoms) trail;
  budget = ap (λ (t : TrailState). t.budget) trail;
  assumptions = rw assumed refl;
  in_order = in_order;
  count = let same = ap (λ (t : TrailState). t.count) trail in omega (arith, same);
  decided = omega (arith, decided);
  activity = IsLater-same old.activity new.activity activity;
}

-- one decision more
pub Stays-decided : (old new : Solver) (step : Step) → IsReady old → Places old.trail new.trail old.trail.steps step → Goes old.book new.trail → new.book ≡ old.book → new.assumed ≡ old.assumed → new.looked ≡ old.looked → new.ground_loose ≡ old.ground_loose → new.seen ≡ old.seen → new.heap.atoms ≡ old.heap.atoms → DecidesAssumed old.assumed.items (old.trail.steps ++ step ∷ []) → IsCursor old.assumed.items (old.trail.steps ++ step ∷ []) new.cursor new.held → IsOrderly old.assumed.items (old.trail.steps ++ step ∷ []) new.front new.in_order → new.in_order ≡ old.in_order → old.decided ≤ new.decided → new.activity ≡ old.activity → Stays old new
Stays-decided old new step ready placed goes book assumed looked loose seen heap decides cursor order in_order decided activity = record {
  ready = record {
    fitted = record {
      goes = rw book goes;
      few = rw placed.atoms ready.fitted.few;
      codes = rw (seen, placed.atoms) ready.fitted.codes;
      heap_atoms = rw placed.atoms (heap ∙ ready.fitted.heap_atoms);
    };
    ranges = rw (placed.atoms, book) ready.ranges;
    learned = rw book ready.learned;
    ground = rw (book, placed.steps, looked, loose) (IsGround-append old.book.kinds old.trail.steps (step ∷ []) old.looked old.ground_loose ready.ground);
    unmarked = rw seen ready.unmarked;
    assumptions = rw (placed.atoms, assumed) ready.assumptions;
    assumed = rw (assumed, placed.steps) decides;
    cursor = rw (assumed, placed.steps) cursor;
    order = rw (assumed, placed.steps) order;
  };
  meaning = rw book (SameMeaning-refl old.book.clauses);
  firm = rw book (SameMeaning-refl (firm_of old.book));
  atoms = placed.atoms;
  budget = placed.budget;
  assumptions = rw assumed refl;
  in_order = in_order;
  count = let more = placed.count in omega (arith, more);
  decided = decided;
  activity = IsLater-same old.activity new.activity activity;
}

-- implied literals more
pub Stays-propagated : (old new : Solver) → IsReady old → Goes new.book new.trail → SameClauses old.book.clauses new.book.clauses → new.book.kinds ≡ old.book.kinds → Extends old.trail new.trail → new.assumed ≡ old.assumed → new.cursor ≡ old.cursor → new.held ≡ old.held → new.front ≡ old.front → new.in_order ≡ old.in_order → new.looked ≡ old.looked → new.ground_loose ≡ old.ground_loose → new.seen ≡ old.seen → new.heap ≡ old.heap → new.decided ≡ old.decided → new.activity ≡ old.activity → Stays old new
Stays-propagated old new ready goes clauses kinds extended assumed cursor held front in_order looked loose seen heap decided activity =
    let e = extended.1 in
    record {
      ready = record {
        fitted = record {
          goes = goes;
          few = rw e.atoms ready.fitted.few;
          codes = rw (seen, e.atoms) ready.fitted.codes;
          heap_atoms = rw (heap, e.atoms) ready.fitted.heap_atoms;
        };
        ranges = rw e.atoms (AreInRange-reordered old.trail.atoms old.book.clauses new.book.clauses clauses ready.ranges);
        learned = rw kinds (AreLearned-reordered old.book.kinds old.book.clauses new.book.clauses clauses ready.learned);
        ground = rw (kinds, e.steps, looked, loose) (IsGround-append old.book.kinds old.trail.steps extended.0 old.looked old.ground_loose ready.ground);
        unmarked = rw seen ready.unmarked;
        assumptions = rw (e.atoms, assumed) ready.assumptions;
        assumed = rw (assumed, e.steps) (DecidesAssumed-append old.assumed.items old.trail.steps extended.0 e.implied ready.assumed);
        cursor = rw (assumed, e.steps, cursor, held) (IsCursor-implied old.assumed.items old.trail.steps extended.0 old.cursor old.held (decisions-append-implied old.trail.steps extended.0 e.implied) ready.cursor);
        order = rw (assumed, e.steps, front, in_order) (IsOrderly-append old.assumed.items old.trail.steps extended.0 old.front old.in_order e.implied ready.order);
      };
      meaning = SameMeaning-reordered old.book.clauses new.book.clauses clauses;
      firm = rw kinds (SameMeaning-firm_reordered old.book.kinds old.book.clauses new.book.clauses ready.learned.as_many clauses);
      atoms = e.atoms;
      budget = e.budget;
      assumptions = rw assumed refl;
      in_order = in_order;
      count = let more = e.count in omega (arith, more);
      decided = omega (arith, decided);
      activity = IsLater-same old.activity new.activity activity;
    }

pub Stays-then : (old middle new : Solver) → Stays old middle → Stays middle new → Stays old new
Stays-then old middle new a b = record {
  ready = b.ready;
  meaning = SameMeaning-then old.book.clauses middle.book.clauses new.book.clauses a.meaning b.meaning;
  firm = SameMeaning-then (firm_of old.book) (firm_of middle.book) (firm_of new.book) a.firm b.firm;
  atoms = b.atoms ∙ a.atoms;
  budget = b.budget ∙ a.budget;
  assumptions = b.assumptions ∙ a.assumptions;
  in_order = b.in_order ∙ a.in_order;
  count = omega (arith, a.count, b.count);
  decided = omega (arith, a.decided, b.decided);
  activity = IsLater-then old.activity middle.activity new.activity a.activity b.activity;
}

-- a core of clauses with the same meaning
pub IsCore-before : (old new : List (List ℕ)) (assumed core : List ℕ) → SameMeaning old new → IsCore new assumed core → IsCore old assumed core
IsCore-before old new assumed core same c = record {
  part = c.part;
  refuted = λ v sat all. c.refuted v (same.forth v sat) all;
  mentioned = λ literal has. same.atoms (literal / 2) (c.mentioned literal has);
}

-- refuted clauses have the empty core
pub IsCore-empty : (clauses : List (List ℕ)) (assumed : List ℕ) → AreRefuted clauses → IsCore clauses assumed []
IsCore-empty clauses assumed refuted = record {
  part = λ literal c. absurd (omega (arith, c.1));
  refuted = λ v sat all. refuted v sat;
  mentioned = λ literal c. absurd (omega (arith, c.1));
}
