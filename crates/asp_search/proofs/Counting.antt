-- lemmas on how many marked literals of a level are still open
use Rattle.std.proofs.Common.{◌≡◌, ◌≢◌, ℕ, suc, zero, ◌+◌, ◌<◌, ◌≤◌, ◌&&◌, Bool, true, false, cond, eqb, List, [], ◌∷◌, ◌++◌, length, refl, sym, ap, ◌∙◌, subst, ⊎_elim, arith}
use Rattle.std.specs.List.{Contains}
use Rattle.std.proofs.lemmas.List.Elements.{Contains-append_left, Contains-push, Contains-push_cases}
use Rattle.std.proofs.lemmas.Bool.{cases_eq, cases_lt, cases_Bool, or_cases, or_left, or_right, and_from, and_left, and_right, and_parts, eq-eqb, eqb-true, ne_eqb, cond-true, cond-false, false≢true, false_from_ne_true}
use Rattle.asp_clauses.specs.declared.trail.Step.{Step}
use Rattle.asp_clauses.specs.Trail.{literal_at, level_at}
use Rattle.asp_search.specs.Analysis.{is_member, open_below, AreApart}
use Rattle.asp_search.proofs.Truth.{Contains-tail, Contains-cases}

pub Contains-member : (xs : List ℕ) (x : ℕ) → is_member xs x ≡ true → Contains xs x
Contains-member [] x h = absurd (false≢true h)
Contains-member (y ∷ ys) x h =
    ⊎_elim
    (λ (e : eqb y x ≡ true). (0, omega arith, eqb-true y x e))
    (λ (m : is_member ys x ≡ true). Contains-tail y ys x (Contains-member ys x m))
    (or_cases (eqb y x) (is_member ys x) h)

pub member-Contains : (xs : List ℕ) (x : ℕ) → Contains xs x → is_member xs x ≡ true
member-Contains [] x c = absurd (omega (arith, c.1))
member-Contains (y ∷ ys) x c =
    ⊎_elim
    (λ (e : y ≡ x). or_left (eqb y x) (is_member ys x) (eq-eqb y x e))
    (λ (t : Contains ys x). or_right (eqb y x) (is_member ys x) (member-Contains ys x t))
    (Contains-cases y ys x c)

pub not_member : (xs : List ℕ) (x : ℕ) → (Contains xs x → ⊥) → is_member xs x ≡ false
not_member xs x n = false_from_ne_true (is_member xs x) (λ (t : is_member xs x ≡ true). n (Contains-member xs x t))

open_step : (marked : List ℕ) (steps : List Step) (level place : ℕ) → open_below marked steps level (suc place) ≡ cond (is_member marked (literal_at steps place) && eqb (level_at steps place) level) 1 0 + open_below marked steps level place
unfolding open_below
open_step marked steps level place = refl

open_start : (marked : List ℕ) (steps : List Step) (level : ℕ) → open_below marked steps level 0 ≡ 0
unfolding open_below
open_start marked steps level = refl

one_if : (b : Bool) → b ≡ true → cond {A = ℕ} b 1 0 ≡ 1
one_if b h = cond-true {A = ℕ} b 1 0 h

none_if : (b : Bool) → b ≡ false → cond {A = ℕ} b 1 0 ≡ 0
none_if b h = cond-false {A = ℕ} b 1 0 h

-- a marked literal of the level is one more
pub open_below-marked : (marked : List ℕ) (steps : List Step) (level place : ℕ) → Contains marked (literal_at steps place) → level_at steps place ≡ level → open_below marked steps level (suc place) ≡ open_below marked steps level place + 1
open_below-marked marked steps level place m l =
    omega (arith, open_step marked steps level place, one_if (is_member marked (literal_at steps place) && eqb (level_at steps place) level) (and_from _ _ (member-Contains marked (literal_at steps place) m) (eq-eqb (level_at steps place) level l)))

-- one that is not marked is not counted
pub open_below-passed : (marked : List ℕ) (steps : List Step) (level place : ℕ) → (Contains marked (literal_at steps place) → ⊥) → open_below marked steps level (suc place) ≡ open_below marked steps level place
open_below-passed marked steps level place n =
    omega (arith, open_step marked steps level place, none_if (is_member marked (literal_at steps place) && eqb (level_at steps place) level) (and_left (is_member marked (literal_at steps place)) (eqb (level_at steps place) level) (not_member marked (literal_at steps place) n)))

-- one of another level is not counted
pub open_below-other : (marked : List ℕ) (steps : List Step) (level place : ℕ) → level_at steps place ≢ level → open_below marked steps level (suc place) ≡ open_below marked steps level place
open_below-other marked steps level place n =
    omega (arith, open_step marked steps level place, none_if (is_member marked (literal_at steps place) && eqb (level_at steps place) level) (and_right (is_member marked (literal_at steps place)) (eqb (level_at steps place) level) (ne_eqb (level_at steps place) level n)))

pub open_below-le : (marked : List ℕ) (steps : List Step) (level end : ℕ) → open_below marked steps level end ≤ end
open_below-le marked steps level zero = omega (arith, open_start marked steps level)
open_below-le marked steps level (suc end) =
    ⊎_elim
    (λ (t : is_member marked (literal_at steps end) && eqb (level_at steps end) level ≡ true). omega (arith, open_step marked steps level end, one_if _ t, open_below-le marked steps level end))
    (λ (f : is_member marked (literal_at steps end) && eqb (level_at steps end) level ≡ false). omega (arith, open_step marked steps level end, none_if _ f, open_below-le marked steps level end))
    (cases_Bool (is_member marked (literal_at steps end) && eqb (level_at steps end) level))

-- where none is open, no marked literal of the level stands before
pub open_below-none : (marked : List ℕ) (steps : List Step) (level end place : ℕ) → open_below marked steps level end ≡ 0 → place < end → Contains marked (literal_at steps place) → level_at steps place ≡ level → ⊥
open_below-none marked steps level zero place z h m l = absurd (omega (arith, h))
open_below-none marked steps level (suc end) place z h m l =
    ⊎_elim
    (λ (b : place < end). open_below-none marked steps level end place (omega (arith, open_step marked steps level end, z)) b m l)
    (λ (u : end ≤ place).
    let same : place ≡ end = omega (arith, h, u) in
    absurd (omega (arith, z, open_below-marked marked steps level end (subst (λ (p : ℕ). Contains marked (literal_at steps p)) same m) (subst (λ (p : ℕ). level_at steps p ≡ level) same l))))
    (cases_lt place end)

-- where some are open, one stands before
pub record IsOpen (marked : List ℕ) (steps : List Step) (level end : ℕ) : Type 0 where
  pub place : ℕ
  pub before : place < end
  pub is_marked : Contains marked (literal_at steps place)
  pub at_level : level_at steps place ≡ level

pub open_below-some : (marked : List ℕ) (steps : List Step) (level end : ℕ) → 0 < open_below marked steps level end → IsOpen marked steps level end
open_below-some marked steps level zero h = absurd (omega (arith, h, open_start marked steps level))
open_below-some marked steps level (suc end) h =
    ⊎_elim
    (λ (t : is_member marked (literal_at steps end) && eqb (level_at steps end) level ≡ true).
    let parts = and_parts (is_member marked (literal_at steps end)) (eqb (level_at steps end) level) t in
    record { place = end; before = omega arith; is_marked = Contains-member marked (literal_at steps end) parts.0; at_level = eqb-true (level_at steps end) level parts.1 })
    (λ (f : is_member marked (literal_at steps end) && eqb (level_at steps end) level ≡ false).
    let o = open_below-some marked steps level end (omega (arith, h, open_step marked steps level end, none_if _ f)) in
    record { place = o.place; before = omega (arith, o.before); is_marked = o.is_marked; at_level = o.at_level })
    (cases_Bool (is_member marked (literal_at steps end) && eqb (level_at steps end) level))

module _ (steps : List Step) (distinct : AreApart steps) (marked : List ℕ) (level : ℕ) where
  -- marks elsewhere count the same
  same_count : (more : List ℕ) (end : ℕ) → ((p : ℕ) → p < end → level_at steps p ≡ level → is_member more (literal_at steps p) ≡ is_member marked (literal_at steps p)) → open_below more steps level end ≡ open_below marked steps level end
  same_count more zero h = open_start more steps level ∙ sym (open_start marked steps level)
  same_count more (suc end) h =
      let r = same_count more end (λ p b l. h p (omega (arith, b)) l) in
      ⊎_elim
      (λ (l : level_at steps end ≡ level).
      omega (arith, open_step more steps level end, open_step marked steps level end, r, ap (λ (b : Bool). cond {A = ℕ} (b && eqb (level_at steps end) level) 1 0) (h end (omega arith) l)))
      (λ (n : level_at steps end ≡ level → ⊥). omega (arith, open_below-other more steps level end n, open_below-other marked steps level end n, r))
      (cases_eq (level_at steps end) level)

  push_member : (literal x : ℕ) → x ≢ literal → is_member (marked ++ literal ∷ []) x ≡ is_member marked x
  push_member literal x ne =
      ⊎_elim
      (λ (t : is_member marked x ≡ true). member-Contains (marked ++ literal ∷ []) x (Contains-append_left marked (literal ∷ []) x (Contains-member marked x t)) ∙ sym t)
      (λ (f : is_member marked x ≡ false).
      not_member (marked ++ literal ∷ []) x (λ (c : Contains (marked ++ literal ∷ []) x).
      ⊎_elim
      (λ (m : Contains marked x). false≢true (sym f ∙ member-Contains marked x m))
      (λ (e : literal ≡ x). ne (sym e))
      (Contains-push_cases marked literal x c)) ∙ sym f)
      (cases_Bool (is_member marked x))

  apart : (p q : ℕ) → p < length steps → q < length steps → p ≢ q → literal_at steps p ≢ literal_at steps q
  apart p q hp hq ne e =
      ⊎_elim
      (λ (b : p < q). distinct p q b hq (omega (arith, e)))
      (λ (u : q ≤ p). distinct q p (omega (arith, ne, u)) hp (omega (arith, e)))
      (cases_lt p q)

  -- one more mark of the level, before the end
  pub open_below-push : (place : ℕ) → place < length steps → (Contains marked (literal_at steps place) → ⊥) → level_at steps place ≡ level → (end : ℕ) → end ≤ length steps → place < end
      → open_below (marked ++ literal_at steps place ∷ []) steps level end ≡ open_below marked steps level end + 1
  open_below-push place within fresh l zero fits h = absurd (omega (arith, h))
  open_below-push place within fresh l (suc end) fits h =
      let more = marked ++ literal_at steps place ∷ [] in
      ⊎_elim
      (λ (b : place < end).
      let r = open_below-push place within fresh l end (omega (arith, fits)) b in
      let same : is_member more (literal_at steps end) ≡ is_member marked (literal_at steps end) = push_member (literal_at steps place) (literal_at steps end) (apart end place (omega (arith, fits)) within (omega (arith, b))) in
      omega (arith, open_step more steps level end, open_step marked steps level end, r, ap (λ (t : Bool). cond {A = ℕ} (t && eqb (level_at steps end) level) 1 0) same))
      (λ (u : end ≤ place).
      let e : place ≡ end = omega (arith, h, u) in
      let below = same_count more end (λ p b lp. push_member (literal_at steps place) (literal_at steps p) (apart p place (omega (arith, b, fits)) within (omega (arith, b, e)))) in
      let here = open_below-marked more steps level end (subst (λ (p : ℕ). Contains more (literal_at steps p)) e (Contains-push marked (literal_at steps place))) (subst (λ (p : ℕ). level_at steps p ≡ level) e l) in
      let before = open_below-passed marked steps level end (λ (c : Contains marked (literal_at steps end)). fresh (subst (λ (p : ℕ). Contains marked (literal_at steps p)) (sym e) c)) in
      omega (arith, below, here, before))
      (cases_lt place end)

  -- one more mark of another level
  pub open_below-push_other : (place : ℕ) → place < length steps → level_at steps place ≢ level → (end : ℕ) → end ≤ length steps
      → open_below (marked ++ literal_at steps place ∷ []) steps level end ≡ open_below marked steps level end
  open_below-push_other place within n end fits =
      same_count (marked ++ literal_at steps place ∷ []) end (λ p b lp.
      push_member (literal_at steps place) (literal_at steps p) (apart p place (omega (arith, b, fits)) within (λ (e : p ≡ place). n (subst (λ (x : ℕ). level_at steps x ≡ level) e lp))))
