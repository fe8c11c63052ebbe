-- lemmas on a clause as callers give it
use Rattle.std.proofs.Common.{◌≡◌, ℕ, ◌*◌, ◌<◌, Bool, true, false, map, refl, List, [], ◌∷◌, ◌++◌, length, get_or, take, sym, ap, ◌∙◌, subst, ⊎_elim, inl, arith}
use Rattle.std.specs.List.{Contains}
use Rattle.std.proofs.lemmas.List.{length-take, get_or-take}
use Rattle.std.proofs.lemmas.List.Elements.{Contains-append_left, Contains-push, Contains-push_cases}
use Rattle.asp_clauses.specs.Literal.{negated}
use Rattle.asp_clauses.specs.Book.{IsClause}
use Rattle.asp_search.specs.declared.solver.Solver.{Solver}
use Rattle.asp_search.specs.Meaning.{truth, AddsClause}
use Rattle.asp_search.specs.Seen.{AreCodes, AreDistinct}
use Rattle.asp_search.specs.Solver.{IsReady}
use Rattle.asp_search.specs.Clause.{IsTautology, Collects, KeepsBook}
use Rattle.asp_clauses.proofs.LiteralLemmas.{negated-negated, negated-≢, same_half}
use Rattle.asp_search.proofs.Truth.{true_or_negated}
use Rattle.asp_clauses.specs.declared.kind.Kind.{Kind}
use Rattle.asp_clauses.specs.Kept.{kept, is_firm}
use Rattle.asp_search.specs.Learned.{AddsFirm}
use Rattle.asp_search.proofs.Basing.{firm_push_loose, firm_push_firm}
use Rattle.asp_search.proofs.Clauses.{AddsClause-push}
use Rattle.asp_clauses.proofs.ReorderLemmas.{Contains-at}

pub Contains-take : (n : ℕ) (xs : List ℕ) (x : ℕ) → Contains (take n xs) x → Contains xs x
Contains-take n xs x c =
    let low : c.0 < n = omega (arith, c.1, length-take n xs) in
    (c.0, omega (arith, c.1, length-take n xs), sym (get_or-take n xs c.0 x low) ∙ c.2)

-- a literal that is there already
pub Collects-had : (front collected : List ℕ) (literal : ℕ) → Contains collected literal → Collects front collected → Collects (front ++ literal ∷ []) collected
Collects-had front collected literal has c = record {
  from = λ l h. Contains-append_left front (literal ∷ []) l (c.from l h);
  to = λ l h.
      ⊎_elim
      (λ (old : Contains front l). c.to l old)
      (λ (e : literal ≡ l). subst (λ (x : ℕ). Contains collected x) e has)
      (Contains-push_cases front literal l h);
  apart = c.apart;
}

-- a new literal, whose negation isn't there
pub Collects-new : (front collected : List ℕ) (literal : ℕ) → (Contains collected (negated literal) → ⊥) → Collects front collected → Collects (front ++ literal ∷ []) (collected ++ literal ∷ [])
Collects-new front collected literal absent c = record {
  from = λ l h.
      ⊎_elim
      (λ (old : Contains collected l). Contains-append_left front (literal ∷ []) l (c.from l old))
      (λ (e : literal ≡ l). subst (λ (x : ℕ). Contains (front ++ literal ∷ []) x) e (Contains-push front literal))
      (Contains-push_cases collected literal l h);
  to = λ l h.
      ⊎_elim
      (λ (old : Contains front l). Contains-append_left collected (literal ∷ []) l (c.to l old))
      (λ (e : literal ≡ l). subst (λ (x : ℕ). Contains (collected ++ literal ∷ []) x) e (Contains-push collected literal))
      (Contains-push_cases front literal l h);
  apart = λ l h n.
      ⊎_elim
      (λ (old : Contains collected l).
      ⊎_elim
      (λ (old_n : Contains collected (negated l)). c.apart l old old_n)
      (λ (e : literal ≡ negated l). absent (subst (λ (x : ℕ). Contains collected x) (sym (ap (λ (x : ℕ). negated x) e ∙ negated-negated l)) old))
      (Contains-push_cases collected literal (negated l) n))
      (λ (e : literal ≡ l).
      ⊎_elim
      (λ (old_n : Contains collected (negated l)). absent (subst (λ (x : ℕ). Contains collected (negated x)) (sym e) old_n))
      (λ (q : literal ≡ negated l). negated-≢ l (sym q ∙ e))
      (Contains-push_cases collected literal (negated l) n))
      (Contains-push_cases collected literal l h);
}

-- the collected literals are a clause
pub IsClause-collected : (atoms : ℕ) (clause collected : List ℕ) → AreCodes (2 * atoms) collected → AreDistinct collected → Collects clause collected → IsClause atoms collected
IsClause-collected atoms clause collected codes distinct c = record {
  in_range = codes;
  distinct = λ i j low within e.
      let here : i < length collected = omega (arith, low, within) in
      ⊎_elim
      (λ (same : get_or collected j 0 ≡ get_or collected i 0). distinct i j low within (sym same))
      (λ (opposite : get_or collected j 0 ≡ negated (get_or collected i 0)).
      c.apart (get_or collected i 0) (Contains-at collected i here) (subst (λ (x : ℕ). Contains collected x) opposite (Contains-at collected j within)))
      (same_half (get_or collected j 0) (get_or collected i 0) (sym e));
}

-- and mean the clause
pub AddsClause-collected : (clauses : List (List ℕ)) (clause collected : List ℕ) → Collects clause collected → AddsClause clauses (clauses ++ collected ∷ []) clause
AddsClause-collected clauses clause collected c =
    AddsClause-push clauses collected clause
    (λ v s. record { literal = s.literal; has = c.to s.literal s.has; holds = s.holds })
    (λ v s. record { literal = s.literal; has = c.from s.literal s.has; holds = s.holds })
    (λ atom m. record { literal = m.literal; has = c.from m.literal m.has; of_atom = m.of_atom })

-- a clause with both literals of an atom adds nothing
pub AddsClause-tautology : (clauses : List (List ℕ)) (clause : List ℕ) → IsTautology clause → AddsClause clauses clauses clause
AddsClause-tautology clauses clause t = record {
  forth = λ v sat s. sat;
  back = λ v sat. sat;
  satisfied = λ v sat.
      ⊎_elim
      (λ (h : truth v t.literal ≡ true). record { literal = t.literal; has = t.has; holds = h })
      (λ (h : truth v (negated t.literal) ≡ true). record { literal = negated t.literal; has = t.has_opposite; holds = h })
      (true_or_negated v t.literal);
  atoms = λ atom m. inl m;
}

-- what they change of the firm clauses
pub AddsFirm-collected : (loose : Bool) (kinds : List Kind) (clauses : List (List ℕ)) (clause collected : List ℕ) → length kinds ≡ length clauses → Collects clause collected
    → AddsFirm loose (kept (map is_firm kinds) clauses) (kept (map is_firm (kinds ++ record { learned = false; loose = loose; score = 0 } ∷ [])) (clauses ++ collected ∷ [])) clause
AddsFirm-collected true kinds clauses clause collected as_many c = firm_push_loose kinds clauses _ collected as_many refl
AddsFirm-collected false kinds clauses clause collected as_many c =
    rw (firm_push_firm kinds clauses (record { learned = false; loose = false; score = 0 }) collected as_many refl) (AddsClause-collected (kept (map is_firm kinds) clauses) clause collected c)

pub AddsFirm-tautology : (loose : Bool) (clauses : List (List ℕ)) (clause : List ℕ) → IsTautology clause → AddsFirm loose clauses clauses clause
AddsFirm-tautology true clauses clause t = refl
AddsFirm-tautology false clauses clause t = AddsClause-tautology clauses clause t

pub IsReady-book : (old new : Solver) → IsReady old → KeepsBook old new → new.seen.marked ≡ [] → IsReady new
IsReady-book old new ready k unmarked = record {
  fitted = record {
    goes = k.goes;
    few = rw k.trail ready.fitted.few;
    codes = rw k.trail (k.codes ∙ ready.fitted.codes);
    heap_atoms = rw (k.heap, k.trail) ready.fitted.heap_atoms;
  };
  ranges = k.ranges;
  learned = k.learned;
  ground = rw (k.trail, k.looked, k.ground_loose) k.ground;
  unmarked = unmarked;
  assumptions = rw (k.trail, k.assumed) ready.assumptions;
  assumed = rw (k.trail, k.assumed) ready.assumed;
  cursor = rw (k.trail, k.assumed, k.cursor, k.held) ready.cursor;
  order = rw (k.trail, k.assumed, k.front, k.in_order) ready.order;
}
