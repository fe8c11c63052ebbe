-- lemmas on the clause that is learned: what a marked literal adds, and what the whole clause is
use Rattle.std.proofs.Common.{◌≡◌, ℕ, ◌+◌, ◌/◌, ◌<◌, ◌≤◌, List, [], ◌∷◌, ◌++◌, length, get_or, refl, sym, ap, ◌∙◌, subst, ⊎_elim, inl, inr, arith}
use Rattle.std.specs.List.{Contains}
use Rattle.std.proofs.lemmas.List.{get_or_append_left, get_or_push, length_push}
use Rattle.std.proofs.lemmas.List.Elements.{Contains-append_left, Contains-push}
use Rattle.std.proofs.lemmas.Bool.{cases_lt}
use Rattle.asp_clauses.specs.declared.trail.Step.{Step}
use Rattle.asp_clauses.specs.Literal.{negated}
use Rattle.asp_clauses.specs.Trail.{literal_at, level_at, IsLawful, IsPlaced, back_to}
use Rattle.asp_search.specs.Meaning.{Mentions}
use Rattle.asp_search.specs.Seen.{AreDistinct}
use Rattle.asp_search.specs.Learned.{IsGrounded}
use Rattle.asp_search.specs.Analysis.{IsCut, IsTaken, IsLearning, IsLearned, IsPassed, IsAdded, Takes, IsRedundant}
use Rattle.asp_clauses.proofs.LiteralLemmas.{negated-half, negated-negated, negated-lt}
use Rattle.asp_search.proofs.Trails.{level_at-le, back_to-within, back_to-step, back_to-level, placed_back, unassigned_back}
use Rattle.asp_search.proofs.Resolution.{learned_follows}
use Rattle.asp_clauses.proofs.ReorderLemmas.{Contains-place, Contains-at}
use Rattle.asp_search.proofs.Marking.{same_place, same_place-literal}

module _ (atoms : ℕ) (base clauses : List (List ℕ)) (steps : List Step) (lawful : IsLawful atoms clauses steps) (grounded : IsGrounded base clauses steps) (marked : List ℕ) (level place : ℕ) (cut : IsCut base steps marked level place) where
  -- the clause begins with the negation of the cut's literal
  pub IsLearning-start : IsLearning base clauses steps marked level place (negated (literal_at steps place) ∷ []) 0 0
  IsLearning-start =
      let m = cut.levels (literal_at steps place) cut.is_marked in
      let same : m.place ≡ place = same_place-literal steps lawful.distinct m.place place m.within cut.within m.is in
      record {
        has = (0, omega arith, refl);
        treated = λ k p low before is. absurd (omega (arith, low));
        each = λ a within.
            let first : a ≡ 0 = omega (arith, within) in
            inl (ap (λ (i : ℕ). get_or (negated (literal_at steps place) ∷ []) i 0) first);
        distinct = λ a b low within. absurd (omega (arith, low, within));
        below = omega (arith, m.above, m.most);
      }

  IsTaken-later : (done target next literal : ℕ) → target ≤ next → IsTaken steps marked place done target literal → IsTaken steps marked place (done + 1) next literal
  IsTaken-later done target next literal up t = record {
    k = t.k;
    before = omega (arith, t.before);
    is = t.is;
    at = t.at;
    lower = t.lower;
    there = t.there;
    low = omega (arith, t.low, up);
  }

  module _ (separate : AreDistinct marked) (done : ℕ) (inside : done < length marked) (old new : List ℕ) (target next : ℕ) (learning : IsLearning base clauses steps marked level place old done target) where
    IsLearning-passed : (p : ℕ) → p < length steps → literal_at steps p ≡ get_or marked done 0 → IsPassed base clauses steps marked p level old new target next → IsLearning base clauses steps marked level place new (done + 1) next
    IsLearning-passed p within is passed =
        rw (passed.same, passed.kept) (record {
          has = learning.has;
          treated = λ k q low before there.
              ⊎_elim
              (λ (b : k < done). learning.treated k q b before there)
              (λ (u : done ≤ k).
              let e : k ≡ done = omega (arith, low, u) in
              let reads : get_or marked k 0 ≡ get_or marked done 0 = ap (λ (i : ℕ). get_or marked i 0) e in
              let same : q ≡ p = same_place-literal steps lawful.distinct q p (omega (arith, before, cut.within)) within (there ∙ (reads ∙ sym is)) in
              ⊎_elim
              (λ (h : level ≤ level_at steps p).
              absurd (omega (arith, h, ap (λ (x : ℕ). level_at steps x) same, cut.alone q before (subst (λ (l : ℕ). Contains marked l) (sym there) (subst (λ (i : ℕ). Contains marked (get_or marked i 0)) (sym e) (Contains-at marked done inside))))))
              (λ (r : IsRedundant base clauses steps marked p). inr (subst (λ (x : ℕ). IsRedundant base clauses steps marked x) (sym same) r))
              passed.why)
              (cases_lt k done);
          each = λ a low.
              ⊎_elim
              (λ (e : get_or old a 0 ≡ negated (literal_at steps place)). inl e)
              (λ (t : IsTaken steps marked place done target (get_or old a 0)). inr (IsTaken-later done target target (get_or old a 0) (omega arith) t))
              (learning.each a low);
          distinct = learning.distinct;
          below = learning.below;
        })

    IsLearning-added : (p : ℕ) → p < length steps → literal_at steps p ≡ get_or marked done 0 → IsAdded steps p (get_or marked done 0) level old new target next → IsLearning base clauses steps marked level place new (done + 1) next
    IsLearning-added p within is added =
        let t = get_or marked done 0 in
        let before_place : p < place = ⊎_elim (λ (b : p < place). b) (λ (u : place ≤ p). absurd (omega (arith, added.lower, cut.at_level, level_at-le steps place p u))) (cases_lt p place) in
        rw added.grows (record {
          has = Contains-append_left old (negated t ∷ []) (negated (literal_at steps place)) learning.has;
          treated = λ k q low before there.
              ⊎_elim
              (λ (b : k < done). ⊎_elim
              (λ (c : Contains old (negated (get_or marked k 0))). inl (Contains-append_left old (negated t ∷ []) (negated (get_or marked k 0)) c))
              (λ (r : IsRedundant base clauses steps marked q). inr r)
              (learning.treated k q b before there))
              (λ (u : done ≤ k).
              let e : k ≡ done = omega (arith, low, u) in
              inl (subst (λ (i : ℕ). Contains (old ++ negated t ∷ []) (negated (get_or marked i 0))) (sym e) (Contains-push old (negated t))))
              (cases_lt k done);
          each = λ a low.
              ⊎_elim
              (λ (b : a < length old).
              rw (get_or_append_left old (negated t ∷ []) 0 a b) (⊎_elim
              (λ (e : get_or old a 0 ≡ negated (literal_at steps place)). inl e)
              (λ (x : IsTaken steps marked place done target (get_or old a 0)). inr (IsTaken-later done target next (get_or old a 0) added.high.left x))
              (learning.each a b)))
              (λ (u : length old ≤ a).
              rw (get_or_push old (negated t) 0 a (omega (arith, u, low, length_push old (negated t))))
              (inr (record { k = done; before = omega arith; is = refl; at = p; lower = before_place; there = is; low = added.high.right })))
              (cases_lt a (length old));
          distinct = λ a b low high.
              ⊎_elim
              (λ (h : b < length old).
              rw (get_or_append_left old (negated t ∷ []) 0 a (omega (arith, low, h)), get_or_append_left old (negated t ∷ []) 0 b h) (learning.distinct a b low h))
              (λ (u : length old ≤ b).
              let here : a < length old = omega (arith, low, high, length_push old (negated t)) in
              rw (get_or_append_left old (negated t ∷ []) 0 a here, get_or_push old (negated t) 0 b (omega (arith, u, high, length_push old (negated t))))
              (λ (e : get_or old a 0 / 2 ≡ negated t / 2).
              ⊎_elim
              (λ (first : get_or old a 0 ≡ negated (literal_at steps place)).
              let same : p ≡ place = same_place steps lawful.distinct p place within cut.within (omega (arith, e, ap (λ (l : ℕ). l / 2) first, ap (λ (l : ℕ). l / 2) is, negated-half t, negated-half (literal_at steps place))) in
              absurd (omega (arith, same, before_place)))
              (λ (x : IsTaken steps marked place done target (get_or old a 0)).
              let same : x.at ≡ p = same_place steps lawful.distinct x.at p (omega (arith, x.lower, cut.within)) within (omega (arith, e, ap (λ (l : ℕ). l / 2) x.is, ap (λ (l : ℕ). l / 2) x.there, ap (λ (l : ℕ). l / 2) is, negated-half t, negated-half (get_or marked x.k 0))) in
              absurd (separate x.k done x.before inside (sym x.there ∙ (ap (λ (q : ℕ). literal_at steps q) same ∙ is))))
              (learning.each a here)))
              (cases_lt b (length old));
          below = ⊎_elim (λ (e : next ≡ target). omega (arith, e, learning.below)) (λ (e : next ≡ level_at steps p). omega (arith, e, added.lower)) added.high.one;
        })

    pub IsLearning-more : Takes base clauses steps marked (get_or marked done 0) level old new target next → IsLearning base clauses steps marked level place new (done + 1) next
    IsLearning-more takes =
        ⊎_elim
        (λ (h : IsPassed base clauses steps marked takes.place level old new target next). IsLearning-passed takes.place takes.within takes.is h)
        (λ (h : IsAdded steps takes.place (get_or marked done 0) level old new target next). IsLearning-added takes.place takes.within takes.is h)
        takes.outcome

  -- all marked literals are treated
  pub IsLearned-from : (learned : List ℕ) (target : ℕ) → IsLearning base clauses steps marked level place learned (length marked) target → IsLearned atoms base steps learned place target
  IsLearned-from learned target learning = record {
    clause = record {
      in_range = λ a within.
          ⊎_elim
          (λ (e : get_or learned a 0 ≡ negated (literal_at steps place)). rw e (negated-lt (literal_at steps place) atoms (lawful.in_range place cut.within)))
          (λ (t : IsTaken steps marked place (length marked) target (get_or learned a 0)).
          rw (t.is, ← t.there) (negated-lt (literal_at steps t.at) atoms (lawful.in_range t.at (omega (arith, t.lower, cut.within)))))
          (learning.each a within);
      distinct = learning.distinct;
    };
    follows = learned_follows atoms base clauses steps lawful grounded marked learned place cut.within cut.refutes learning.has (λ p before c.
        let k = Contains-place marked (literal_at steps p) c in
        ⊎_elim
        (λ (h : Contains learned (negated (get_or marked k.0 0))). inl (subst (λ (l : ℕ). Contains learned (negated l)) k.2 h))
        (λ (r : IsRedundant base clauses steps marked p). inr r)
        (learning.treated k.0 p k.1 before (sym k.2)));
    lower = omega (arith, learning.below, cut.at_level);
    code = negated-lt (literal_at steps place) atoms (lawful.in_range place cut.within);
    implies = record {
      has = learning.has;
      others_fail = λ other c ne.
          let a = Contains-place learned other c in
          ⊎_elim
          (λ (e : get_or learned a.0 0 ≡ negated (literal_at steps place)). absurd (ne (sym a.2 ∙ e)))
          (λ (t : IsTaken steps marked place (length marked) target (get_or learned a.0 0)).
          let opposite : negated other ≡ literal_at steps t.at = ap (λ (l : ℕ). negated l) (sym a.2 ∙ t.is) ∙ (negated-negated (get_or marked t.k 0) ∙ sym t.there) in
          rw opposite (placed_back target steps t.at (omega (arith, t.lower, cut.within)) t.low))
          (learning.each a.0 a.1);
    };
    unassigned = unassigned_back atoms clauses target steps place lawful cut.within (omega (arith, learning.below, cut.at_level));
    mentions = λ atom m.
        let a = Contains-place learned m.literal m.has in
        ⊎_elim
        (λ (e : get_or learned a.0 0 ≡ negated (literal_at steps place)).
        let half : literal_at steps place / 2 ≡ atom = sym (negated-half (literal_at steps place)) ∙ (ap (λ (l : ℕ). l / 2) (sym e ∙ a.2) ∙ m.of_atom) in
        subst (λ (x : ℕ). Mentions base x) half (cut.mentions (literal_at steps place) cut.is_marked))
        (λ (t : IsTaken steps marked place (length marked) target (get_or learned a.0 0)).
        let half : get_or marked t.k 0 / 2 ≡ atom = sym (negated-half (get_or marked t.k 0)) ∙ (ap (λ (l : ℕ). l / 2) (sym t.is ∙ a.2) ∙ m.of_atom) in
        subst (λ (x : ℕ). Mentions base x) half (cut.mentions (get_or marked t.k 0) (Contains-at marked t.k t.before)))
        (learning.each a.0 a.1);
  }

-- what is placed up to a level is placed up to a higher one
placed_higher : (steps : List Step) (target level literal : ℕ) → target ≤ level → IsPlaced (back_to target steps) literal → IsPlaced (back_to level steps) literal
placed_higher steps target level literal up p =
    let within : p.0 < length steps = back_to-within target steps p.0 p.1 in
    let read : literal_at steps p.0 ≡ literal = ap (λ (s : Step). s.literal) (sym (back_to-step target steps p.0 p.1)) ∙ p.2 in
    subst (λ (l : ℕ). IsPlaced (back_to level steps) l) read (placed_back level steps p.0 within (omega (arith, back_to-level target steps p.0 p.1, up)))

-- the clause implies its literal too where the trail goes back less far, but behind the literal's level
pub IsLearned-higher : (atoms : ℕ) (base clauses : List (List ℕ)) (steps : List Step) → IsLawful atoms clauses steps → (learned : List ℕ) (place target level : ℕ) → place < length steps → target ≤ level → level < level_at steps place
    → IsLearned atoms base steps learned place target → IsLearned atoms base steps learned place level
IsLearned-higher atoms base clauses steps lawful learned place target level within up below l = record {
  clause = l.clause;
  follows = l.follows;
  lower = below;
  code = l.code;
  implies = record {
    has = l.implies.has;
    others_fail = λ other c ne. placed_higher steps target level (negated other) up (l.implies.others_fail other c ne);
  };
  unassigned = unassigned_back atoms clauses level steps place lawful within below;
  mentions = l.mentions;
}
