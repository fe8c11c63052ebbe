-- lemmas on what lists of clauses mean
use Rattle.std.proofs.Common.{◌≡◌, ℕ, ◌<◌, ◌≤◌, Bool, List, [], ◌∷◌, ◌++◌, length, refl, subst, ⊎_elim, inl, inr, arith}
use Rattle.std.proofs.lemmas.List.{get_or_append_left, get_or_push, length_push}
use Rattle.std.proofs.lemmas.List.Sorted.{Contains-permutation, IsPermutation-sym}
use Rattle.std.proofs.lemmas.Bool.{cases_lt}
use Rattle.asp_clauses.specs.Trail.{clause_at}
use Rattle.asp_clauses.specs.Book.{SameClauses}
use Rattle.asp_search.specs.Meaning.{Satisfies, SatisfiesAll, MentionedIn, Mentions, SameMeaning, AddsClause}

pub SameMeaning-refl : (clauses : List (List ℕ)) → SameMeaning clauses clauses
SameMeaning-refl clauses = record { forth = λ v s. s; back = λ v s. s; atoms = λ atom m. m }

pub SameMeaning-then : (old middle new : List (List ℕ)) → SameMeaning old middle → SameMeaning middle new → SameMeaning old new
SameMeaning-then old middle new a b = record {
  forth = λ v s. b.forth v (a.forth v s);
  back = λ v s. a.back v (b.back v s);
  atoms = λ atom m. a.atoms atom (b.atoms atom m);
}

clause_at-push-old : (clauses : List (List ℕ)) (clause : List ℕ) (n : ℕ) → n < length clauses → clause_at (clauses ++ clause ∷ []) n ≡ clause_at clauses n
clause_at-push-old clauses clause n h = get_or_append_left clauses (clause ∷ []) [] n h

clause_at-push-new : (clauses : List (List ℕ)) (clause : List ℕ) (n : ℕ) → length clauses ≡ n → clause_at (clauses ++ clause ∷ []) n ≡ clause
clause_at-push-new clauses clause n h = get_or_push clauses clause [] n h

-- what clauses mention they mention with one clause more, and so does the last clause
Mentions-push : (clauses : List (List ℕ)) (clause : List ℕ) (atom : ℕ) → Mentions clauses atom → Mentions (clauses ++ clause ∷ []) atom
Mentions-push clauses clause atom m = record {
  number = m.number;
  within = let within = m.within in omega (arith, within, length_push clauses clause);
  mentioned = rw (clause_at-push-old clauses clause m.number m.within) m.mentioned;
}

Mentions-last : (clauses : List (List ℕ)) (clause : List ℕ) (atom : ℕ) → MentionedIn clause atom → Mentions (clauses ++ clause ∷ []) atom
Mentions-last clauses clause atom m = record {
  number = length clauses;
  within = omega (arith, length_push clauses clause);
  mentioned = rw (clause_at-push-new clauses clause (length clauses) refl) m;
}

-- one clause more, which says no more than `stated`
pub AddsClause-push : (clauses : List (List ℕ)) (clause stated : List ℕ) → ((v : ℕ → Bool) → Satisfies v stated → Satisfies v clause) → ((v : ℕ → Bool) → Satisfies v clause → Satisfies v stated) → ((atom : ℕ) → MentionedIn clause atom → MentionedIn stated atom) → AddsClause clauses (clauses ++ clause ∷ []) stated
AddsClause-push clauses clause stated from to mentions = record {
  forth = λ v sat s n within.
      ⊎_elim
      (λ (b : n < length clauses). rw (clause_at-push-old clauses clause n b) (sat n b))
      (λ (u : length clauses ≤ n). rw (clause_at-push-new clauses clause n (omega (arith, u, within, length_push clauses clause))) (from v s))
      (cases_lt n (length clauses));
  back = λ v sat n within.
      subst (λ (c : List ℕ). Satisfies v c) (clause_at-push-old clauses clause n within) (sat n (omega (arith, within, length_push clauses clause)));
  satisfied = λ v sat.
      to v (subst (λ (c : List ℕ). Satisfies v c) (clause_at-push-new clauses clause (length clauses) refl) (sat (length clauses) (omega (arith, length_push clauses clause))));
  atoms = λ atom m.
      ⊎_elim
      (λ (b : m.number < length clauses). inl (record { number = m.number; within = b; mentioned = subst (λ (c : List ℕ). MentionedIn c atom) (clause_at-push-old clauses clause m.number b) m.mentioned }))
      (λ (u : length clauses ≤ m.number). inr (mentions atom (subst (λ (c : List ℕ). MentionedIn c atom) (clause_at-push-new clauses clause m.number (omega (arith, u, m.within, length_push clauses clause))) m.mentioned)))
      (cases_lt m.number (length clauses));
}

-- a clause that follows and mentions no further atom changes nothing
pub SameMeaning-learned : (clauses : List (List ℕ)) (learned : List ℕ) → ((v : ℕ → Bool) → SatisfiesAll v clauses → Satisfies v learned) → ((atom : ℕ) → MentionedIn learned atom → Mentions clauses atom) → SameMeaning clauses (clauses ++ learned ∷ [])
SameMeaning-learned clauses learned follows mentions =
    let a = AddsClause-push clauses learned learned (λ v s. s) (λ v s. s) (λ atom m. m) in
    record {
      forth = λ v sat. a.forth v sat (follows v sat);
      back = a.back;
      atoms = λ atom m. ⊎_elim (λ (h : Mentions clauses atom). h) (λ (h : MentionedIn learned atom). mentions atom h) (a.atoms atom m);
    }

-- the order of literals in clauses changes nothing
pub SameMeaning-reordered : (old new : List (List ℕ)) → SameClauses old new → SameMeaning old new
SameMeaning-reordered old new same = record {
  forth = λ v sat n within.
      let inside : n < length old = omega (arith, within, same.as_many) in
      let s = sat n inside in
      record { literal = s.literal; has = Contains-permutation (clause_at old n) (clause_at new n) s.literal (same.reordered n inside) s.has; holds = s.holds };
  back = λ v sat n within.
      let s = sat n (omega (arith, within, same.as_many)) in
      record { literal = s.literal; has = Contains-permutation (clause_at new n) (clause_at old n) s.literal (IsPermutation-sym (clause_at old n) (clause_at new n) (same.reordered n within)) s.has; holds = s.holds };
  atoms = λ atom m.
      let inside : m.number < length old = omega (arith, m.within, same.as_many) in
      record {
        number = m.number;
        within = inside;
        mentioned = record {
          literal = m.mentioned.literal;
          has = Contains-permutation (clause_at new m.number) (clause_at old m.number) m.mentioned.literal (IsPermutation-sym (clause_at old m.number) (clause_at new m.number) (same.reordered m.number inside)) m.mentioned.has;
          of_atom = m.mentioned.of_atom;
        };
      };
}

-- clauses that stand for others do so after the same clause is added to both
pub stand_after_add : (added old new : List (List ℕ)) (clause : List ℕ) → SameMeaning added old → AddsClause old new clause → SameMeaning (added ++ clause ∷ []) new
stand_after_add added old new clause same adds =
    let pushed = AddsClause-push added clause clause (λ v s. s) (λ v s. s) (λ atom m. m) in
    record {
      forth = λ v sat. adds.forth v (same.forth v (pushed.back v sat)) (pushed.satisfied v sat);
      back = λ v sat. pushed.forth v (same.back v (adds.back v sat)) (adds.satisfied v sat);
      atoms = λ atom m. ⊎_elim
          (λ (h : Mentions old atom). Mentions-push added clause atom (same.atoms atom h))
          (λ (h : MentionedIn clause atom). Mentions-last added clause atom h)
          (adds.atoms atom m);
    }
