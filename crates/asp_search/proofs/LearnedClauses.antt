-- lemmas on learned clauses, which follow from the added ones
use Rattle.std.proofs.Common.{◌≡◌, ℕ, ◌<◌, ◌≤◌, Bool, true, false, not, List, [], ◌∷◌, ◌&&◌, ◌++◌, length, map, refl, sym, ap, ◌∙◌, subst, ⊎_elim, arith}
use Rattle.std.proofs.lemmas.List.{get_or_append_left, get_or_push, length_push, length-map}
use Rattle.std.specs.List.Sorted.{IsPermutation}
use Rattle.std.proofs.lemmas.List.Sorted.{Contains-permutation, IsPermutation-sym}
use Rattle.std.proofs.lemmas.Bool.{cases_lt, cases_Bool, false≢true}
use Rattle.asp_clauses.specs.declared.kind.Kind.{Kind}
use Rattle.asp_clauses.specs.Trail.{clause_at}
use Rattle.asp_clauses.specs.Book.{SameClauses}
use Rattle.asp_clauses.specs.Book.{BookState}
use Rattle.asp_clauses.specs.Kept.{kept, kind_at, no_kind, mark_of, new_number, is_firm}
use Rattle.asp_clauses.proofs.KeptLemmas.{from_old, at_new, length-kept, map-kept}
use Rattle.asp_search.specs.Meaning.{Satisfies, SatisfiesAll, Mentions, MentionedIn, SameMeaning}
use Rattle.asp_search.specs.Learned.{is_added, is_firm_added, Meets, AreLearned, Has, base_of, firm_of}
use Rattle.asp_search.specs.Solver.{AreInRange}
use Rattle.asp_search.proofs.Clauses.{SameMeaning-refl, SameMeaning-reordered, SameMeaning-learned}
use Rattle.asp_search.proofs.Basing.{within_all, satisfied_within, mentions_within, firm_from_meets, meets_from_firm, firm_push_loose, firm_push_firm, firm_mark, kept_twice}

first_true : (a b : Bool) → (a && b) ≡ true → a ≡ true
first_true true b h = refl
first_true false b h = h

second_true : (a b : Bool) → (a && b) ≡ true → b ≡ true
second_true true b h = h
second_true false b h = absurd (false≢true h)

-- a firm clause is among the firm ones
firm_at : (kinds : List Kind) (clauses : List (List ℕ)) → length kinds ≡ length clauses → (n : ℕ) → n < length clauses → is_firm (kind_at kinds n) ≡ true → Has (kept (map is_firm kinds) clauses) (clause_at clauses n)
firm_at kinds clauses as_many n within is =
    let m = at_new (map is_firm kinds) clauses n [] (omega (arith, within, as_many, length-map kinds is_firm)) within (firm_mark kinds n (omega (arith, within, as_many)) ∙ is) in
    (new_number (map is_firm kinds) n, m.within, m.is)

-- a clause more among those of a kind, seen from the first ones
meets_before : (test : Kind → Bool) (v : ℕ → Bool) (kinds : List Kind) (clauses : List (List ℕ)) (kind : Kind) (clause : List ℕ) → length kinds ≡ length clauses → Meets test v (kinds ++ kind ∷ []) (clauses ++ clause ∷ []) → Meets test v kinds clauses
meets_before test v kinds clauses kind clause as_many meets n within is =
    subst (λ (c : List ℕ). Satisfies v c) (get_or_append_left clauses (clause ∷ []) [] n within)
    (meets n (omega (arith, within, length_push clauses clause)) (ap (λ (x : Kind). test x) (get_or_append_left kinds (kind ∷ []) no_kind n (omega (arith, within, as_many))) ∙ is))

meets_last : (test : Kind → Bool) (v : ℕ → Bool) (kinds : List Kind) (clauses : List (List ℕ)) (kind : Kind) (clause : List ℕ) → length kinds ≡ length clauses → Meets test v (kinds ++ kind ∷ []) (clauses ++ clause ∷ []) → test kind ≡ true → Satisfies v clause
meets_last test v kinds clauses kind clause as_many meets is =
    subst (λ (c : List ℕ). Satisfies v c) (get_or_push clauses clause [] (length clauses) refl)
    (meets (length clauses) (omega (arith, length_push clauses clause)) (ap (λ (x : Kind). test x) (get_or_push kinds kind no_kind (length clauses) as_many) ∙ is))

meets_more : (test : Kind → Bool) (v : ℕ → Bool) (kinds : List Kind) (clauses : List (List ℕ)) (kind : Kind) (clause : List ℕ) → length kinds ≡ length clauses → Meets test v kinds clauses → (test kind ≡ true → Satisfies v clause) → Meets test v (kinds ++ kind ∷ []) (clauses ++ clause ∷ [])
meets_more test v kinds clauses kind clause as_many meets last n within is =
    ⊎_elim
    (λ (b : n < length clauses).
    rw (get_or_append_left clauses (clause ∷ []) [] n b)
    (meets n b (ap (λ (x : Kind). test x) (sym (get_or_append_left kinds (kind ∷ []) no_kind n (omega (arith, b, as_many)))) ∙ is)))
    (λ (u : length clauses ≤ n).
    let e : length clauses ≡ n = omega (arith, u, within, length_push clauses clause) in
    rw (get_or_push clauses clause [] n e)
    (last (ap (λ (x : Kind). test x) (sym (get_or_push kinds kind no_kind n (omega (arith, as_many, e)))) ∙ is)))
    (cases_lt n (length clauses))

pub AreLearned-none : AreLearned [] []
AreLearned-none = record {
  as_many = refl;
  follow = λ v meets n within. absurd (omega (arith, within));
  firm = λ v meets n within. absurd (omega (arith, within));
}

-- one clause more, which is added
pub AreLearned-added : (kinds : List Kind) (clauses : List (List ℕ)) (kind : Kind) (clause : List ℕ) → kind.learned ≡ false → AreLearned kinds clauses → AreLearned (kinds ++ kind ∷ []) (clauses ++ clause ∷ [])
AreLearned-added kinds clauses kind clause is l =
    let added : is_added kind ≡ true = ap (λ (b : Bool). not b) is in
    record {
      as_many = omega (arith, l.as_many, length_push kinds kind, length_push clauses clause);
      follow = λ v meets n within.
          meets_more (λ k. true) v kinds clauses kind clause l.as_many
          (λ k low _. l.follow v (meets_before is_added v kinds clauses kind clause l.as_many meets) k low)
          (λ _. meets_last is_added v kinds clauses kind clause l.as_many meets added) n within refl;
      firm = λ v meets.
          meets_more is_firm v kinds clauses kind clause l.as_many
          (l.firm v (meets_before is_firm_added v kinds clauses kind clause l.as_many meets))
          (λ firm. meets_last is_firm_added v kinds clauses kind clause l.as_many meets (ap (λ (b : Bool). b && is_firm kind) added ∙ firm));
    }

-- one clause more, which follows
pub AreLearned-learned : (book : BookState) (kind : Kind) (clause : List ℕ) → ((v : ℕ → Bool) → SatisfiesAll v (base_of book kind.loose) → Satisfies v clause) → AreLearned book.kinds book.clauses → AreLearned (book.kinds ++ kind ∷ []) (book.clauses ++ clause ∷ [])
AreLearned-learned book kind clause follows l =
    let kinds = book.kinds in
    let clauses = book.clauses in
    record {
      as_many = omega (arith, l.as_many, length_push kinds kind, length_push clauses clause);
      follow = λ v meets n within.
          let all = l.follow v (meets_before is_added v kinds clauses kind clause l.as_many meets) in
          meets_more (λ k. true) v kinds clauses kind clause l.as_many (λ k low _. all k low)
          (λ _. follows v (satisfied_within (base_of book kind.loose) clauses (within_all book kind.loose) v all)) n within refl;
      firm = λ v meets.
          let all = l.firm v (meets_before is_firm_added v kinds clauses kind clause l.as_many meets) in
          meets_more is_firm v kinds clauses kind clause l.as_many all
          (λ firm. firm_follows book kind clause follows v (firm_from_meets v kinds clauses l.as_many all) firm);
    }
  where
    firm_follows : (book : BookState) (kind : Kind) (clause : List ℕ) → ((v : ℕ → Bool) → SatisfiesAll v (base_of book kind.loose) → Satisfies v clause) → (v : ℕ → Bool) → SatisfiesAll v (firm_of book) → is_firm kind ≡ true → Satisfies v clause
    firm_follows book kind clause follows v sat firm =
        ⊎_elim
        (λ (t : kind.loose ≡ true). absurd (false≢true (sym (ap (λ (b : Bool). not b) t) ∙ firm)))
        (λ (f : kind.loose ≡ false). follows v (subst (λ (b : Bool). SatisfiesAll v (base_of book b)) (sym f) sat))
        (cases_Bool kind.loose)

Satisfies-reordered : (v : ℕ → Bool) (a b : List ℕ) → IsPermutation a b → Satisfies v a → Satisfies v b
Satisfies-reordered v a b same s = record { literal = s.literal; has = Contains-permutation a b s.literal same s.has; holds = s.holds }

meets_reordered : (test : Kind → Bool) (v : ℕ → Bool) (kinds : List Kind) (old new : List (List ℕ)) → SameClauses old new → Meets test v kinds new → Meets test v kinds old
meets_reordered test v kinds old new same meets n within is =
    Satisfies-reordered v (clause_at new n) (clause_at old n) (IsPermutation-sym (clause_at old n) (clause_at new n) (same.reordered n within)) (meets n (omega (arith, within, same.as_many)) is)

pub AreLearned-reordered : (kinds : List Kind) (old new : List (List ℕ)) → SameClauses old new → AreLearned kinds old → AreLearned kinds new
AreLearned-reordered kinds old new same l = record {
  as_many = omega (arith, l.as_many, same.as_many);
  follow = λ v meets. (SameMeaning-reordered old new same).forth v (l.follow v (meets_reordered is_added v kinds old new same meets));
  firm = λ v meets n within is.
      let inside : n < length old = omega (arith, within, same.as_many) in
      Satisfies-reordered v (clause_at old n) (clause_at new n) (same.reordered n inside) (l.firm v (meets_reordered is_firm_added v kinds old new same meets) n inside is);
}

-- what a learned clause changes of the firm clauses
pub SameMeaning-firm_learned : (book : BookState) (kind : Kind) (clause : List ℕ) → length book.kinds ≡ length book.clauses → ((v : ℕ → Bool) → SatisfiesAll v (base_of book kind.loose) → Satisfies v clause) → ((atom : ℕ) → MentionedIn clause atom → Mentions (base_of book kind.loose) atom)
    → SameMeaning (firm_of book) (kept (map is_firm (book.kinds ++ kind ∷ [])) (book.clauses ++ clause ∷ []))
SameMeaning-firm_learned book kind clause as_many follows mentions =
    ⊎_elim
    (λ (t : kind.loose ≡ true). rw (firm_push_loose book.kinds book.clauses kind clause as_many t) (SameMeaning-refl (firm_of book)))
    (λ (f : kind.loose ≡ false).
    rw (firm_push_firm book.kinds book.clauses kind clause as_many f)
    (SameMeaning-learned (firm_of book) clause
    (λ v sat. follows v (subst (λ (b : Bool). SatisfiesAll v (base_of book b)) (sym f) sat))
    (λ atom m. subst (λ (b : Bool). Mentions (base_of book b) atom) f (mentions atom m))))
    (cases_Bool kind.loose)

pub SameMeaning-all_learned : (book : BookState) (loose : Bool) (clause : List ℕ) → ((v : ℕ → Bool) → SatisfiesAll v (base_of book loose) → Satisfies v clause) → ((atom : ℕ) → MentionedIn clause atom → Mentions (base_of book loose) atom)
    → SameMeaning book.clauses (book.clauses ++ clause ∷ [])
SameMeaning-all_learned book loose clause follows mentions =
    SameMeaning-learned book.clauses clause
    (λ v sat. follows v (satisfied_within (base_of book loose) book.clauses (within_all book loose) v sat))
    (λ atom m. mentions_within (base_of book loose) book.clauses (within_all book loose) atom (mentions atom m))

-- ---- some clauses are removed, but none that is added and firm

module _ (kinds : List Kind) (clauses : List (List ℕ)) (stays : List Bool) (as_many : length stays ≡ length clauses) (l : AreLearned kinds clauses) where
  -- what satisfies the kept ones of a kind satisfies all of it, where these stay
  meets_kept : (test : Kind → Bool) → ((n : ℕ) → n < length clauses → test (kind_at kinds n) ≡ true → mark_of stays n ≡ true) → (v : ℕ → Bool) → Meets test v (kept stays kinds) (kept stays clauses) → Meets test v kinds clauses
  meets_kept test stay v meets n within is =
      let marked = stay n within is in
      let here = at_new stays clauses n [] (omega (arith, within, as_many)) within marked in
      let kind = at_new stays kinds n no_kind (omega (arith, within, as_many)) (omega (arith, within, l.as_many)) marked in
      subst (λ (c : List ℕ). Satisfies v c) here.is (meets (new_number stays n) here.within (ap (λ (k : Kind). test k) kind.is ∙ is))

  -- and the other way round
  kept_meets : (test : Kind → Bool) (v : ℕ → Bool) → Meets test v kinds clauses → Meets test v (kept stays kinds) (kept stays clauses)
  kept_meets test v meets k within is =
      let f = from_old stays clauses k [] within in
      let kind = at_new stays kinds f.at no_kind (omega (arith, f.within, as_many)) (omega (arith, f.within, l.as_many)) f.marked in
      subst (λ (c : List ℕ). Satisfies v c) (sym f.is) (meets f.at f.within (ap (λ (x : Kind). test x) (sym kind.is ∙ ap (λ (n : ℕ). kind_at (kept stays kinds) n) f.number) ∙ is))

  kept_satisfied : (v : ℕ → Bool) → SatisfiesAll v clauses → SatisfiesAll v (kept stays clauses)
  kept_satisfied v sat k within =
      let f = from_old stays clauses k [] within in
      subst (λ (c : List ℕ). Satisfies v c) (sym f.is) (sat f.at f.within)

  has_kept : (test : Kind → Bool) (k : ℕ) → k < length (kept stays clauses) → test (kind_at (kept stays kinds) k) ≡ true → (n : ℕ) × (n < length clauses) × (clause_at clauses n ≡ clause_at (kept stays clauses) k) × (test (kind_at kinds n) ≡ true)
  has_kept test k within is =
      let f = from_old stays clauses k [] within in
      let kind = at_new stays kinds f.at no_kind (omega (arith, f.within, as_many)) (omega (arith, f.within, l.as_many)) f.marked in
      (f.at, f.within, sym f.is, ap (λ (x : Kind). test x) (sym kind.is ∙ ap (λ (n : ℕ). kind_at (kept stays kinds) n) f.number) ∙ is)

  pub AreInRange-kept : (atoms : ℕ) → AreInRange atoms clauses → AreInRange atoms (kept stays clauses)
  AreInRange-kept atoms ranges n literal within has =
      let f = from_old stays clauses n [] within in
      ranges f.at literal f.within (rw f.is at has)

  module _ (only : (n : ℕ) → n < length clauses → mark_of stays n ≡ false → (kind_at kinds n).learned ≡ true) where
    stays_added : (n : ℕ) → n < length clauses → is_added (kind_at kinds n) ≡ true → mark_of stays n ≡ true
    stays_added n within is =
        ⊎_elim
        (λ (h : mark_of stays n ≡ true). h)
        (λ (h : mark_of stays n ≡ false). absurd (false≢true (sym (ap (λ (b : Bool). not b) (only n within h)) ∙ is)))
        (cases_Bool (mark_of stays n))

    stays_firm_added : (n : ℕ) → n < length clauses → is_firm_added (kind_at kinds n) ≡ true → mark_of stays n ≡ true
    stays_firm_added n within is = stays_added n within (first_true (is_added (kind_at kinds n)) (is_firm (kind_at kinds n)) is)

    pub SameMeaning-kept : SameMeaning clauses (kept stays clauses)
    SameMeaning-kept = record {
      forth = kept_satisfied;
      back = λ v sat. l.follow v (meets_kept is_added stays_added v (λ n within is. sat n within));
      atoms = λ atom m.
          let f = from_old stays clauses m.number [] m.within in
          record { number = f.at; within = f.within; mentioned = subst (λ (c : List ℕ). MentionedIn c atom) f.is m.mentioned };
    }

    pub AreLearned-kept : AreLearned (kept stays kinds) (kept stays clauses)
    AreLearned-kept = record {
      as_many = length-kept stays kinds clauses l.as_many;
      follow = λ v meets. kept_satisfied v (l.follow v (meets_kept is_added stays_added v meets));
      firm = λ v meets. kept_meets is_firm v (l.firm v (meets_kept is_firm_added stays_firm_added v meets));
    }

    -- the firm clauses keep their meaning
    pub SameMeaning-firm_kept : SameMeaning (kept (map is_firm kinds) clauses) (kept (map is_firm (kept stays kinds)) (kept stays clauses))
    SameMeaning-firm_kept =
        let many = length-kept stays kinds clauses l.as_many in
        record {
          forth = λ v sat. firm_from_meets v (kept stays kinds) (kept stays clauses) many (kept_meets is_firm v (meets_from_firm v kinds clauses l.as_many sat));
          back = λ v sat.
              let all = meets_from_firm v (kept stays kinds) (kept stays clauses) many sat in
              firm_from_meets v kinds clauses l.as_many
              (l.firm v (meets_kept is_firm_added stays_firm_added v (λ n within is. all n within (second_true (is_added (kind_at (kept stays kinds) n)) (is_firm (kind_at (kept stays kinds) n)) is))));
          atoms = λ atom m.
              let f = from_old (map is_firm (kept stays kinds)) (kept stays clauses) m.number [] m.within in
              let h = has_kept is_firm f.at f.within (sym (firm_mark (kept stays kinds) f.at (omega (arith, f.within, many))) ∙ f.marked) in
              let old = firm_at kinds clauses l.as_many h.0 h.1 h.3 in
              record { number = old.0; within = old.1; mentioned = rw (old.2 ∙ h.2 ∙ sym f.is) m.mentioned };
        }

-- ---- the loose clauses are removed

pub AreInRange-firm : (atoms : ℕ) (kinds : List Kind) (clauses : List (List ℕ)) → length kinds ≡ length clauses → AreLearned kinds clauses → AreInRange atoms clauses → AreInRange atoms (kept (map is_firm kinds) clauses)
AreInRange-firm atoms kinds clauses as_many l ranges =
    AreInRange-kept kinds clauses (map is_firm kinds) (length-map kinds is_firm ∙ as_many) l atoms ranges

pub AreLearned-firm : (kinds : List Kind) (clauses : List (List ℕ)) → AreLearned kinds clauses → AreLearned (kept (map is_firm kinds) kinds) (kept (map is_firm kinds) clauses)
AreLearned-firm kinds clauses l =
    let marks = map is_firm kinds in
    let many : length marks ≡ length clauses = length-map kinds is_firm ∙ l.as_many in
    let stay : (n : ℕ) → n < length clauses → is_firm_added (kind_at kinds n) ≡ true → mark_of marks n ≡ true = λ n within is.
    firm_mark kinds n (omega (arith, within, l.as_many)) ∙ second_true (is_added (kind_at kinds n)) (is_firm (kind_at kinds n)) is in
    record {
      as_many = length-kept marks kinds clauses l.as_many;
      follow = λ v meets.
          firm_from_meets v kinds clauses l.as_many
          (l.firm v (meets_kept kinds clauses marks many l is_firm_added stay v (λ n within is. meets n within (first_true (is_added (kind_at (kept marks kinds) n)) (is_firm (kind_at (kept marks kinds) n)) is))));
      firm = λ v meets. kept_meets kinds clauses marks many l is_firm v (l.firm v (meets_kept kinds clauses marks many l is_firm_added stay v meets));
    }

-- and nothing of them is left
pub firm_is_firm : (kinds : List Kind) (clauses : List (List ℕ)) → kept (map is_firm (kept (map is_firm kinds) kinds)) (kept (map is_firm kinds) clauses) ≡ kept (map is_firm kinds) clauses
firm_is_firm kinds clauses =
    ap (λ (marks : List Bool). kept marks (kept (map is_firm kinds) clauses)) (map-kept is_firm (map is_firm kinds) kinds) ∙ kept_twice (map is_firm kinds) clauses
