-- lemmas on the clauses on which a derivation rests, and on the firm ones
use Rattle.std.proofs.Common.{◌≡◌, ℕ, ◌<◌, Bool, true, false, cond, not, List, [], ◌∷◌, ◌++◌, length, map, refl, sym, ap, ◌∙◌, subst, inl, inr, arith}
use Rattle.std.proofs.lemmas.List.{get_or-map, length-map, map-append, append-nil, get_or_past}
use Rattle.std.proofs.lemmas.Bool.{cases_lt, false≢true}
use Rattle.asp_clauses.specs.declared.kind.Kind.{Kind}
use Rattle.asp_clauses.specs.declared.trail.Step.{Step}
use Rattle.asp_clauses.specs.Trail.{clause_at}
use Rattle.asp_clauses.specs.Book.{BookState, SameClauses}
use Rattle.asp_clauses.specs.Kept.{kept, kind_at, no_kind, mark_of, new_number, is_firm}
use Rattle.asp_clauses.proofs.KeptLemmas.{from_old, at_new, length-kept, kept-none}
use Rattle.asp_search.specs.Meaning.{Satisfies, SatisfiesAll, Mentions, SameMeaning}
use Rattle.asp_search.specs.Analysis.{IsWalk}
use Rattle.asp_search.specs.Learned.{Meets, Has, base_of, firm_of, Within, IsGrounded}
use Rattle.asp_search.proofs.Resolution.{based_true}
use Rattle.asp_search.proofs.Marking.{mentions_based}
use Rattle.asp_search.proofs.Clauses.{SameMeaning-reordered}

-- the mark of a kind
pub firm_mark : (kinds : List Kind) (number : ℕ) → number < length kinds → mark_of (map is_firm kinds) number ≡ is_firm (kind_at kinds number)
firm_mark kinds number within = get_or-map is_firm kinds number no_kind false within

-- what is marked is within the marks
pub marked_within : (marks : List Bool) (number : ℕ) → mark_of marks number ≡ true → number < length marks
marked_within marks number is = elim (cases_lt number (length marks)) [
  | inl low ↦ low
  | inr high ↦ absurd (false≢true (sym (get_or_past marks number false high) ∙ is))
]

-- a clause that counts is in the base
pub has_any : (book : BookState) (loose : Bool) (number : ℕ) → number < length book.clauses → length book.kinds ≡ length book.clauses → (loose ≡ false → (kind_at book.kinds number).loose ≡ false) → Has (base_of book loose) (clause_at book.clauses number)
has_any book true number within as_many firm = (number, within, refl)
has_any book false number within as_many firm =
    let marked : mark_of (map is_firm book.kinds) number ≡ true = firm_mark book.kinds number (omega (arith, within, as_many)) ∙ ap (λ (b : Bool). not b) (firm refl) in
    let m = at_new (map is_firm book.kinds) book.clauses number [] (omega (arith, within, as_many, length-map book.kinds is_firm)) within marked in
    (new_number (map is_firm book.kinds) number, m.within, m.is)

firm_within : (book : BookState) → Within (firm_of book) book.clauses
firm_within book clause has =
    let f = from_old (map is_firm book.kinds) book.clauses has.0 [] has.1 in
    (f.at, f.within, sym f.is ∙ has.2)

pub within_all : (book : BookState) (loose : Bool) → Within (base_of book loose) book.clauses
within_all book true = λ clause has. has
within_all book false = firm_within book

pub within_more : (book : BookState) (a b : Bool) → (a ≡ true → b ≡ true) → Within (base_of book a) (base_of book b)
within_more book true true grows = λ clause has. has
within_more book true false grows = absurd (false≢true (grows refl))
within_more book false true grows = firm_within book
within_more book false false grows = λ clause has. has

pub satisfied_within : (base more : List (List ℕ)) → Within base more → (v : ℕ → Bool) → SatisfiesAll v more → SatisfiesAll v base
satisfied_within base more inside v sat n within =
    based_true more v (clause_at base n) sat (inside (clause_at base n) (n, within, refl))

pub mentions_within : (base more : List (List ℕ)) → Within base more → (atom : ℕ) → Mentions base atom → Mentions more atom
mentions_within base more inside atom m =
    mentions_based more (clause_at base m.number) atom (inside (clause_at base m.number) (m.number, m.within, refl)) m.mentioned

pub IsWalk-within : (base more : List (List ℕ)) (steps : List Step) (marked : List ℕ) (level end pending : ℕ) → Within base more → IsWalk base steps marked level end pending → IsWalk more steps marked level end pending
IsWalk-within base more steps marked level end pending inside w = record {
  refutes = record { none = λ v sat seen kept. w.refutes.none v (satisfied_within base more inside v sat) seen kept };
  count = w.count;
  some = w.some;
  within = w.within;
  levels = w.levels;
  mentions = λ literal c. mentions_within base more inside _ (w.mentions literal c);
}

pub IsGrounded-within : (base more clauses : List (List ℕ)) (steps : List Step) → Within base more → IsGrounded base clauses steps → IsGrounded more clauses steps
IsGrounded-within base more clauses steps inside g place number within low reason = inside _ (g place number within low reason)

-- ---- the list of firm clauses

-- firm clauses are satisfied one by one
pub firm_from_meets : (v : ℕ → Bool) (kinds : List Kind) (clauses : List (List ℕ)) → length kinds ≡ length clauses → Meets is_firm v kinds clauses → SatisfiesAll v (kept (map is_firm kinds) clauses)
firm_from_meets v kinds clauses as_many meets k within =
    let f = from_old (map is_firm kinds) clauses k [] within in
    subst (λ (c : List ℕ). Satisfies v c) (sym f.is) (meets f.at f.within (sym (firm_mark kinds f.at (omega (arith, f.within, as_many))) ∙ f.marked))

pub meets_from_firm : (v : ℕ → Bool) (kinds : List Kind) (clauses : List (List ℕ)) → length kinds ≡ length clauses → SatisfiesAll v (kept (map is_firm kinds) clauses) → Meets is_firm v kinds clauses
meets_from_firm v kinds clauses as_many sat n within is =
    let m = at_new (map is_firm kinds) clauses n [] (omega (arith, within, as_many, length-map kinds is_firm)) within (firm_mark kinds n (omega (arith, within, as_many)) ∙ is) in
    subst (λ (c : List ℕ). Satisfies v c) m.is (sat (new_number (map is_firm kinds) n) m.within)

-- the order of literals changes nothing in it
SameClauses-kept : (marks : List Bool) (old new : List (List ℕ)) → length marks ≡ length old → SameClauses old new → SameClauses (kept marks old) (kept marks new)
SameClauses-kept marks old new as_many same = record {
  as_many = length-kept marks new old same.as_many;
  reordered = λ k within.
      let f = from_old marks old k [] within in
      let m = at_new marks new f.at [] (omega (arith, f.within, as_many)) (omega (arith, f.within, same.as_many)) f.marked in
      let here : clause_at (kept marks new) k ≡ clause_at new f.at = ap (λ (n : ℕ). clause_at (kept marks new) n) (sym f.number) ∙ m.is in
      rw (f.is, here) (same.reordered f.at f.within);
}

pub SameMeaning-firm_reordered : (kinds : List Kind) (old new : List (List ℕ)) → length kinds ≡ length old → SameClauses old new → SameMeaning (kept (map is_firm kinds) old) (kept (map is_firm kinds) new)
SameMeaning-firm_reordered kinds old new as_many same =
    SameMeaning-reordered _ _ (SameClauses-kept (map is_firm kinds) old new (omega (arith, as_many, length-map kinds is_firm)) same)

-- one clause more
kept_push : (marks : List Bool) (mark : Bool) (items : List (List ℕ)) (item : List ℕ) → length marks ≡ length items → kept (marks ++ mark ∷ []) (items ++ item ∷ []) ≡ kept marks items ++ cond mark (item ∷ []) []
unfolding kept
kept_push [] true [] item e = refl
kept_push [] false [] item e = refl
kept_push [] mark (x ∷ xs) item e = absurd (omega (arith, e))
kept_push (m ∷ ms) mark [] item e = absurd (omega (arith, e))
kept_push (true ∷ ms) mark (x ∷ xs) item e = ap (λ l. x ∷ l) (kept_push ms mark xs item (omega (arith, e)))
kept_push (false ∷ ms) mark (x ∷ xs) item e = kept_push ms mark xs item (omega (arith, e))

firm_push : (kinds : List Kind) (clauses : List (List ℕ)) (kind : Kind) (clause : List ℕ) → length kinds ≡ length clauses → kept (map is_firm (kinds ++ kind ∷ [])) (clauses ++ clause ∷ []) ≡ kept (map is_firm kinds) clauses ++ cond (is_firm kind) (clause ∷ []) []
firm_push kinds clauses kind clause as_many =
    ap (λ (marks : List Bool). kept marks (clauses ++ clause ∷ [])) (map-append is_firm kinds (kind ∷ []))
    ∙ kept_push (map is_firm kinds) (is_firm kind) clauses clause (omega (arith, as_many, length-map kinds is_firm))

pub firm_push_loose : (kinds : List Kind) (clauses : List (List ℕ)) (kind : Kind) (clause : List ℕ) → length kinds ≡ length clauses → kind.loose ≡ true → kept (map is_firm (kinds ++ kind ∷ [])) (clauses ++ clause ∷ []) ≡ kept (map is_firm kinds) clauses
firm_push_loose kinds clauses kind clause as_many loose =
    firm_push kinds clauses kind clause as_many
    ∙ (ap (λ (b : Bool). kept (map is_firm kinds) clauses ++ cond (not b) (clause ∷ []) []) loose ∙ append-nil (kept (map is_firm kinds) clauses))

pub firm_push_firm : (kinds : List Kind) (clauses : List (List ℕ)) (kind : Kind) (clause : List ℕ) → length kinds ≡ length clauses → kind.loose ≡ false → kept (map is_firm (kinds ++ kind ∷ [])) (clauses ++ clause ∷ []) ≡ kept (map is_firm kinds) clauses ++ clause ∷ []
firm_push_firm kinds clauses kind clause as_many firm =
    firm_push kinds clauses kind clause as_many ∙ ap (λ (b : Bool). kept (map is_firm kinds) clauses ++ cond (not b) (clause ∷ []) []) firm

-- what is kept is kept again
pub kept_twice : (marks : List Bool) (items : List (List ℕ)) → kept (kept marks marks) (kept marks items) ≡ kept marks items
unfolding kept
kept_twice [] items = refl
kept_twice (true ∷ ms) [] = refl
kept_twice (false ∷ ms) [] = kept-none (kept ms ms)
kept_twice (true ∷ ms) (x ∷ xs) = ap (λ l. x ∷ l) (kept_twice ms xs)
kept_twice (false ∷ ms) (x ∷ xs) = kept_twice ms xs
