-- How many interpretations satisfy the clauses of a search: fewer once a clause is added that one of them doesn't satisfy.
use Rattle.std.proofs.Common.{◌≡◌, ℕ, zero, suc, ◌<◌, ◌≤◌, ◌/◌, ◌%◌, Bool, true, false, not, cond, List, [], ◌∷◌, length, get_or, refl, sym, ap, ◌∙◌, subst, inl, inr, arith}
use Rattle.std.specs.Prelude.{◌==◌, if◌then◌else◌}
use Rattle.std.specs.List.{list_any, filter}
use Rattle.asp_defs.specs.declared.ground.Lit.{Lit}
use Rattle.asp_defs.specs.Lists.{IsIn}
use Rattle.asp_defs.specs.Interpretations.{holds, subsets}
use Rattle.asp_defs.specs.Games.{ascends}
use Rattle.asp_defs.specs.Entries.{lit_true}
use Rattle.asp_defs.proofs.Lists.{both, and_true, true_or_false, not_true, all_at, any_at, any_from}
use Rattle.asp_defs.proofs.Subsets.{true_is_not_false, holds_from}
use Rattle.asp_search.specs.Meaning.{truth, Satisfies, SatisfiesAll, Mentions, SameMeaning, AddsClause}
use Rattle.asp_minimal.specs.Nogoods.{is_false}
use Rattle.asp_completion.specs.Codes.{codes, is_met, Agrees}
use Rattle.asp_answers.specs.Candidates.{meets, candidates_left}
use Rattle.asp_completion.proofs.Places.{in_from_contains, contains_from_in, in_at, rank-get_or, satisfies_to, values_in, values-agree}

-- a stricter test keeps no more of a list, and fewer where it drops a member that the other keeps
no_more : {A : Type 0} (p q : A → Bool) (xs : List A) → ((y : A) → p y ≡ true → q y ≡ true)
    → length (filter p xs) ≤ length (filter q xs)
no_more p q [] h = omega arith
no_more {A} p q (y ∷ ys) h = go (p y) (q y) (h y) (no_more p q ys h)
  where
    go : (a b : Bool) → (a ≡ true → b ≡ true) → length (filter p ys) ≤ length (filter q ys)
        → length (cond a (y ∷ filter p ys) (filter p ys)) ≤ length (cond b (y ∷ filter q ys) (filter q ys))
    go true true k le = omega arith
    go true false k le = absurd (let e : false ≡ true = k refl in cc)
    go false true k le = omega arith
    go false false k le = le

fewer : {A : Type 0} (p q : A → Bool) (xs : List A) (x : A) → ((y : A) → p y ≡ true → q y ≡ true) → IsIn x xs
    → q x ≡ true → p x ≡ false → length (filter p xs) < length (filter q xs)
fewer p q [] x h i kept dropped = absurd i
fewer {A} p q (y ∷ ys) x h (inl e) kept dropped =
    go (p y) (q y) (subst (λ (z : A). p z ≡ false) e dropped) (subst (λ (z : A). q z ≡ true) e kept) (no_more p q ys h)
  where
    go : (a b : Bool) → a ≡ false → b ≡ true → length (filter p ys) ≤ length (filter q ys)
        → length (cond a (y ∷ filter p ys) (filter p ys)) < length (cond b (y ∷ filter q ys) (filter q ys))
    go true b d k le = absurd (cc)
    go false true d k le = omega arith
    go false false d k le = absurd (cc)
fewer {A} p q (y ∷ ys) x h (inr i) kept dropped = go (p y) (q y) (h y) (fewer p q ys x h i kept dropped)
  where
    go : (a b : Bool) → (a ≡ true → b ≡ true) → length (filter p ys) < length (filter q ys)
        → length (cond a (y ∷ filter p ys) (filter p ys)) < length (cond b (y ∷ filter q ys) (filter q ys))
    go true true k less = omega arith
    go true false k less = absurd (let e : false ≡ true = k refl in cc)
    go false true k less = omega arith
    go false false k less = less

satisfied_from : (v : ℕ → Bool) (clause : List ℕ) → list_any (truth v) clause ≡ true → Satisfies v clause
satisfied_from v clause h =
    let found = any_at (truth v) clause h in
    record { literal = found.0; has = contains_from_in clause found.0 found.1; holds = found.2 }

satisfied_to : (v : ℕ → Bool) (clause : List ℕ) → Satisfies v clause → list_any (truth v) clause ≡ true
satisfied_to v clause s = any_from (truth v) clause s.literal (in_from_contains clause s.literal s.has) s.holds

pub meets_from : (v : ℕ → Bool) (clauses : List (List ℕ)) → SatisfiesAll v clauses → meets v clauses ≡ true
meets_from v [] sat = refl
meets_from v (c ∷ clauses) sat =
    and_true (list_any (truth v) c) (meets v clauses) (satisfied_to v c (sat 0 (omega arith)))
    (meets_from v clauses (λ number h. sat (suc number) (omega arith)))

pub meets_to : (v : ℕ → Bool) (clauses : List (List ℕ)) → meets v clauses ≡ true → SatisfiesAll v clauses
meets_to v [] h number below = absurd (omega arith)
meets_to v (c ∷ clauses) h zero below = satisfied_from v c ((both (list_any (truth v) c) (meets v clauses) h).0)
meets_to v (c ∷ clauses) h (suc number) below =
    meets_to v clauses ((both (list_any (truth v) c) (meets v clauses) h).1) number (omega arith)

-- assignments that agree on all atoms that the clauses mention satisfy the same clauses
truth-alike : (v w : ℕ → Bool) (l : ℕ) → v (l / 2) ≡ w (l / 2) → truth v l ≡ truth w l
truth-alike v w l e = ap (λ t. if l % 2 == 1 then t else not t) e

satisfied-alike : (v w : ℕ → Bool) (clauses : List (List ℕ)) → ((k : ℕ) → Mentions clauses k → v k ≡ w k)
    → SatisfiesAll v clauses → SatisfiesAll w clauses
satisfied-alike v w clauses same sat number below =
    let s = sat number below in
    record {
      literal = s.literal;
      has = s.has;
      holds = sym (truth-alike v w s.literal
          (same (s.literal / 2) (record {
            number = number;
            within = below;
            mentioned = record { literal = s.literal; has = s.has; of_atom = refl };
          })))
          ∙ s.holds;
    }

pub none_met : (N : List ℕ) (lits : List Lit) → is_false N lits ≡ true → is_met N lits ≡ true → ⊥
none_met N lits none met =
    let found = any_at (lit_true N) lits met in
    true_is_not_false (lit_true N found.0) found.2 (not_true (lit_true N found.0) (all_at (λ l. not (lit_true N l)) lits found.0 none found.1))

-- a candidate satisfies the clauses and not the literals of the clause that is added to them
pub candidates-fall : (B : List ℕ) (old mid new : List (List ℕ)) (v : ℕ → Bool) (N : List ℕ) (lits : List Lit)
    → ascends B ≡ true → SameMeaning old mid → ((k : ℕ) → Mentions old k → k < length B) → AddsClause mid new (codes B lits)
    → Agrees B v N → IsIn N (subsets B) → SatisfiesAll v mid → ((l : Lit) → IsIn l lits → holds B l.atom ≡ true)
    → is_false N lits ≡ true → candidates_left B new < candidates_left B old
candidates-fall B old mid new v N lits up same range adds agrees inside sat atoms none =
    let w : ℕ → Bool = values_in B N in
    let alike : (k : ℕ) → Mentions old k → v k ≡ w k = λ k m.
    let within : k < length B = range k m in
    ap v (sym (rank-get_or B k up within)) ∙ sym (agrees.value (get_or B k 0) (holds_from B (get_or B k 0) (in_at B k within))) in
    let before : SatisfiesAll w old = satisfied-alike v w old alike (same.back v sat) in
    let p : List ℕ → Bool = λ J. meets (values_in B J) new in
    let q : List ℕ → Bool = λ J. meets (values_in B J) old in
    fewer p q (subsets B) N
    (λ J h. meets_from (values_in B J) old (same.back (values_in B J) (adds.back (values_in B J) (meets_to (values_in B J) new h))))
    inside
    (meets_from w old before)
    (elim (true_or_false (p N)) [
      | inl still ↦
          absurd (none_met N lits none
          (satisfies_to B w N lits (values-agree B N) atoms (adds.satisfied w (meets_to w new still))))
      | inr fails ↦ fails
    ])

-- a search that goes on leaves no more candidates
pub candidates-same : (B : List ℕ) (old new : List (List ℕ)) → SameMeaning old new → candidates_left B new ≤ candidates_left B old
candidates-same B old new same =
    no_more (λ J. meets (values_in B J) new) (λ J. meets (values_in B J) old) (subsets B)
    (λ J h. meets_from (values_in B J) old (same.back (values_in B J) (meets_to (values_in B J) new h)))
