-- What further clauses say, kept through loops.
use Rattle.std.proofs.Common.{◌≡◌, ℕ, ◌+◌, ◌<◌, true, List, [], ◌∷◌, length, get_or, take, refl, sym, subst, inl, inr, ◌⊎◌}
use Rattle.std.proofs.lemmas.List.{take_more}
use Rattle.asp_defs.specs.declared.ground.Lit.{Lit}
use Rattle.asp_defs.specs.Lists.{IsIn}
use Rattle.asp_defs.specs.Interpretations.{holds}
use Rattle.asp_defs.proofs.Lists.{append_at, append_left, append_right}
use Rattle.asp_search.specs.Meaning.{AddsClause}
use Rattle.asp_completion.specs.Codes.{codes, is_met}
use Rattle.asp_completion.specs.Says.{SaysAlso}
use Rattle.asp_completion.proofs.Places.{satisfies_from, satisfies_to}

-- ---- clauses

pub says-none : (B : List ℕ) (P : List ℕ → Type 0) (clauses : List (List ℕ)) → ((N : List ℕ) → P N) → SaysAlso B P clauses clauses
says-none B P clauses all = record {
  back = λ v sat. sat;
  says = λ v N agrees sat. all N;
  forth = λ v N agrees sat p. sat;
}

pub says-then : (B : List ℕ) (P Q R : List ℕ → Type 0) (old mid new : List (List ℕ)) → ((N : List ℕ) → P N → Q N → R N)
    → ((N : List ℕ) → R N → P N × Q N) → SaysAlso B P old mid → SaysAlso B Q mid new → SaysAlso B R old new
says-then B P Q R old mid new join parts one two = record {
  back = λ v sat. one.back v (two.back v sat);
  says = λ v N agrees sat. join N (one.says v N agrees (two.back v sat)) (two.says v N agrees sat);
  forth = λ v N agrees sat r. two.forth v N agrees (one.forth v N agrees sat ((parts N r).0)) ((parts N r).1);
}

pub says-as : (B : List ℕ) (P Q : List ℕ → Type 0) (old new : List (List ℕ)) → ((N : List ℕ) → P N → Q N)
    → ((N : List ℕ) → Q N → P N) → SaysAlso B P old new → SaysAlso B Q old new
says-as B P Q old new there back_again one = record {
  back = one.back;
  says = λ v N agrees sat. there N (one.says v N agrees sat);
  forth = λ v N agrees sat q. one.forth v N agrees sat (back_again N q);
}

pub says-clause : (B : List ℕ) (lits : List Lit) (old new : List (List ℕ)) → ((l : Lit) → IsIn l lits → holds B l.atom ≡ true)
    → AddsClause old new (codes B lits) → SaysAlso B (λ N. is_met N lits ≡ true) old new
says-clause B lits old new inside adds = record {
  back = adds.back;
  says = λ v N agrees sat. satisfies_to B v N lits agrees inside (adds.satisfied v sat);
  forth = λ v N agrees sat met. adds.forth v sat (satisfies_from B v N lits agrees inside met);
}

-- ---- lists as far as a loop has come

-- a member of one item more
pub in_more : {A : Type 0} (xs : List A) (k : ℕ) (d x : A) → k < length xs → IsIn x (take (k + 1) xs)
    → IsIn x (take k xs) ⊎ (x ≡ get_or xs k d)
in_more {A} xs k d x h i = elim (append_at (take k xs) (get_or xs k d ∷ []) x (subst (λ (ys : List A). IsIn x ys) (take_more xs k d h) i)) [
  | inl before ↦ inl before
  | inr last ↦ elim last [
    | inl e ↦ inr e
    | inr none ↦ absurd none
  ]
]

pub in_before : {A : Type 0} (xs : List A) (k : ℕ) (d x : A) → k < length xs → IsIn x (take k xs) → IsIn x (take (k + 1) xs)
in_before {A} xs k d x h i =
    subst (λ (ys : List A). IsIn x ys) (sym (take_more xs k d h)) (append_left (take k xs) (get_or xs k d ∷ []) x i)

pub in_last : {A : Type 0} (xs : List A) (k : ℕ) (d : A) → k < length xs → IsIn (get_or xs k d) (take (k + 1) xs)
in_last {A} xs k d h =
    subst (λ (ys : List A). IsIn (get_or xs k d) ys) (sym (take_more xs k d h))
    (append_right (take k xs) (get_or xs k d ∷ []) (get_or xs k d) (inl refl))
