-- Marks of which the first ones are true: what stands there stays where it is.
use Rattle.std.proofs.Common.{◌≡◌, ℕ, zero, suc, ◌+◌, ◌-◌, ◌<◌, ◌≤◌, Bool, true, false, List, [], ◌∷◌, ◌++◌, length, get_or, take, drop, replicate, sym, ◌∙◌, ap, arith, refl, length-append, length-drop, add-one}
use Rattle.std.proofs.lemmas.List.{take_more, get_or_append_left, get_or-append_right, get_or-replicate, length-replicate, get_or-drop}
use Rattle.std.proofs.lemmas.List.Sums.{count_by_more_yes}
use Rattle.asp_clauses.specs.Kept.{kept, new_number, mark_of, itself, from_on}
use Rattle.asp_clauses.proofs.KeptLemmas.{kept_yes, kept-nothing, at_new}

abbrev pub AllMarked : List Bool → ℕ → Type 0
AllMarked marks from = (k : ℕ) → k < from → mark_of marks k ≡ true

pub AllMarked-none : (marks : List Bool) → AllMarked marks 0
AllMarked-none marks k h = absurd (omega arith)

-- each of them keeps its number
pub count_front : (marks : List Bool) (from : ℕ) → AllMarked marks from → from ≤ length marks → new_number marks from ≡ from
count_front marks zero m h = refl
count_front marks (suc n) m h =
    let before = count_front marks n (λ k lt. m k (omega arith)) (omega arith) in
    ap (new_number marks) (sym (add-one n)) ∙ count_by_more_yes itself marks n false (omega arith) (m n (omega arith)) ∙ ap (λ (x : ℕ). x + 1) before ∙ add-one n

pub kept_front : {A : Type 0} (marks : List Bool) (items : List A) (d : A) (from : ℕ) → AllMarked marks from → from ≤ length marks → from ≤ length items → kept (take from marks) (take from items) ≡ take from items
kept_front marks items d zero m h g = kept-nothing marks items
kept_front {A = A} marks items d (suc n) m h g =
    let before = kept_front marks items d n (λ k lt. m k (omega arith)) (omega arith) (omega arith) in
    ap (λ (x : ℕ). kept (take x marks) (take x items)) (sym (add-one n)) ∙ kept_yes marks items n d (omega arith) (omega arith) (m n (omega arith)) ∙ ap (λ (x : List A). x ++ get_or items n d ∷ []) before
    ∙ sym (take_more items n d (omega arith)) ∙ ap (λ (x : ℕ). take x items) (add-one n)

pub kept_at_front : {A : Type 0} (marks : List Bool) (items : List A) (d : A) (from k : ℕ) → AllMarked marks from → from ≤ length marks → from ≤ length items → k < from → get_or (kept marks items) k d ≡ get_or items k d
kept_at_front marks items d from k m h g l =
    let number = count_front marks k (λ j jl. m j (omega arith)) (omega arith) in
    ap (λ (x : ℕ). get_or (kept marks items) x d) (sym number) ∙ (at_new marks items k d (omega arith) (omega arith) (m k l)).is

-- marks with all before a number true
pub length-from_on : (from : ℕ) (marks : List Bool) → from ≤ length marks → length (from_on from marks) ≡ length marks
length-from_on from marks h =
    let a = length-append (replicate from true) (drop from marks) in let b = length-replicate from true in let c = length-drop from marks in
    omega (arith, a, b, c)

pub marked_before : (from : ℕ) (marks : List Bool) → AllMarked (from_on from marks) from
marked_before from marks k h =
    let l = length-replicate from true in
    get_or_append_left (replicate from true) (drop from marks) false k (omega (arith, l, h)) ∙ get_or-replicate from k true false h

pub marked_after : (from : ℕ) (marks : List Bool) (k : ℕ) → from ≤ k → mark_of (from_on from marks) k ≡ mark_of marks k
marked_after from marks k h =
    let there : from + (k - from) ≡ k = omega arith in
    get_or-append_right (replicate from true) (drop from marks) from k false (length-replicate from true) h ∙ get_or-drop from marks (k - from) false ∙ ap (mark_of marks) there
