-- Lists of which the marked items are kept.
use Rattle.std.proofs.Common.{◌≡◌, ℕ, zero, suc, ◌+◌, ◌<◌, ◌≤◌, Bool, true, false, cond, List, [], ◌∷◌, ◌++◌, length, get_or, take, map, refl, sym, ◌∙◌, ap, arith, inl, inr, subst, add-one, zero-add}
use Rattle.std.specs.List.{count_by}
use Rattle.std.proofs.lemmas.List.{take_all, take-take}
use Rattle.std.proofs.lemmas.List.Sums.{sum_by-append, sum_by-take-le}
use Rattle.std.proofs.lemmas.Bool.{cases_lt}
use Rattle.asp_clauses.specs.Kept.{kept, new_number, mark_of, itself}

count-cons : (mark : Bool) (marks : List Bool) → count_by itself (mark ∷ marks) ≡ cond {A = ℕ} mark 1 0 + count_by itself marks
count-cons mark marks = sum_by-append (λ (x : Bool). cond (itself x) 1 0) (mark ∷ []) marks ∙ ap (λ (n : ℕ). n + count_by itself marks) (zero-add (cond {A = ℕ} mark 1 0))

count-true : (marks : List Bool) → count_by itself (true ∷ marks) ≡ suc (count_by itself marks)
count-true marks = count-cons true marks ∙ omega arith

count-false : (marks : List Bool) → count_by itself (false ∷ marks) ≡ count_by itself marks
count-false marks = count-cons false marks ∙ omega arith

-- one more item
kept_suc : {A : Type 0} (marks : List Bool) (items : List A) (k : ℕ) (d : A) → k < length marks → k < length items → kept (take (suc k) marks) (take (suc k) items) ≡ kept (take k marks) (take k items) ++ cond (get_or marks k false) (get_or items k d ∷ []) []
unfolding kept
kept_suc [] items k d h g = absurd (omega arith)
kept_suc (mark ∷ marks) [] k d h g = absurd (omega arith)
kept_suc (mark ∷ marks) (item ∷ items) zero d h g = refl
kept_suc (true ∷ marks) (item ∷ items) (suc k) d h g = ap (λ l. item ∷ l) (kept_suc marks items k d (omega arith) (omega arith))
kept_suc (false ∷ marks) (item ∷ items) (suc k) d h g = kept_suc marks items k d (omega arith) (omega arith)

pub kept_yes : {A : Type 0} (marks : List Bool) (items : List A) (k : ℕ) (d : A) → k < length marks → k < length items → mark_of marks k ≡ true → kept (take (k + 1) marks) (take (k + 1) items) ≡ kept (take k marks) (take k items) ++ get_or items k d ∷ []
kept_yes marks items k d h g e =
    ap (λ (n : ℕ). kept (take n marks) (take n items)) (add-one k) ∙ kept_suc marks items k d h g ∙ ap (λ (b : Bool). kept (take k marks) (take k items) ++ cond b (get_or items k d ∷ []) []) e

append_nil : {A : Type 0} (xs : List A) → xs ++ [] ≡ xs
append_nil [] = refl
append_nil (x ∷ xs) = ap (λ l. x ∷ l) (append_nil xs)

pub kept_no : {A : Type 0} (marks : List Bool) (items : List A) (k : ℕ) (d : A) → k < length marks → k < length items → mark_of marks k ≡ false → kept (take (k + 1) marks) (take (k + 1) items) ≡ kept (take k marks) (take k items)
kept_no marks items k d h g e =
    ap (λ (n : ℕ). kept (take n marks) (take n items)) (add-one k) ∙ kept_suc marks items k d h g ∙ ap (λ (b : Bool). kept (take k marks) (take k items) ++ cond b (get_or items k d ∷ []) []) e ∙ append_nil (kept (take k marks) (take k items))

pub kept_all : {A : Type 0} (marks : List Bool) (items : List A) (n : ℕ) → length marks ≤ n → length items ≤ n → kept (take n marks) (take n items) ≡ kept marks items
kept_all marks items n h g = ap (λ m. kept m (take n items)) (take_all n marks h) ∙ ap (kept marks) (take_all n items g)

pub map-kept : {A B : Type 0} (f : A → B) (marks : List Bool) (items : List A) → map f (kept marks items) ≡ kept marks (map f items)
unfolding kept
map-kept f [] items = refl
map-kept f (mark ∷ marks) [] = refl
map-kept f (true ∷ marks) (item ∷ items) = ap (λ l. f item ∷ l) (map-kept f marks items)
map-kept f (false ∷ marks) (item ∷ items) = map-kept f marks items

-- an item that is kept, by its new number
pub record IsAtNew {A : Type 0} (marks : List Bool) (items : List A) (c : ℕ) (d : A) : Type 0 where
  pub within : new_number marks c < length (kept marks items)
  pub is : get_or (kept marks items) (new_number marks c) d ≡ get_or items c d

at_new_cons : {A : Type 0} (marks : List Bool) (items : List A) (item : A) (c n : ℕ) (d : A) → n ≡ suc (new_number marks c) → IsAtNew marks items c d → (n < length (item ∷ kept marks items)) × (get_or (item ∷ kept marks items) n d ≡ get_or items c d)
at_new_cons marks items item c n d e i = (let w = i.within in omega (arith, w, e), ap (λ (k : ℕ). get_or (item ∷ kept marks items) k d) e ∙ i.is)

pub at_new : {A : Type 0} (marks : List Bool) (items : List A) (c : ℕ) (d : A) → c < length marks → c < length items → mark_of marks c ≡ true → IsAtNew marks items c d
unfolding kept
at_new [] items c d h g e = absurd (omega arith)
at_new (mark ∷ marks) [] c d h g e = absurd (omega arith)
at_new (true ∷ marks) (item ∷ items) zero d h g e = record { within = omega arith; is = refl }
at_new (false ∷ marks) (item ∷ items) zero d h g e = cc
at_new (true ∷ marks) (item ∷ items) (suc c) d h g e = let p = at_new_cons marks items item c (new_number (true ∷ marks) (suc c)) d (count-true (take c marks)) (at_new marks items c d (omega arith) (omega arith) e) in record { within = p.0; is = p.1 }
at_new (false ∷ marks) (item ∷ items) (suc c) d h g e =
    let i = at_new marks items c d (omega arith) (omega arith) e in
    let n : new_number (false ∷ marks) (suc c) ≡ new_number marks c = count-false (take c marks) in
    record { within = let w = i.within in omega (arith, w, n); is = ap (λ (k : ℕ). get_or (kept marks items) k d) n ∙ i.is }

-- where an item of the kept ones stood
pub record IsFrom {A : Type 0} (marks : List Bool) (items : List A) (k : ℕ) (d : A) : Type 0 where
  pub at : ℕ
  pub within : at < length items
  pub marked : mark_of marks at ≡ true
  pub is : get_or (kept marks items) k d ≡ get_or items at d
  pub number : new_number marks at ≡ k

pub from_old : {A : Type 0} (marks : List Bool) (items : List A) (k : ℕ) (d : A) → k < length (kept marks items) → IsFrom marks items k d
unfolding kept
from_old [] items k d h = absurd (omega arith)
from_old (mark ∷ marks) [] k d h = absurd (omega arith)
from_old (true ∷ marks) (item ∷ items) zero d h = record { at = 0; within = omega arith; marked = refl; is = refl; number = refl }
from_old (true ∷ marks) (item ∷ items) (suc k) d h =
    let f = from_old marks items k d (omega arith) in
    record { at = suc f.at; within = let w = f.within in omega (arith, w); marked = f.marked; is = f.is; number = count-true (take f.at marks) ∙ ap suc f.number }
from_old (false ∷ marks) (item ∷ items) k d h =
    let f = from_old marks items k d h in
    record { at = suc f.at; within = let w = f.within in omega (arith, w); marked = f.marked; is = f.is; number = count-false (take f.at marks) ∙ f.number }

pub new_number-mono : (marks : List Bool) (m n : ℕ) → m ≤ n → new_number marks m ≤ new_number marks n
new_number-mono marks m n h =
    let d = sum_by-take-le (λ (x : Bool). cond (itself x) 1 0) (take n marks) m in subst (λ (x : List Bool). count_by itself x ≤ new_number marks n) (take-take m n marks h) d

-- what stands before a number came from before it
pub from_before : {A : Type 0} (marks : List Bool) (items : List A) (k n : ℕ) (d : A) → (f : IsFrom marks items k d) → k < new_number marks n → f.at < n
from_before marks items k n d f h = elim (cases_lt f.at n) [
  | inl lt ↦ lt
  | inr ge ↦ let m = new_number-mono marks n f.at ge in let e = f.number in absurd (omega (arith, m, e))
]

pub length-kept : {A B : Type 0} (marks : List Bool) (xs : List A) (ys : List B) → length xs ≡ length ys → length (kept marks xs) ≡ length (kept marks ys)
unfolding kept
length-kept [] xs ys e = refl
length-kept (mark ∷ marks) [] [] e = refl
length-kept (mark ∷ marks) [] (y ∷ ys) e = absurd (omega (arith, e))
length-kept (mark ∷ marks) (x ∷ xs) [] e = absurd (omega (arith, e))
length-kept (true ∷ marks) (x ∷ xs) (y ∷ ys) e = ap suc (length-kept marks xs ys (omega (arith, e)))
length-kept (false ∷ marks) (x ∷ xs) (y ∷ ys) e = length-kept marks xs ys (omega (arith, e))

pub kept-none : {A : Type 0} (marks : List Bool) → kept marks (let none : List A = [] in none) ≡ []
unfolding kept
kept-none [] = refl
kept-none (mark ∷ marks) = refl

pub length-kept-le : {A : Type 0} (marks : List Bool) (items : List A) → length (kept marks items) ≤ length items
unfolding kept
length-kept-le [] items = omega arith
length-kept-le (mark ∷ marks) [] = omega arith
length-kept-le (true ∷ marks) (item ∷ items) = let l = length-kept-le marks items in omega (arith, l)
length-kept-le (false ∷ marks) (item ∷ items) = let l = length-kept-le marks items in omega (arith, l)

-- as many are kept as are numbered
pub length-kept-is : {A : Type 0} (marks : List Bool) (items : List A) → length marks ≡ length items → length (kept marks items) ≡ new_number marks (length items)
unfolding kept
length-kept-is [] [] e = refl
length-kept-is [] (item ∷ items) e = absurd (omega (arith, e))
length-kept-is (mark ∷ marks) [] e = absurd (omega (arith, e))
length-kept-is (true ∷ marks) (item ∷ items) e = ap suc (length-kept-is marks items (omega (arith, e))) ∙ sym (count-true (take (length items) marks))
length-kept-is (false ∷ marks) (item ∷ items) e = length-kept-is marks items (omega (arith, e)) ∙ sym (count-false (take (length items) marks))

-- each number is less than what is numbered
pub new_number-le : (marks : List Bool) (n : ℕ) → new_number marks n ≤ n
new_number-le marks zero = omega arith
new_number-le [] (suc n) = omega arith
new_number-le (true ∷ marks) (suc n) = let l = new_number-le marks n in let c = count-true (take n marks) in omega (arith, l, c)
new_number-le (false ∷ marks) (suc n) = let l = new_number-le marks n in let c = count-false (take n marks) in omega (arith, l, c)

pub new_number-le-kept : {A : Type 0} (marks : List Bool) (items : List A) (n : ℕ) → length marks ≡ length items → n ≤ length items → new_number marks n ≤ length (kept marks items)
new_number-le-kept marks items n e h = let m = new_number-mono marks n (length items) h in let l = length-kept-is marks items e in omega (arith, m, l)

pub kept-nothing : {A : Type 0} (marks : List Bool) (items : List A) → kept (take 0 marks) (take 0 items) ≡ []
unfolding kept
kept-nothing marks items = refl
