-- A list in which the items of the kept clauses move to the front, in place.
use Rattle.std.proofs.Common.{◌≡◌, ℕ, ◌+◌, ◌<◌, ◌≤◌, Bool, true, false, List, [], ◌∷◌, ◌++◌, length, get_or, take, set, refl, sym, ◌∙◌, ap, arith, subst, length-set}
use Rattle.std.proofs.lemmas.List.{take_more_set, get_or-set_other}
use Rattle.asp_clauses.specs.Kept.{kept, mark_of}
use Rattle.asp_clauses.proofs.KeptLemmas.{kept_yes, kept_no}
use Rattle.asp_clauses.proofs.FrontLemmas.{AllMarked, kept_front}

-- the first `done` items are treated, and `count` of them are kept
pub record IsKeeping {A : Type 0} (no_item : A) (marks : List Bool) (items0 items : List A) (done count : ℕ) : Type 0 where
  pub as_many : length items ≡ length items0
  pub behind : count ≤ done
  pub so_far : take count items ≡ kept (take done marks) (take done items0)
  pub later : (j : ℕ) → done ≤ j → get_or items j no_item ≡ get_or items0 j no_item

pub IsKeeping-front : {A : Type 0} (no_item : A) (marks : List Bool) (items : List A) (from : ℕ) → AllMarked marks from → from ≤ length marks → from ≤ length items → IsKeeping no_item marks items items from from
IsKeeping-front no_item marks items from m h g = record { as_many = refl; behind = omega arith; so_far = sym (kept_front marks items no_item from m h g); later = λ j l. refl }

pub IsKeeping-no : {A : Type 0} (no_item : A) (marks : List Bool) (items0 items : List A) (done count : ℕ) → IsKeeping no_item marks items0 items done count → done < length marks → length marks ≡ length items0 → mark_of marks done ≡ false → IsKeeping no_item marks items0 items (done + 1) count
IsKeeping-no no_item marks items0 items done count i h same m = record {
  as_many = i.as_many;
  behind = let b = i.behind in omega (arith, b);
  so_far = i.so_far ∙ sym (kept_no marks items0 done no_item h (omega (arith, h, same)) m);
  later = λ j g. i.later j (omega arith);
}

pub IsKeeping-yes : {A : Type 0} (no_item : A) (marks : List Bool) (items0 items : List A) (done count : ℕ) (item : A) → IsKeeping no_item marks items0 items done count → done < length marks → length marks ≡ length items0 → mark_of marks done ≡ true → item ≡ get_or items done no_item → IsKeeping no_item marks items0 (set items count item) (done + 1) (count + 1)
IsKeeping-yes {A = A} no_item marks items0 items done count item i h same m e =
    let b = i.behind in let many = i.as_many in
    record {
      as_many = length-set items count item ∙ i.as_many;
      behind = omega (arith, b);
      so_far = take_more_set items count item (omega (arith, b, many, h, same)) ∙ ap (λ (x : List A). x ++ item ∷ []) i.so_far ∙ ap (λ (k : A). kept (take done marks) (take done items0) ++ k ∷ []) (e ∙ i.later done (omega arith))
          ∙ sym (kept_yes marks items0 done no_item h (omega (arith, h, same)) m);
      later = λ j g. get_or-set_other items count j item no_item (omega (arith, b, g)) ∙ i.later j (omega arith);
    }

-- the same, as a body writes it
pub kept_item : {A : Type 0} (no_item : A) (marks : List Bool) (items0 items items1 : List A) (done count count1 : ℕ) (item : A) → IsKeeping no_item marks items0 items done count → done < length marks → length marks ≡ length items0 → mark_of marks done ≡ true → item ≡ get_or items done no_item →
    items1 ≡ set items count item → count1 ≡ count + 1 → IsKeeping no_item marks items0 items1 (done + 1) count1
kept_item {A = A} no_item marks items0 items items1 done count count1 item i h same m e ek ec =
    subst (λ (n : ℕ). IsKeeping no_item marks items0 items1 (done + 1) n) (sym ec)
    (subst (λ (x : List A). IsKeeping no_item marks items0 x (done + 1) (count + 1)) (sym ek) (IsKeeping-yes no_item marks items0 items done count item i h same m e))

pub dropped_item : {A : Type 0} (no_item : A) (marks : List Bool) (items0 items items1 : List A) (done count count1 : ℕ) → IsKeeping no_item marks items0 items done count → done < length marks → length marks ≡ length items0 → mark_of marks done ≡ false →
    items1 ≡ items → count1 ≡ count → IsKeeping no_item marks items0 items1 (done + 1) count1
dropped_item {A = A} no_item marks items0 items items1 done count count1 i h same m ek ec =
    subst (λ (n : ℕ). IsKeeping no_item marks items0 items1 (done + 1) n) (sym ec)
    (subst (λ (x : List A). IsKeeping no_item marks items0 x (done + 1) count) (sym ek) (IsKeeping-no no_item marks items0 items done count i h same m))
