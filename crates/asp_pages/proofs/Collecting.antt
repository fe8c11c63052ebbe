-- Pages of lists in a row.
use Rattle.std.proofs.Common.{ℕ, ◌≤◌, ◌≡◌, refl, sym, ◌∙◌, ap, false, List, [], ◌∷◌, ◌++◌, map, nat_lt, arith, append-nil}
use Rattle.std.proofs.lemmas.List.{append_assoc, take_all}
use Rattle.asp_pages.specs.declared.page.Page.{Page}
use Rattle.asp_pages.specs.Collected.{in_a_row, IsPageOf}

pub one_more_part : {A : Type 0} (parts : List (List A)) (part : List A) → in_a_row (parts ++ part ∷ []) ≡ in_a_row parts ++ part
one_more_part [] part = append-nil part
one_more_part (first ∷ parts) part =
    ap (λ xs. first ++ xs) (one_more_part parts part) ∙ sym (append_assoc first (in_a_row parts) part)

not_less : (m n : ℕ) → n ≤ m → nat_lt m n ≡ false
not_less m n h = grind arith

-- an empty page
pub no_sets : (count : ℕ) (page : Page) → page.sets ≡ [] → page.more ≡ false → IsPageOf [] count page
no_sets count page sets more = record {
  first = sets ∙ sym (take_all count [] (omega arith));
  more = more ∙ sym (not_less count 0 (omega arith));
}

pub map_same : {A : Type 0} (xs : List A) → map (λ x. x) xs ≡ xs
map_same [] = refl
map_same (x ∷ xs) = ap (λ ys. x ∷ ys) (map_same xs)
