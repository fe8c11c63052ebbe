-- What lists of sets make when they are read in a row. All definitions are transparent.
use Rattle.std.specs.Prelude.{◌≡◌, ℕ, Bool, List, [], ◌∷◌, ◌++◌, length, take, nat_lt}
use Rattle.asp_pages.specs.declared.page.Page.{Page}

-- the sets of lists in a row
abbrev pub in_a_row : {A : Type 0} → List (List A) → List A
in_a_row [] = []
in_a_row (part ∷ parts) = part ++ in_a_row parts

-- a page has the first of some sets, as many as asked for, and says whether there are more
pub record IsPageOf (sets : List (List Bool)) (count : ℕ) (page : Page) : Type 0 where
  pub first : page.sets ≡ take count sets
  pub more : page.more ≡ nat_lt count (length sets)
