-- Strictly ascending lists, and where a value stands in one.
use Rattle.std.specs.Prelude.{ℕ, ◌≡◌, List, [], ◌∷◌}
use Rattle.std.specs.List.{position_or_len}
use Rattle.std.specs.Ordering.{is_eq}
use Rattle.std.specs.declared.cmp.Ordering.{Ordering}
use Rattle.std.specs.declared.cmp.Ordering.TheVariants.{Less}

-- each member of a list is above a value
abbrev pub AllAbove : {A : Type 0} → (A → A → Ordering) → A → List A → Type 0
AllAbove R x [] = Unit {0}
AllAbove R x (y ∷ ys) = (R x y ≡ Less) × AllAbove R x ys

-- each member of a list is below those behind it
abbrev pub Ascends : {A : Type 0} → (A → A → Ordering) → List A → Type 0
Ascends R [] = Unit {0}
Ascends R (x ∷ xs) = AllAbove R x xs × Ascends R xs

-- the place of a value in a list by an order, from 0; the list's length where it doesn't stand there
abbrev pub place_in : {A : Type 0} → (A → A → Ordering) → List A → A → ℕ
place_in R xs a = position_or_len (λ b. is_eq (R a b)) xs
