-- Places of interpretations that are written, and their numbers in a search. All definitions are transparent.
use Rattle.std.specs.Prelude.{ℕ, suc, ◌≡◌, ◌<◌, Bool, true, false, not, List, [], ◌∷◌, map, Option, Some, None, slice_index_or, slice_set}
use Rattle.std.specs.List.{fold}
use Rattle.asp_bits.specs.Places.{true_places}

-- truth values of which those at some places got a value; a place past the end is none
abbrev pub written : Bool → List Bool → List ℕ → List Bool
written value values places = fold (λ so_far place. slice_set so_far place value) values places

-- whether a truth value is a given one
abbrev pub has_value : Bool → Bool → Bool
has_value true b = b
has_value false b = not b

-- the numbers of the true places, counted from a first number on, and none for a false place
abbrev pub numbers_from : ℕ → List Bool → List (Option ℕ)
numbers_from n [] = []
numbers_from n (true ∷ values) = Some n ∷ numbers_from (suc n) values
numbers_from n (false ∷ values) = None ∷ numbers_from n values

-- the number of an atom
abbrev pub number_at : List (Option ℕ) → ℕ → Option ℕ
number_at numbers a = slice_index_or numbers a None

-- each number is below a count
abbrev pub AreNumbers : ℕ → List (Option ℕ) → Type 0
AreNumbers count numbers = (a n : ℕ) → number_at numbers a ≡ Some n → n < count

-- whether the atom of a number leaves in an assignment to the numbers, where truth says that it stays, and whether it stays;
-- an atom without a number does neither
abbrev pub leaves : (ℕ → Bool) → Option ℕ → Bool
leaves v None = false
leaves v (Some n) = not (v n)

abbrev pub remains : (ℕ → Bool) → Option ℕ → Bool
remains v None = false
remains v (Some n) = v n

-- the atoms that leave, ascending
abbrev pub leaving_places : (ℕ → Bool) → List (Option ℕ) → List ℕ
leaving_places v numbers = true_places (map (leaves v) numbers)
