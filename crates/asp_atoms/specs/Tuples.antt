-- The numbers of the atoms of a predicate, by the ranks of their arguments.
use Rattle.std.specs.Prelude.{ℕ, zero, suc, ◌+◌, ◌*◌, ◌^◌, List, [], ◌∷◌, map}
use Rattle.std.specs.List.{flat_map, fold}

-- ranks read as the digits of a number in a base, the first the most significant
abbrev pub in_base : ℕ → List ℕ → ℕ
in_base base ranks = fold (λ n rank. n * base + rank) 0 ranks

-- each number of a list behind each multiple of a weight
abbrev pub shifted : ℕ → List ℕ → List ℕ → List ℕ
shifted weight numbers ranks = flat_map (λ rank. map (λ n. rank * weight + n) numbers) ranks

-- the numbers of all tuples of so many of these ranks, behind a first number, in the order of the tuples
abbrev pub numbers_of : ℕ → ℕ → List ℕ → ℕ → List ℕ
numbers_of first base ranks zero = first ∷ []
numbers_of first base ranks (suc arity) = shifted (base ^ arity) (numbers_of first base ranks arity) ranks
