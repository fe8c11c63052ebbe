-- Interpretations: an interpretation is the ascending list of the atoms that are true in it, by their numbers, and a
-- subset of a base, which is such a list too. All definitions are transparent, so that examples compute.
use Rattle.std.specs.Prelude.{ℕ, Bool, true, false, not, ◌&&◌, ◌==◌, List, [], ◌∷◌, ◌++◌, map}
use Rattle.std.specs.List.{list_any, filter}

-- whether an atom is true in an interpretation (of this project)
abbrev pub holds : List ℕ → ℕ → Bool
holds I a = list_any (λ b. b == a) I

-- the subsets of a base, where of two sets the one that lacks the first atom on which they differ comes first (of this
-- project)
abbrev pub subsets : List ℕ → List (List ℕ)
subsets [] = [] ∷ []
subsets (a ∷ B) = subsets B ++ map (λ J. a ∷ J) (subsets B)

-- whether two interpretations are the same
abbrev pub same : List ℕ → List ℕ → Bool
same [] [] = true
same (a ∷ I) (b ∷ J) = (a == b) && same I J
same [] (b ∷ J) = false
same (a ∷ I) [] = false

-- the subsets of an interpretation but for itself
abbrev pub proper_subsets : List ℕ → List (List ℕ)
proper_subsets I = filter (λ J. not (same J I)) (subsets I)
