-- Regions: lists of literals that part the subsets of a base, or those that come after a set. All definitions are transparent.
use Rattle.std.specs.Prelude.{ℕ, zero, suc, ◌^◌, min, Bool, true, false, not, nat_lt, List, [], ◌∷◌, ◌++◌, length, map, Option, None, Some}
use Rattle.std.specs.List.{list_all, filter}
use Rattle.asp_defs.specs.declared.ground.Lit.{Lit}
use Rattle.asp_defs.specs.Interpretations.{holds}

-- the greatest base, and into how many regions it is cut at most: by so many of its first atoms
abbrev pub most_atoms : ℕ
most_atoms = 262144

abbrev pub most_split : ℕ
most_split = 9

-- whether each atom is below a count
abbrev pub are_below : ℕ → List ℕ → Bool
are_below count atoms = list_all (λ a. nat_lt a count) atoms

-- the literal by which an atom has a truth value
abbrev pub literal : Bool → ℕ → Lit
literal value a = record { atom = a; positive = value }

-- regions with one literal more at their front
abbrev pub fronted : Bool → ℕ → List (List Lit) → List (List Lit)
fronted value a regions = map (λ region. literal value a ∷ region) regions

-- the sign patterns of the first atoms of a base, as many as asked for or all, falsity first
abbrev pub patterns : ℕ → List ℕ → List (List Lit)
patterns zero base = [] ∷ []
patterns (suc count) [] = [] ∷ []
patterns (suc count) (a ∷ base) = fronted false a (patterns count base) ++ fronted true a (patterns count base)

-- an atom before the regions after a set: as it is in the set; where it is false there, it is true in one more region, the last
abbrev pub with_atom : Bool → ℕ → List (List Lit) → List (List Lit)
with_atom true a regions = fronted true a regions
with_atom false a regions = fronted false a regions ++ (literal true a ∷ []) ∷ []

-- the regions after a set: one for each atom of the base that is false in it, the last such atom first
abbrev pub regions_behind : List ℕ → List ℕ → List (List Lit)
regions_behind I [] = []
regions_behind I (a ∷ base) = with_atom (holds I a) a (regions_behind I base)

-- the regions of the sets after a set, or of all sets
abbrev pub regions_of : List ℕ → Option (List ℕ) → ℕ → List (List Lit)
regions_of base None split = patterns split base
regions_of base (Some I) split = regions_behind I base

-- how many there are
abbrev pub count_of : List ℕ → Option (List ℕ) → ℕ → ℕ
count_of base None split = 2 ^ min split (length base)
count_of base (Some I) split = length (filter (λ a. not (holds I a)) base)
