-- A set that is taken off the end of a text, the last atoms first. All definitions are transparent.
use Rattle.std.specs.Prelude.{ℕ, ◌≡◌, ◌⊎◌, List, [], ◌∷◌, ◌++◌, codes, get_or, Option, bytes_eq}
use Rattle.std.specs.List.{find, join_by, slice_get}
use Rattle.std.specs.Option.{option_map_or}
use Rattle.asp_defs.specs.declared.ground.Bases.{Bases}
use Rattle.asp_defs.specs.declared.ground.GroundAtom.{GroundAtom}
use Rattle.asp_defs.specs.Interpretations.{subsets}
use Rattle.asp_defs.specs.Sets.{ground_atom_text, atoms_of}

-- the text of the atom of a number, behind a comma and a blank
abbrev pub member_text : List GroundAtom → ℕ → List ℕ
member_text atoms k = option_map_or (λ a. codes ", " ++ ground_atom_text a) (slice_get atoms k) []

-- the numbers of a base, from the last one on, are taken off the end of a text: each that stands there, where the later ones
-- are taken; a text is left, and some were taken
abbrev pub Takes : (ℕ → List ℕ) → List ℕ → List ℕ → List ℕ → List ℕ → Type 0
Takes shown text [] left taken = (left ≡ text) × (taken ≡ [])
Takes shown text (k ∷ base) left taken =
    (mid : List ℕ) × (later : List ℕ) × Takes shown text base mid later
    × (((left ++ shown k ≡ mid) × (taken ≡ k ∷ later))
    ⊎ (((before : List ℕ) → before ++ shown k ≡ mid → ⊥) × (left ≡ mid) × (taken ≡ later)))

-- the text of a set without its braces
abbrev pub inner_text : Bases → List ℕ → List ℕ
inner_text bases I = join_by ground_atom_text (codes ", ") (atoms_of bases I)

-- the subset of the first base of which that text is a given one, if there is one
abbrev pub inner_set : Bases → List ℕ → Option (List ℕ)
inner_set bases text = find (λ I. bytes_eq text (inner_text bases I)) (subsets (get_or bases.members 1 []))
