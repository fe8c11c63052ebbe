-- The atoms of a set, one place after another. All definitions are transparent.
use Rattle.std.specs.Prelude.{ℕ, Bool, true, false, if◌then◌else◌, List, [], ◌++◌, get_or, codes, Option, None, Some}
use Rattle.std.specs.List.{filter_map, slice_get}
use Rattle.asp_bits.specs.Places.{true_places}
use Rattle.asp_defs.specs.declared.ground.GroundAtom.{GroundAtom}
use Rattle.asp_defs.specs.Sets.{ground_atom_text}

-- the atoms at the true places, in their order; a place that no atom has gives none
abbrev pub members : List GroundAtom → List Bool → List GroundAtom
members atoms values = filter_map (slice_get atoms) (true_places values)

-- the atom at a place, where the place is a true one
abbrev pub member_at : List GroundAtom → List Bool → ℕ → Option GroundAtom
member_at atoms values place = if get_or values place false then slice_get atoms place else None

-- what stands before an atom that another one leads, and before the first
abbrev pub lead_text : Bool → List ℕ
lead_text true = codes ", "
lead_text false = []

-- an atom behind that, and nothing where there is none
abbrev pub member_text : Bool → Option GroundAtom → List ℕ
member_text is_led None = []
member_text is_led (Some a) = lead_text is_led ++ ground_atom_text a

-- whether the next atom is led
abbrev pub leads_next : Bool → Option GroundAtom → Bool
leads_next is_led None = is_led
leads_next is_led (Some a) = true
