-- The text of a log, version 2, and which bytes are one (of this project). All definitions are transparent.
use Rattle.std.specs.Prelude.{ℕ, ◌+◌, ◌-◌, ◌≡◌, ◌⊎◌, Bool, true, false, ◌==◌, ◌&&◌, nat_le, IsTrue, List, [], ◌∷◌, ◌++◌, length, map, get_or, codes, decimal}
use Rattle.std.specs.List.{flat_map, list_all, join_by}
use Rattle.asp_defs.specs.declared.ground.Lit.{Lit}
use Rattle.asp_defs.specs.declared.ground.Bases.{Bases}
use Rattle.asp_defs.specs.Games.{is_subset}
use Rattle.asp_defs.specs.Entries.{Entry, cube_holds}
use Rattle.asp_defs.specs.Lines.{line}
use Rattle.asp_defs.specs.Sets.{ground_atom_text, set_text, atoms_of}

-- a verdict
abbrev pub verdict_text : Bool → List ℕ
verdict_text true = codes "T"
verdict_text false = codes "F"

-- a literal over numbered atoms: the atom, or `not` and the atom
abbrev pub lit_sign : Bool → List ℕ
lit_sign true = []
lit_sign false = codes "not "

abbrev pub lit_text : Bases → Lit → List ℕ
lit_text bases l = lit_sign l.positive ++ flat_map ground_atom_text (atoms_of bases (l.atom ∷ []))

-- a cube: its literals in brackets, with commas and blanks between them
abbrev pub cube_text : Bases → List Lit → List ℕ
cube_text bases cube = codes "[" ++ join_by (lit_text bases) (codes ", ") cube ++ codes "]"

-- an entry's line: its level, verdict, cube and seed with blanks between them
abbrev pub entry_line : Bases → Entry → List ℕ
entry_line bases e =
    line (decimal e.level ++ codes " " ++ verdict_text e.verdict ++ codes " " ++ cube_text bases e.cube
    ++ codes " " ++ set_text bases e.seed)

-- the first and the last line of a log
abbrev pub log_header : List ℕ
log_header = line (codes "ASPQ-LOG 2")

abbrev pub log_last : ℕ → List ℕ
log_last count = line (codes "LOG " ++ decimal count)

-- the log of a history
abbrev pub log_text : Bases → List Entry → List ℕ
log_text bases entries = log_header ++ flat_map (entry_line bases) entries ++ log_last (length entries)

-- how many levels bases are of, the constraint part counted
abbrev pub level_total : Bases → ℕ
level_total bases = length bases.members - 1

-- the base below a level
abbrev pub base_below : Bases → ℕ → List ℕ
base_below bases level = get_or bases.members (level - 1) []

-- whether an entry may stand in a log: its level is one of the bases, the atoms of its cube ascend in the base below the
-- level, and its seed is a subset of that base that the cube holds. Whether the history is legal isn't asked
abbrev pub may_stand : Bases → Entry → Bool
may_stand bases e =
    (nat_le 1 e.level && nat_le e.level (level_total bases))
    && (is_subset (map (λ (l : Lit). l.atom) e.cube) (base_below bases e.level)
    && (is_subset e.seed (base_below bases e.level) && cube_holds e.cube e.seed))

-- bytes are the log of entries that may stand in it
abbrev pub IsLogOf : Bases → List ℕ → List Entry → Type 0
IsLogOf bases bytes entries = IsTrue (list_all (may_stand bases) entries) × (bytes ≡ log_text bases entries)

-- the lines of bytes, each with its line feed; what stands behind the last one is a line too
abbrev pub onto_first_line : ℕ → List (List ℕ) → List (List ℕ)
onto_first_line b [] = (b ∷ []) ∷ []
onto_first_line b (first ∷ more) = (b ∷ first) ∷ more

abbrev pub byte_lines : List ℕ → List (List ℕ)
byte_lines [] = []
byte_lines (b ∷ bs) = elim (b == 10) [
  | true ↦ (b ∷ []) ∷ byte_lines bs
  | false ↦ onto_first_line b (byte_lines bs)
]

-- lines are the first line and those of entries, without a last line
abbrev pub IsOpenLog : Bases → List (List ℕ) → Type 0
IsOpenLog bases lines =
    (entries : List Entry) × IsTrue (list_all (may_stand bases) entries)
    × (lines ≡ log_header ∷ map (entry_line bases) entries)

-- lines are those of a whole log
abbrev pub IsClosedLog : Bases → List (List ℕ) → Type 0
IsClosedLog bases lines =
    (entries : List Entry) × IsTrue (list_all (may_stand bases) entries)
    × (lines ≡ log_header ∷ (map (entry_line bases) entries ++ log_last (length entries) ∷ []))

-- lines begin a log: there are none, or they are an open or a closed one
abbrev pub BeginsLog : Bases → List (List ℕ) → Type 0
BeginsLog bases lines = (lines ≡ []) ⊎ (IsOpenLog bases lines ⊎ IsClosedLog bases lines)

-- the line with a number from 1 is the first bad one: the lines before it begin a log, and with it they don't
abbrev pub IsBadLine : Bases → List ℕ → ℕ → Type 0
IsBadLine bases bytes number =
    (before : List (List ℕ)) × (bad : List ℕ) × (behind : List (List ℕ))
    × (byte_lines bytes ≡ before ++ bad ∷ behind) × (number ≡ length before + 1)
    × BeginsLog bases before × (BeginsLog bases (before ++ bad ∷ []) → ⊥)

-- no line is bad, and the last one is missing
abbrev pub IsUnendedLog : Bases → List ℕ → Type 0
IsUnendedLog bases bytes = (byte_lines bytes ≡ []) ⊎ IsOpenLog bases (byte_lines bytes)
