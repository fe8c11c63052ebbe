-- The texts of sets of ground atoms, and what `solve`, `list` and `demo` print behind the checks (of this project). All
-- definitions are transparent.
use Rattle.std.specs.Prelude.{ℕ, Bool, true, false, List, [], ◌∷◌, ◌++◌, length, get_or, codes, Option, bytes_eq, if◌then◌else◌}
use Rattle.std.specs.List.{flat_map, filter_map, join_by, slice_get, find}
use Rattle.std.specs.Fmt.{signed_decimal}
use Rattle.asp_defs.specs.declared.faults.Unknown.{Unknown}
use Rattle.asp_defs.specs.declared.ground.Const.{Const}
use Rattle.asp_defs.specs.declared.ground.Const.TheVariants as const
use Rattle.asp_defs.specs.declared.ground.GroundAtom.{GroundAtom}
use Rattle.asp_defs.specs.declared.ground.Bases.{Bases}
use Rattle.asp_defs.specs.Interpretations.{subsets}
use Rattle.asp_defs.specs.Lines.{line, coherent_line, incoherent_line, unknown_line, more_line, end_line, nodes_line, bytes_line, atoms_line, first_line}
use Rattle.asp_defs.specs.Canonical.{applied_text}
use Rattle.asp_defs.specs.Pages.{Page}

-- a constant
abbrev pub const_text : Const → List ℕ
const_text (const.Int x) = signed_decimal x
const_text (const.Sym s) = s

-- a ground atom: its name, and its arguments in parentheses with commas between them, where there are any
abbrev pub ground_atom_text : GroundAtom → List ℕ
ground_atom_text a = applied_text const_text a.name a.args

-- the atoms of numbers, in their order; a number that no atom has gives none
abbrev pub atoms_of : Bases → List ℕ → List GroundAtom
atoms_of bases I = filter_map (slice_get bases.atoms) I

-- a set: its atoms in braces, with commas and blanks between them
abbrev pub set_text : Bases → List ℕ → List ℕ
set_text bases I = codes "{" ++ join_by ground_atom_text (codes ", ") (atoms_of bases I) ++ codes "}"

-- the subset of the first base whose text a word is, if there is one
abbrev pub set_of_text : Bases → List ℕ → Option (List ℕ)
set_of_text bases word = find (λ I. bytes_eq word (set_text bases I)) (subsets (get_or bases.members 1 []))

-- the lines of sets
abbrev pub set_lines : Bases → List (List ℕ) → List ℕ
set_lines bases sets = flat_map (λ I. line (set_text bases I)) sets

-- how a page ends: further sets follow, none does, or the run ended with an open answer
pub data PageEnd : Type 0 where
  MoreEnd : PageEnd
  LastEnd : PageEnd
  UnknownEnd : Unknown → PageEnd

abbrev pub page_end_line : PageEnd → List ℕ
page_end_line MoreEnd = more_line
page_end_line LastEnd = end_line
page_end_line (UnknownEnd u) = unknown_line u

-- the verdict line before the sets of a page: COHERENT where there are any, INCOHERENT where the whole list was found
-- empty, and else none
abbrev pub empty_verdict : Bool → PageEnd → List ℕ
empty_verdict true LastEnd = incoherent_line
empty_verdict true MoreEnd = []
empty_verdict true (UnknownEnd u) = []
empty_verdict false ends = []

abbrev pub page_verdict : Bool → List (List ℕ) → PageEnd → List ℕ
page_verdict from_start [] ends = empty_verdict from_start ends
page_verdict from_start (I ∷ sets) ends = coherent_line

-- what `list` prints of a page that begins at the start or after a set: the verdict, the sets, and how it ends
abbrev pub list_text : Bases → Bool → List (List ℕ) → PageEnd → List ℕ
list_text bases from_start sets ends = page_verdict from_start sets ends ++ set_lines bases sets ++ page_end_line ends

-- how a found page ends
abbrev pub end_of : Page → PageEnd
end_of page = if page.more then MoreEnd else LastEnd

-- what `list` prints of a found page
abbrev pub page_text : Bases → Bool → Page → List ℕ
page_text bases from_start page = list_text bases from_start page.sets (end_of page)

-- what `solve` prints of a verdict
abbrev pub verdict_line : Bool → List ℕ
verdict_line true = coherent_line
verdict_line false = incoherent_line

-- the head of what `demo` prints for so many nodes: the nodes, the bytes of the text and the atoms of the last base
abbrev pub demo_head : ℕ → List ℕ → Bases → List ℕ
demo_head n text bases = nodes_line n ++ bytes_line (length text) ++ atoms_line (length bases.atoms)

-- what `demo` prints behind the head: the verdict, the true atoms of the first set, and how its page ends; an open answer
-- stands in the place of all three
abbrev pub demo_end : List (List ℕ) → PageEnd → List ℕ
demo_end sets (UnknownEnd u) = unknown_line u
demo_end sets MoreEnd = page_verdict true sets MoreEnd ++ flat_map (λ I. first_line (length I)) sets ++ more_line
demo_end sets LastEnd = page_verdict true sets LastEnd ++ flat_map (λ I. first_line (length I)) sets ++ end_line
