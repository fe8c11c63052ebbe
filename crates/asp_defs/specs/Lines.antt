-- The lines that a run prints, each with its line feed (of this project). All definitions are transparent.
use Rattle.std.specs.Prelude.{ℕ, List, [], ◌∷◌, ◌++◌, codes, decimal}
use Rattle.asp_defs.specs.declared.faults.TextFault.{TextFault}
use Rattle.asp_defs.specs.declared.faults.TextFault.TheVariants as text
use Rattle.asp_defs.specs.declared.faults.Var.{Var}
use Rattle.asp_defs.specs.declared.faults.Var.TheVariants.{Named, Anon}
use Rattle.asp_defs.specs.declared.faults.Which.{Which}
use Rattle.asp_defs.specs.declared.faults.Which.TheVariants as which
use Rattle.asp_defs.specs.declared.faults.Kind.{Kind}
use Rattle.asp_defs.specs.declared.faults.Kind.TheVariants.{Search, Minimal, Store}
use Rattle.asp_defs.specs.declared.faults.Unknown.{Unknown}
use Rattle.asp_defs.specs.Checks.{CheckRefusal, UnsafeRule, HeadedRule, PastLimit}

-- a text and a line feed
abbrev pub line : List ℕ → List ℕ
line text = text ++ 10 ∷ []

-- the line of a refusal
abbrev pub fault_line : List ℕ → List ℕ
fault_line text = line (codes "aspq: " ++ text)

-- the line of a refused word, by its number from 1
abbrev pub word_line : ℕ → List ℕ
word_line number = fault_line (codes "word " ++ decimal number ++ codes " refused")

-- a text with a place in the bytes
abbrev pub at_place : List ℕ → ℕ → List ℕ
at_place text place = fault_line (text ++ codes " at " ++ decimal place)

-- the line of a refused text; out of memory has none
abbrev pub text_fault_line : TextFault → List ℕ
text_fault_line (text.BadByte place) = at_place (codes "bad byte") place
text_fault_line (text.BadNumber place) = at_place (codes "bad number") place
text_fault_line (text.OpenComment place) = at_place (codes "open comment") place
text_fault_line text.NoLevel = fault_line (codes "no level")
text_fault_line text.Unfinished = fault_line (codes "unfinished")
text_fault_line (text.UnknownDirective place) = at_place (codes "unknown directive") place
text_fault_line (text.BeforeLevel place) = at_place (codes "before a level") place
text_fault_line (text.AfterConstraint place) = at_place (codes "after the constraint part") place
text_fault_line (text.Unexpected place) = at_place (codes "unexpected") place
text_fault_line text.NoMemory = []

-- a variable, the nameless one as it is written
abbrev pub variable_text : Var → List ℕ
variable_text (Named name) = name
variable_text Anon = codes "_"

-- the name of what a limit counts
abbrev pub which_text : Which → List ℕ
which_text which.Bytes = codes "bytes"
which_text which.Levels = codes "levels"
which_text which.Arguments = codes "arguments"
which_text which.Literals = codes "literals"
which_text which.Variables = codes "variables"
which_text which.Constants = codes "constants"
which_text which.Atoms = codes "atoms"
which_text which.Instances = codes "instances"

-- the lines of a refused program
abbrev pub unsafe_line : ℕ → Var → List ℕ
unsafe_line rule v = fault_line (codes "unsafe variable " ++ variable_text v ++ codes " in rule " ++ decimal rule)

abbrev pub headed_line : ℕ → List ℕ
headed_line rule = fault_line (codes "not a constraint: rule " ++ decimal rule)

abbrev pub too_large_line : Which → ℕ → List ℕ
too_large_line w count = fault_line (codes "too large: " ++ which_text w ++ codes " " ++ decimal count)

abbrev pub check_refusal_line : CheckRefusal → List ℕ
check_refusal_line (UnsafeRule rule v) = unsafe_line rule v
check_refusal_line (HeadedRule rule) = headed_line rule
check_refusal_line (PastLimit w count) = too_large_line w count

-- the lines of `list` for a first level that is universal, and for a value of `--after` that is no set
abbrev pub universal_first_line : List ℕ
universal_first_line = fault_line (codes "first level is universal")

abbrev pub after_refused_line : List ℕ
after_refused_line = fault_line (codes "after refused")

-- the verdict lines
abbrev pub coherent_line : List ℕ
coherent_line = line (codes "COHERENT")

abbrev pub incoherent_line : List ℕ
incoherent_line = line (codes "INCOHERENT")

abbrev pub kind_text : Kind → List ℕ
kind_text Search = codes "search"
kind_text Minimal = codes "minimal"
kind_text Store = codes "store"

abbrev pub unknown_line : Unknown → List ℕ
unknown_line u =
    line (codes "UNKNOWN " ++ kind_text u.kind ++ codes " " ++ decimal u.level ++ codes " " ++ decimal u.budget)

-- the lines at the end of a page
abbrev pub more_line : List ℕ
more_line = line (codes "MORE")

abbrev pub end_line : List ℕ
end_line = line (codes "END")

-- the lines of `demo`: nodes, bytes of the text, atoms of the last base, and true atoms of the first set
abbrev pub nodes_line : ℕ → List ℕ
nodes_line n = line (codes "nodes " ++ decimal n)

abbrev pub bytes_line : ℕ → List ℕ
bytes_line n = line (codes "bytes " ++ decimal n)

abbrev pub atoms_line : ℕ → List ℕ
atoms_line n = line (codes "atoms " ++ decimal n)

abbrev pub first_line : ℕ → List ℕ
first_line n = line (codes "first " ++ decimal n)
