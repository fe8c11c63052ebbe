-- The text of each line that a run prints.
use Rattle.std.specs.Prelude.{ℕ, List}
use Rattle.asp_defs.specs.declared.faults.TextFault.TheVariants as text
use Rattle.asp_defs.specs.Lines.{word_line, text_fault_line, unsafe_line, headed_line, too_large_line, universal_first_line, after_refused_line, coherent_line, incoherent_line, unknown_line, more_line, end_line, nodes_line, bytes_line, atoms_line, first_line}
use Rattle.asp_print.specs.declared.line.Line.{Line}
use Rattle.asp_print.specs.declared.line.Line.TheVariants as line

-- the line with its line feed
abbrev pub line_text : Line → List ℕ
line_text (line.Word number) = word_line number
line_text (line.BadByte place) = text_fault_line (text.BadByte place)
line_text (line.BadNumber place) = text_fault_line (text.BadNumber place)
line_text (line.OpenComment place) = text_fault_line (text.OpenComment place)
line_text line.NoLevel = text_fault_line text.NoLevel
line_text line.Unfinished = text_fault_line text.Unfinished
line_text (line.UnknownDirective place) = text_fault_line (text.UnknownDirective place)
line_text (line.BeforeLevel place) = text_fault_line (text.BeforeLevel place)
line_text (line.AfterConstraint place) = text_fault_line (text.AfterConstraint place)
line_text (line.Unexpected place) = text_fault_line (text.Unexpected place)
line_text (line.Unsafe rule v) = unsafe_line rule v
line_text (line.NotConstraint rule) = headed_line rule
line_text (line.TooLarge which count) = too_large_line which count
line_text line.UniversalFirst = universal_first_line
line_text line.AfterRefused = after_refused_line
line_text line.Coherent = coherent_line
line_text line.Incoherent = incoherent_line
line_text (line.Unknown unknown) = unknown_line unknown
line_text line.More = more_line
line_text line.End = end_line
line_text (line.Nodes count) = nodes_line count
line_text (line.Bytes count) = bytes_line count
line_text (line.Atoms count) = atoms_line count
line_text (line.First count) = first_line count
