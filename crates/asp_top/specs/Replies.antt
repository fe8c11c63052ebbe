-- What a run says of a text, by the faults of the crates below and by the command. All definitions are transparent.
use Rattle.std.specs.Prelude.{◌≡◌, ℕ, true, false, Option, Some, None, List}
use Rattle.asp_defs.specs.declared.faults.TextFault.{TextFault}
use Rattle.asp_defs.specs.declared.faults.TextFault.TheVariants as text
use Rattle.asp_defs.specs.declared.faults.SizeFault.{SizeFault}
use Rattle.asp_defs.specs.declared.faults.SizeFault.TheVariants as size
use Rattle.asp_defs.specs.Sizes.{IsAccepted}
use Rattle.asp_defs.specs.declared.syntax.Program.{Program}
use Rattle.asp_defs.specs.Lines.{coherent_line, incoherent_line, unknown_line}
use Rattle.asp_defs.specs.Canonical.{program_text}
use Rattle.asp_check.specs.declared.checks.CheckFault.{CheckFault}
use Rattle.asp_check.specs.declared.checks.CheckFault.TheVariants as check
use Rattle.asp_print.specs.declared.line.Line.TheVariants as line
use Rattle.asp_print.specs.LineTexts.{line_text}
use Rattle.asp_top.specs.declared.refusal.Refusal.{Refusal}
use Rattle.asp_top.specs.declared.refusal.Refusal.TheVariants as refusal
use Rattle.asp_top.specs.declared.status.Ended.{Ended}
use Rattle.asp_top.specs.declared.status.Used.{Used}
use Rattle.asp_top.specs.declared.status.Used.TheVariants.{Single}
use Rattle.asp_top.specs.declared.status.Status.{Status}
use Rattle.asp_top.specs.declared.status.Status.TheVariants as status
use Rattle.asp_top.specs.declared.words.Tuning.{Tuning}
use Rattle.asp_top.specs.declared.words.Command.{Command}
use Rattle.asp_top.specs.declared.words.Command.TheVariants.{Solve, Check}
use Rattle.asp_top.specs.declared.answer.Answer.{Answer}
use Rattle.asp_top.specs.declared.answer.Answer.TheVariants.{Refused, Accepted, Verdict, Unknown}
use Rattle.asp_top.specs.Answers.{IsRefusedWith}
use Rattle.asp_top.specs.Solved.{IsSolved}

-- the refusal that a fault of the reader is, that a fault of the checks is, and that a fault for a game's size is
abbrev pub refusal_of_text : TextFault → Refusal
refusal_of_text (text.BadByte place) = refusal.Text (line.BadByte place)
refusal_of_text (text.BadNumber place) = refusal.Text (line.BadNumber place)
refusal_of_text (text.OpenComment place) = refusal.Text (line.OpenComment place)
refusal_of_text text.NoLevel = refusal.Text line.NoLevel
refusal_of_text text.Unfinished = refusal.Text line.Unfinished
refusal_of_text (text.UnknownDirective place) = refusal.Text (line.UnknownDirective place)
refusal_of_text (text.BeforeLevel place) = refusal.Text (line.BeforeLevel place)
refusal_of_text (text.AfterConstraint place) = refusal.Text (line.AfterConstraint place)
refusal_of_text (text.Unexpected place) = refusal.Text (line.Unexpected place)
refusal_of_text text.NoMemory = refusal.NoMemory

abbrev pub refusal_of_check : CheckFault → Refusal
refusal_of_check (check.Unsafe rule variable) = refusal.Text (line.Unsafe rule variable)
refusal_of_check (check.NotConstraint rule) = refusal.Text (line.NotConstraint rule)
refusal_of_check (check.TooLarge which count) = refusal.Text (line.TooLarge which count)
refusal_of_check check.NoMemory = refusal.NoMemory

abbrev pub refusal_of_size : SizeFault → Refusal
refusal_of_size (size.TooLarge which count) = refusal.Text (line.TooLarge which count)
refusal_of_size size.NoMemory = refusal.NoMemory

-- bytes are refused so; that memory ran out says nothing
abbrev pub IsRefusedSo : List ℕ → Refusal → Type 0
IsRefusedSo bytes (refusal.Text line) = IsRefusedWith bytes (line_text line)
IsRefusedSo bytes refusal.NoMemory = Unit {0}

abbrev pub status_of : Answer → Status
status_of (Refused line) = status.Text
status_of (Accepted p) = status.Done
status_of (Verdict true t) = status.Coherent
status_of (Verdict false t) = status.Incoherent
status_of (Unknown u t) = status.Unknown

abbrev pub used_of : Answer → Option Used
used_of (Refused line) = None
used_of (Accepted p) = None
used_of (Verdict verdict t) = Some (Single t)
used_of (Unknown u t) = Some (Single t)

-- how a run ends that says all that there is to say, and one that says nothing of a game
abbrev pub ended_of : Answer → Ended
ended_of answer = record { status = status_of answer; used = used_of answer }

abbrev pub ended_by : Status → Ended
ended_by status = record { status = status; used = None }

abbrev pub text_of : Answer → List ℕ
text_of (Refused line) = line_text line
text_of (Accepted p) = program_text p
text_of (Verdict true t) = coherent_line
text_of (Verdict false t) = incoherent_line
text_of (Unknown u t) = unknown_line u

-- bytes are an accepted text, of whose program what is said is right
abbrev pub IsSolvedText : Command → List ℕ → Answer → Type 0
IsSolvedText command bytes answer =
    (tuning : Tuning) × (p : Program) × (command ≡ Solve tuning) × IsAccepted bytes p × IsSolved tuning p answer

-- what a command says of the bytes is right
abbrev pub IsRight : Command → List ℕ → Answer → Type 0
IsRight command bytes (Refused line) = IsRefusedWith bytes (line_text line)
IsRight command bytes (Accepted p) = (command ≡ Check) × IsAccepted bytes p
IsRight command bytes (Verdict verdict t) = IsSolvedText command bytes (Verdict verdict t)
IsRight command bytes (Unknown u t) = IsSolvedText command bytes (Unknown u t)
