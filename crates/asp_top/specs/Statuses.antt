-- The exit statuses. All definitions are transparent.
use Rattle.std.specs.Prelude.{ℕ, Bool, true, false}
use Rattle.asp_top.specs.declared.status.Status.{Status}
use Rattle.asp_top.specs.declared.status.Status.TheVariants.{Coherent, Incoherent, Unknown, Done, Words, Text, Read, Write, Memory}

-- the exit status of the process
abbrev pub code_of : Status → ℕ
code_of Coherent = 10
code_of Incoherent = 20
code_of Unknown = 30
code_of Done = 0
code_of Words = 2
code_of Text = 3
code_of Read = 4
code_of Write = 5
code_of Memory = 6

-- whether a run that ends so has said all that it had to say: neither the outside nor memory failed
abbrev pub is_answered : Status → Bool
is_answered Coherent = true
is_answered Incoherent = true
is_answered Unknown = true
is_answered Done = true
is_answered Words = true
is_answered Text = true
is_answered Read = false
is_answered Write = false
is_answered Memory = false

-- whether a run that ends so has a verdict, or a question that stays open
abbrev pub is_solved : Status → Bool
is_solved Coherent = true
is_solved Incoherent = true
is_solved Unknown = true
is_solved Done = false
is_solved Words = false
is_solved Text = false
is_solved Read = false
is_solved Write = false
is_solved Memory = false
