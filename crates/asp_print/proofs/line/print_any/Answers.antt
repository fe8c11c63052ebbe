use Rattle.std.proofs.Common.{sym, ap, ◌∙◌, ◌++◌, ◌∷◌, [], append_assoc, codes, decimal}
use Rattle.asp_print.specs.LineTexts.{line_text}
use Rattle.asp_print.proofs.Writing.{as_text}
use Rattle.asp_print.proofs.line.print_any.Goals as goal

pub returns-in-Word : goal.returns-in-Word
returns-in-Word g c =
    as_text
    (ap (λ rest. codes "aspq: word " ++ rest) (sym (append_assoc (decimal c.in-Word.number) (codes " refused") (10 ∷ [])))
    ∙ ap line_text (sym c.in-Word.is))
    c.print_around.ensures

pub returns-in-BadByte : goal.returns-in-BadByte
returns-in-BadByte g c = as_text (ap line_text (sym c.in-BadByte.is)) c.print_around-in-BadByte.ensures

pub returns-in-BadNumber : goal.returns-in-BadNumber
returns-in-BadNumber g c = as_text (ap line_text (sym c.in-BadNumber.is)) c.print_around-in-BadNumber.ensures

pub returns-in-OpenComment : goal.returns-in-OpenComment
returns-in-OpenComment g c = as_text (ap line_text (sym c.in-OpenComment.is)) c.print_around-in-OpenComment.ensures

pub returns-in-NoLevel : goal.returns-in-NoLevel
returns-in-NoLevel g c = as_text (ap line_text (sym c.in-NoLevel.is)) c.print_bytes.ensures

pub returns-in-Unfinished : goal.returns-in-Unfinished
returns-in-Unfinished g c = as_text (ap line_text (sym c.in-Unfinished.is)) c.print_bytes-in-Unfinished.ensures

pub returns-in-UnknownDirective : goal.returns-in-UnknownDirective
returns-in-UnknownDirective g c = as_text (ap line_text (sym c.in-UnknownDirective.is)) c.print_around-in-UnknownDirective.ensures

pub returns-in-BeforeLevel : goal.returns-in-BeforeLevel
returns-in-BeforeLevel g c = as_text (ap line_text (sym c.in-BeforeLevel.is)) c.print_around-in-BeforeLevel.ensures

pub returns-in-AfterConstraint : goal.returns-in-AfterConstraint
returns-in-AfterConstraint g c = as_text (ap line_text (sym c.in-AfterConstraint.is)) c.print_around-in-AfterConstraint.ensures

pub returns-in-Unexpected : goal.returns-in-Unexpected
returns-in-Unexpected g c = as_text (ap line_text (sym c.in-Unexpected.is)) c.print_around-in-Unexpected.ensures

pub returns-in-Unsafe : goal.returns-in-Unsafe
returns-in-Unsafe g c = as_text (ap line_text (sym c.in-Unsafe.is)) c.print_unsafe.ensures

pub returns-in-NotConstraint : goal.returns-in-NotConstraint
returns-in-NotConstraint g c = as_text (ap line_text (sym c.in-NotConstraint.is)) c.print_around-in-NotConstraint.ensures

pub returns-in-TooLarge : goal.returns-in-TooLarge
returns-in-TooLarge g c = as_text (ap line_text (sym c.in-TooLarge.is)) c.print_too_large.ensures

pub returns-in-UniversalFirst : goal.returns-in-UniversalFirst
returns-in-UniversalFirst g c = as_text (ap line_text (sym c.in-UniversalFirst.is)) c.print_bytes-in-UniversalFirst.ensures

pub returns-in-AfterRefused : goal.returns-in-AfterRefused
returns-in-AfterRefused g c = as_text (ap line_text (sym c.in-AfterRefused.is)) c.print_bytes-in-AfterRefused.ensures

pub returns-in-Coherent : goal.returns-in-Coherent
returns-in-Coherent g c = as_text (ap line_text (sym c.in-Coherent.is)) c.print_bytes-in-Coherent.ensures

pub returns-in-Incoherent : goal.returns-in-Incoherent
returns-in-Incoherent g c = as_text (ap line_text (sym c.in-Incoherent.is)) c.print_bytes-in-Incoherent.ensures

pub returns-in-Unknown : goal.returns-in-Unknown
returns-in-Unknown g c = as_text (ap line_text (sym c.in-Unknown.is)) c.print_unknown.ensures

pub returns-in-More : goal.returns-in-More
returns-in-More g c = as_text (ap line_text (sym c.in-More.is)) c.print_bytes-in-More.ensures

pub returns-in-End : goal.returns-in-End
returns-in-End g c = as_text (ap line_text (sym c.in-End.is)) c.print_bytes-in-End.ensures

pub returns-in-Nodes : goal.returns-in-Nodes
returns-in-Nodes g c = as_text (ap line_text (sym c.in-Nodes.is)) c.print_around-in-Nodes.ensures

pub returns-in-Bytes : goal.returns-in-Bytes
returns-in-Bytes g c = as_text (ap line_text (sym c.in-Bytes.is)) c.print_around_count.ensures

pub returns-in-Atoms : goal.returns-in-Atoms
returns-in-Atoms g c = as_text (ap line_text (sym c.in-Atoms.is)) c.print_around-in-Atoms.ensures

pub returns-in-First : goal.returns-in-First
returns-in-First g c = as_text (ap line_text (sym c.in-First.is)) c.print_around-in-First.ensures
