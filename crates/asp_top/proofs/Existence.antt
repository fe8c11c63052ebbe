-- There is an answer to all words and bytes, given that every list of bytes is a text of a program or refused.
use Rattle.std.proofs.Common.{◌≡◌, ◌⊎◌, ◌<◌, ◌≤◌, ℕ, List, length, refl, ap, inl, inr, arith}
use Rattle.std.specs.Prelude.{Option, Some, None, is_none, Result, Ok, Err}
use Rattle.std.proofs.lemmas.Bool.{cases_lt}
use Rattle.asp_defs.specs.declared.faults.TextFault.{TextFault}
use Rattle.asp_defs.specs.declared.syntax.Program.{Program}
use Rattle.asp_defs.specs.Canonical.{program_text}
use Rattle.asp_defs.specs.Checks.{CheckRefusal, check_refusal}
use Rattle.asp_defs.specs.Grammar.{IsText}
use Rattle.asp_defs.specs.Lines.{word_line, text_fault_line, too_large_line, check_refusal_line}
use Rattle.asp_defs.specs.declared.faults.Which.{Which}
use Rattle.asp_defs.specs.declared.faults.Which.TheVariants.{Bytes}
use Rattle.asp_defs.specs.Games.{game_of}
use Rattle.asp_defs.specs.Values.{is_coherent}
use Rattle.asp_defs.specs.Sizes.{IsAccepted, game_too_large}
use Rattle.asp_defs.specs.Limits.{limit}
use Rattle.asp_defs.specs.Runs.{most_read, TooLong, NoText, FailedCheck, LargeGame}
use Rattle.asp_defs.specs.TextRefusals.{IsRefused}
use Rattle.asp_defs.specs.Sets.{verdict_line}
use Rattle.asp_defs.specs.Words.{Task, SolveTask, ListTask, CheckTask, DemoTask}
use Rattle.asp_top.specs.declared.status.Ended.{Ended}
use Rattle.asp_top.specs.declared.status.Status.TheVariants.{Done, Words, Text}
use Rattle.asp_top.specs.Answers.{IsRefusedWith, IsAnswer}
use Rattle.asp_top.specs.Commands.{served_task}
use Rattle.asp_top.specs.Laws.{AnswersExist}
use Rattle.asp_top.specs.Replies.{ended_by}
use Rattle.asp_top.proofs.Answering.{verdict_status, word_answer, refused_answer, printed_answer, verdict_answer}
use Rattle.asp_top.proofs.Reading.{served_plain}

-- ---- an answer

abbrev Answered : List (List ℕ) → List ℕ → Type 0
Answered words bytes = (e : Ended) × (output : List ℕ) × IsAnswer words bytes e output

module _ (words : List (List ℕ)) (bytes : List ℕ) where
  refused_so : (task : Task) → served_task words ≡ Ok task → (output : List ℕ) → IsRefusedWith bytes output → Answered words bytes
  refused_so task asked output h = (ended_by Text, output, refused_answer words bytes task asked output h)

  accepted : (task : Task) → served_task words ≡ Ok task → (p : Program) → IsAccepted bytes p → Answered words bytes
  accepted (SolveTask tuning log) asked p text =
      let verdict = is_coherent (game_of p) in
      (ended_by (verdict_status verdict), verdict_line verdict, verdict_answer words bytes tuning log asked p text verdict refl)
  accepted (ListTask tuning count word) asked p text = absurd (served_plain words (ListTask tuning count word) asked)
  accepted CheckTask asked p text = (ended_by Done, program_text p, printed_answer words bytes asked p text)
  accepted (DemoTask n) asked p text = absurd (served_plain words (DemoTask n) asked)

  sized : (task : Task) → served_task words ≡ Ok task → (limit Bytes < length bytes → ⊥) → length bytes ≤ limit Bytes
      → (p : Program) → IsText bytes p → check_refusal p ≡ None → (found : Option (Which × ℕ)) → game_too_large p ≡ found
      → Answered words bytes
  sized task asked past short p text passes (Some found) large =
      refused_so task asked (too_large_line found.0 found.1) (LargeGame p found.0 found.1 past text passes large refl)
  sized task asked past short p text passes None keeps =
      accepted task asked p
      (record { short = short; text = text; checked = ap is_none passes; small = ap is_none keeps })

  checked : (task : Task) → served_task words ≡ Ok task → (limit Bytes < length bytes → ⊥) → length bytes ≤ limit Bytes
      → (p : Program) → IsText bytes p → (found : Option CheckRefusal) → check_refusal p ≡ found → Answered words bytes
  checked task asked past short p text (Some why) fails =
      refused_so task asked (check_refusal_line why) (FailedCheck p why past text fails refl)
  checked task asked past short p text None passes =
      sized task asked past short p text passes (game_too_large p) refl

  module _ (read : ((p : Program) × IsText bytes p) ⊎ ((fault : TextFault) × IsRefused bytes fault)) where
    asked_for : (task : Task) → served_task words ≡ Ok task → Answered words bytes
    asked_for task asked = elim (cases_lt (limit Bytes) (length bytes)) [
      | inl long ↦ refused_so task asked (too_large_line Bytes most_read) (TooLong long refl)
      | inr short ↦ elim read [
        | inl h ↦ checked task asked (λ past. omega arith) short h.0 h.1 (check_refusal h.0) refl
        | inr h ↦ refused_so task asked (text_fault_line h.0) (NoText h.0 (λ past. omega arith) h.1 refl)
      ]
    ]

    answered : (asked : Result Task ℕ) → served_task words ≡ asked → Answered words bytes
    answered (Ok task) asked = asked_for task asked
    answered (Err place) refused = (ended_by Words, word_line place, word_answer words bytes place refused)

pub answers_exist_where : ((bytes : List ℕ) → ((p : Program) × IsText bytes p) ⊎ ((fault : TextFault) × IsRefused bytes fault))
    → AnswersExist
answers_exist_where read words bytes = answered words bytes (read bytes) (served_task words) refl
