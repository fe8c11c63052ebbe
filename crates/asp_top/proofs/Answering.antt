-- Which answers are right: for a refused word, a refused text, a printed program, a verdict, and a question that stays open.
use Rattle.std.proofs.Common.{◌≡◌, ◌≤◌, ℕ, Bool, true, false, List, [], refl, sym, ap, ◌∙◌, subst, inl, inr, arith}
use Rattle.std.specs.Prelude.{Result, Ok, Err, None, Some, IsTrue}
use Rattle.std.proofs.lemmas.Bool.{cases_lt}
use Rattle.asp_defs.specs.declared.faults.Unknown.{Unknown as UnknownState}
use Rattle.asp_defs.specs.declared.syntax.Program.{Program}
use Rattle.asp_defs.specs.Canonical.{program_text}
use Rattle.asp_defs.specs.Games.{game_of}
use Rattle.asp_defs.specs.Sizes.{IsAccepted}
use Rattle.asp_defs.specs.Lines.{word_line, unknown_line}
use Rattle.asp_defs.specs.Sets.{verdict_line}
use Rattle.asp_defs.specs.Unknowns.{is_possible}
use Rattle.asp_defs.specs.Values.{is_coherent}
use Rattle.asp_defs.specs.Words.{Tuning, Task, SolveTask, ListTask, CheckTask, DemoTask, task_of_words}
use Rattle.asp_defs.specs.Runs.{Ending, TextRefusal, refusal, verdict_code, accepted_ending, text_of_task, IsDefinedEnding}
use Rattle.asp_defs.proofs.TextRefutations.{clash}
use Rattle.asp_top.specs.declared.status.Ended.{Ended}
use Rattle.asp_top.specs.declared.status.Status.{Status}
use Rattle.asp_top.specs.declared.status.Status.TheVariants.{Coherent, Incoherent, Unknown, Done, Words, Text}
use Rattle.asp_top.specs.Answers.{IsRefusedWith, IsServed, IsAnswer}
use Rattle.asp_top.specs.Commands.{served_task}
use Rattle.asp_top.specs.Replies.{ended_by}
use Rattle.asp_top.specs.Statuses.{code_of}
use Rattle.asp_top.proofs.Reading.{task_asked, read_served, IsServedTask, served_plain, no_log}

abbrev pub verdict_status : Bool → Status
verdict_status true = Coherent
verdict_status false = Incoherent

abbrev coherent_ending : Bool → Ending
coherent_ending verdict = record { code = verdict_code verdict; output = verdict_line verdict }

abbrev status_ending : Status → List ℕ → Ending
status_ending status output = record { code = code_of status; output = output }

-- a task that is served works on the bytes
same_bytes : (task : Task) (bytes : List ℕ) → IsServedTask task → bytes ≡ text_of_task task bytes
same_bytes (SolveTask tuning log) bytes served = refl
same_bytes (ListTask tuning count word) bytes served = absurd served
same_bytes CheckTask bytes served = refl
same_bytes (DemoTask n) bytes served = absurd served

module _ (words : List (List ℕ)) (bytes : List ℕ) where
  -- the line of a word that is refused today, whether or not the definition refuses it
  module _ (place : ℕ) (refused : served_task words ≡ Err place) where
    defined_word : task_of_words words ≡ Err place → IsAnswer words bytes (ended_by Words) (word_line place)
    defined_word too = inl (too ∙ sym refused, inl (inl (place, too, refl), λ wanted. refl))

    unserved_word : (task_of_words words ≡ Err place → ⊥) → IsAnswer words bytes (ended_by Words) (word_line place)
    unserved_word other = inr (record { place = place; unread = refused; differs = other; refused = refl })

    other_word : (other : ℕ) → task_of_words words ≡ Err other → (other ≡ place → ⊥) → IsAnswer words bytes (ended_by Words) (word_line place)
    other_word other too differ = unserved_word (λ e. let both : Err other ≡ Err place = sym too ∙ e in differ (cc))

    word_by : (read : Result Task ℕ) → task_of_words words ≡ read → IsAnswer words bytes (ended_by Words) (word_line place)
    word_by (Ok task) asked = unserved_word (λ e. let both : Ok task ≡ Err place = sym asked ∙ e in absurd (cc))
    word_by (Err other) too = elim (cases_lt other place) [
      | inl less ↦ other_word other too (λ same. omega (arith, less, same))
      | inr most ↦ elim (cases_lt place other) [
        | inl more ↦ other_word other too (λ same. omega (arith, more, same))
        | inr least ↦ let same : other ≡ place = omega (arith, most, least) in defined_word (too ∙ ap (λ n. Err n) same)
      ]
    ]

    pub word_answer : IsAnswer words bytes (ended_by Words) (word_line place)
    word_answer = word_by (task_of_words words) refl

  -- words that are read
  module _ (task : Task) (read : served_task words ≡ Ok task) where
    served : IsServed words
    served = read_served words task read

    pub refused_answer : (output : List ℕ) → IsRefusedWith bytes output → IsAnswer words bytes (ended_by Text) output
    refused_answer output h =
        inl (
          served,
          inl (
            inr (
              task,
              task_asked words task read,
              inl (subst (λ (bs : List ℕ). TextRefusal bs (refusal output)) (same_bytes task bytes (served_plain words task read)) h),
            ),
            λ wanted. refl,
          ),
        )

    plain_answer : (status : Status) (output : List ℕ) (p : Program) → IsAccepted bytes p
        → status_ending status output ≡ accepted_ending task p → IsAnswer words bytes (ended_by status) output
    plain_answer status output p text is =
        inl (
          served,
          inl (
            inr (
              task,
              task_asked words task read,
              inr (p, subst (λ (bs : List ℕ). IsAccepted bs p) (same_bytes task bytes (served_plain words task read)) text, is),
            ),
            λ wanted. clash (sym (no_log words served) ∙ wanted),
          ),
        )

  pub printed_answer : served_task words ≡ Ok CheckTask → (p : Program) → IsAccepted bytes p
      → IsAnswer words bytes (ended_by Done) (program_text p)
  printed_answer read p text = plain_answer CheckTask read Done (program_text p) p text refl

  module _ (tuning : Tuning) (log : Bool) (read : served_task words ≡ Ok (SolveTask tuning log)) (p : Program)
      (text : IsAccepted bytes p) where
    pub verdict_answer : (verdict : Bool) → is_coherent (game_of p) ≡ verdict
        → IsAnswer words bytes (ended_by (verdict_status verdict)) (verdict_line verdict)
    verdict_answer true coherent =
        plain_answer (SolveTask tuning log) read Coherent (verdict_line true) p text (ap coherent_ending (sym coherent))
    verdict_answer false coherent =
        plain_answer (SolveTask tuning log) read Incoherent (verdict_line false) p text (ap coherent_ending (sym coherent))

    pub open_answer : (u : UnknownState) → IsTrue (is_possible (game_of p) tuning.budget tuning.cells u)
        → IsAnswer words bytes (ended_by Unknown) (unknown_line u)
    open_answer u possible =
        inl (
          read_served words (SolveTask tuning log) read,
          inr (inr (record {
            task = SolveTask tuning log;
            program = p;
            page = record { sets = []; more = false };
            known = 0;
            unknown = u;
            asked = task_asked words (SolveTask tuning log) read;
            accepted = text;
            wanted = refl;
            possible = possible;
            code = refl;
            output = refl;
          })),
        )
