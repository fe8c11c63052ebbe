-- What the sink holds at the end of a run, from what its last step wrote: an answer or its beginning, or a refused word's line;
-- and what the run solved with is the evidence of the answer.
use Rattle.std.proofs.Common.{◌≡◌, ℕ, Bool, true, false, List, [], refl, sym, ap, ◌∙◌, subst, inl, inr, append-nil}
use Rattle.std.specs.Prelude.{Option, Some, None, Result, Ok, Err, IsTrue, IsSome}
use Rattle.std.specs.Option.{is_some}
use Rattle.std.specs.Io.KnownBytes.{Appends}
use Rattle.asp_io.specs.Moved.{AppendsPrefix}
use Rattle.asp_defs.specs.declared.syntax.Program.{Program}
use Rattle.asp_defs.specs.Games.{game_of}
use Rattle.asp_defs.specs.Lines.{word_line}
use Rattle.asp_defs.specs.Runs.{Ending, verdict_code}
use Rattle.asp_defs.specs.Sets.{verdict_line}
use Rattle.asp_defs.specs.Shown.{Evidence, VerdictClaim, OpenClaim, IsEvidence}
use Rattle.asp_defs.specs.Sizes.{IsAccepted}
use Rattle.asp_defs.specs.Words.{Task, CheckTask}
use Rattle.asp_defs.proofs.TextRefutations.{clash}
use Rattle.asp_top.specs.declared.status.Ended.{Ended}
use Rattle.asp_top.specs.declared.status.Used.{Used}
use Rattle.asp_top.specs.declared.status.Used.TheVariants.{Single}
use Rattle.asp_top.specs.declared.status.Status.{Status}
use Rattle.asp_top.specs.declared.status.Status.TheVariants.{Words, Write}
use Rattle.asp_top.specs.declared.words.Tuning.{Tuning}
use Rattle.asp_top.specs.declared.words.Command.{Command}
use Rattle.asp_top.specs.declared.words.Command.TheVariants.{Solve, Check}
use Rattle.asp_top.specs.declared.answer.Answer.{Answer}
use Rattle.asp_top.specs.declared.answer.Answer.TheVariants.{Refused, Accepted, Verdict, Unknown}
use Rattle.asp_top.specs.Answers.{ending_of, IsAnswer}
use Rattle.asp_top.specs.Commands.{served_task, task_of, task_of_command, refused_place, refused_word}
use Rattle.asp_top.specs.Outputs.{evidence_of, EndsSo, SaysAnswer, ShowsAnswer, BeginsAnswer, RefusesWord}
use Rattle.asp_top.specs.Replies.{IsSolvedText, IsRight, status_of, used_of, ended_of, ended_by, text_of}
use Rattle.asp_top.specs.Solved.{HasVerdict, StaysOpen}
use Rattle.asp_top.specs.Statuses.{code_of, is_answered, is_solved}
use Rattle.asp_print.specs.LineTexts.{line_text}
use Rattle.asp_top.proofs.Answering.{word_answer, refused_answer, printed_answer, verdict_answer, open_answer}
use Rattle.asp_top.proofs.Reading.{task_asked}

-- ---- answers

-- the words ask for the command's task
asked_so : (words : List (List ℕ)) (command other : Command) → served_task words ≡ Ok (task_of command) → command ≡ other
    → served_task words ≡ Ok (task_of other)
asked_so words command other read is = read ∙ ap (λ (c : Command). Ok (task_of c)) is

abbrev verdict_ending : Bool → List ℕ → Ending
verdict_ending verdict output = record { code = verdict_code verdict; output = output }

module _ (words : List (List ℕ)) (command : Command) (bytes : List ℕ) (read : served_task words ≡ Ok (task_of command)) where
  -- what is right to say is an answer of the run
  pub is_answer : (answer : Answer) → IsRight command bytes answer → IsAnswer words bytes (ended_of answer) (text_of answer)
  is_answer (Refused line) h = refused_answer words bytes (task_of command) read (line_text line) h
  is_answer (Accepted p) (is, text) = printed_answer words bytes (asked_so words command Check read is) p text
  is_answer (Verdict true t) (tuning, p, is, text, solved) =
      verdict_answer words bytes _ false (asked_so words command (Solve tuning) read is) p text true solved.coherent
  is_answer (Verdict false t) (tuning, p, is, text, solved) =
      verdict_answer words bytes _ false (asked_so words command (Solve tuning) read is) p text false solved.coherent
  is_answer (Unknown u t) (tuning, p, is, text, solved) =
      open_answer words bytes _ false (asked_so words command (Solve tuning) read is) p text u solved.possible

  -- and what it was solved with is the evidence of it
  abbrev Evident : Answer → Used → Type 0
  Evident answer used = IsEvidence words bytes (ending_of (ended_of answer) (text_of answer)) (evidence_of used)

  verdict_evident : (verdict : Bool) (t : Evidence) (tuning : Tuning) (p : Program) → command ≡ Solve tuning → IsAccepted bytes p
      → HasVerdict (game_of p) tuning.budget tuning.cells verdict t
      → IsEvidence words bytes (record { code = verdict_code verdict; output = verdict_line verdict }) t
  verdict_evident verdict t tuning p is text solved = record {
    task = task_of (Solve tuning);
    program = p;
    claim = VerdictClaim verdict;
    asked = task_asked words (task_of (Solve tuning)) (asked_so words command (Solve tuning) read is);
    accepted = text;
    same_game = solved.run.game;
    same_budget = solved.run.budget;
    same_cells = solved.run.allowed;
    legal = solved.run.legal;
    said = ap (λ (output : List ℕ). Some (verdict_ending verdict output)) (append-nil (verdict_line verdict));
    shown = solved.shown;
  }

  team_evident : (answer : Answer) (t : Evidence) → used_of answer ≡ Some (Single t) → IsRight command bytes answer → Evident answer (Single t)
  team_evident (Refused line) t given h = let none : None ≡ Some (Single t) = given in absurd (cc)
  team_evident (Accepted p) t given h = let none : None ≡ Some (Single t) = given in absurd (cc)
  team_evident (Verdict true found) t given (tuning, p, is, text, solved) =
      let both_are : Some (Single found) ≡ Some (Single t) = given in
      let same : found ≡ t = cc in
      subst (λ (u : Evidence). Evident (Verdict true found) (Single u)) same (verdict_evident true found tuning p is text solved)
  team_evident (Verdict false found) t given (tuning, p, is, text, solved) =
      let both_are : Some (Single found) ≡ Some (Single t) = given in
      let same : found ≡ t = cc in
      subst (λ (u : Evidence). Evident (Verdict false found) (Single u)) same (verdict_evident false found tuning p is text solved)
  team_evident (Unknown u found) t given (tuning, p, is, text, solved) =
      let both_are : Some (Single found) ≡ Some (Single t) = given in
      let same : found ≡ t = cc in
      subst (λ (x : Evidence). Evident (Unknown u found) (Single x)) same
      (record {
        task = task_of (Solve tuning);
        program = p;
        claim = OpenClaim u;
        asked = task_asked words (task_of (Solve tuning)) (asked_so words command (Solve tuning) read is);
        accepted = text;
        same_game = solved.run.game;
        same_budget = solved.run.budget;
        same_cells = solved.run.allowed;
        legal = solved.run.legal;
        said = refl;
        shown = solved.shown;
      })

  pub is_evident : (answer : Answer) (used : Used) → used_of answer ≡ Some used → IsRight command bytes answer → Evident answer used
  is_evident answer (Single t) given h = team_evident answer t given h

-- words aren't both refused and read
pub not_read : {A : Type 0} (words : List (List ℕ)) (place : ℕ) (task : Task) → served_task words ≡ Err place → served_task words ≡ Ok task → A
not_read words place task refused read = let both_are : Err place ≡ Ok task = sym refused ∙ read in absurd (cc)

-- an answer is no fault
answered : (answer : Answer) → is_answered (status_of answer) ≡ true
answered (Refused line) = refl
answered (Accepted p) = refl
answered (Verdict true t) = refl
answered (Verdict false t) = refl
answered (Unknown u t) = refl

-- what solved it is there exactly with a verdict or an open answer
solved_used : (answer : Answer) → is_solved (status_of answer) ≡ is_some (used_of answer)
solved_used (Refused line) = refl
solved_used (Accepted p) = refl
solved_used (Verdict true t) = refl
solved_used (Verdict false t) = refl
solved_used (Unknown u t) = refl

module _ (before now : Option (List ℕ)) (faults_before faults_now : ℕ) (ending : Ended) where
  module _ (ended : Ended) (text : List ℕ) (ends : EndsSo before now faults_before faults_now ending ended text)
      (solved : is_solved ended.status ≡ is_some ended.used) where
    solved_alike : is_solved ending.status ≡ is_some ending.used
    solved_alike = elim ends [
      | inl h ↦ ap is_solved h.0 ∙ (solved ∙ sym (ap is_some h.1))
      | inr h ↦ ap is_solved h.0 ∙ sym (ap is_some h.1)
    ]

  -- what solved it is handed out exactly where it solved something
  module _ (answer : Answer) (ends : EndsSo before now faults_before faults_now ending (ended_of answer) (text_of answer)) where
    pub used_given : IsTrue (is_solved ending.status) → IsSome ending.used
    used_given h = sym (solved_alike (ended_of answer) (text_of answer) ends (solved_used answer)) ∙ h

    pub used_only : IsSome ending.used → IsTrue (is_solved ending.status)
    used_only h = solved_alike (ended_of answer) (text_of answer) ends (solved_used answer) ∙ h

  module _ (found : ℕ) (ends : EndsSo before now faults_before faults_now ending (ended_by Words) (word_line found)) where
    pub word_used_given : IsTrue (is_solved ending.status) → IsSome ending.used
    word_used_given h = sym (solved_alike (ended_by Words) (word_line found) ends refl) ∙ h

    pub word_used_only : IsSome ending.used → IsTrue (is_solved ending.status)
    word_used_only h = solved_alike (ended_by Words) (word_line found) ends refl ∙ h

    pub word_unused : {A : Type 0} (used : Used) → ending.used ≡ Some used → A
    word_unused used given = elim ends [
      | inl h ↦ let both_are : None ≡ Some used = sym h.1 ∙ given in absurd (cc)
      | inr h ↦ let both_are : None ≡ Some used = sym h.1 ∙ given in absurd (cc)
    ]

  module _ (words : List (List ℕ)) where
    module _ (command : Command) (bytes : List ℕ) (answer : Answer) (read : served_task words ≡ Ok (task_of command))
        (right : IsRight command bytes answer)
        (ends : EndsSo before now faults_before faults_now ending (ended_of answer) (text_of answer)) where
      answer_so : ending.status ≡ status_of answer → IsAnswer words bytes ending (text_of answer)
      answer_so same =
          subst (λ (status : Status). IsAnswer words bytes (ended_by status) (text_of answer)) (sym same)
          (is_answer words command bytes read answer right)

      -- the answer, where it was written
      pub says_answer : IsTrue (is_answered ending.status) → SaysAnswer words bytes ending before now
      says_answer written = elim ends [
        | inl h ↦ (text_of answer, answer_so h.0, h.2)
        | inr h ↦ clash (sym (ap is_answered h.0) ∙ written)
      ]

      -- and with its evidence
      pub shows_answer : (used : Used) → ending.used ≡ Some used → ShowsAnswer words bytes ending used before now
      shows_answer used given = elim ends [
        | inl h ↦ (
          text_of answer,
          answer_so h.0,
          subst (λ (status : Status). IsEvidence words bytes (ending_of (ended_by status) (text_of answer)) (evidence_of used)) (sym h.0)
              (is_evident words command bytes read answer used (sym h.1 ∙ given) right),
          h.2,
        )
        | inr h ↦ let both_are : None ≡ Some used = sym h.1 ∙ given in absurd (cc)
      ]

      -- the beginning of the answer, where the sink failed
      pub begins_answer : ending.status ≡ Write → BeginsAnswer words bytes before now
      begins_answer failed = elim ends [
        | inl h ↦ clash (ap is_answered (sym failed ∙ h.0) ∙ answered answer)
        | inr h ↦ (ended_of answer, text_of answer, is_answer words command bytes read answer right, h.2)
      ]

    module _ (found : ℕ) (refused : served_task words ≡ Err found)
        (ends : EndsSo before now faults_before faults_now ending (ended_by Words) (word_line found)) where
      -- the line of the refused word, or a part of it
      pub refuses_word : (place : ℕ) → refused_word words ≡ Some place → RefusesWord place ending.status before now
      refuses_word place told =
          let both_are : Some found ≡ Some place = sym (ap (λ (read : Result Task ℕ). refused_place read) refused) ∙ told in
          let same : found ≡ place = cc in
          elim ends [
            | inl h ↦ inl (h.0, subst (λ n. Appends before now (word_line n)) same h.2)
            | inr h ↦ inr (h.0, subst (λ n. AppendsPrefix before now (word_line n)) same h.2)
          ]

      pub says_word : (bytes : List ℕ) → IsTrue (is_answered ending.status) → SaysAnswer words bytes ending before now
      says_word bytes written = elim ends [
        | inl h ↦ (
          word_line found,
          subst (λ (status : Status). IsAnswer words bytes (ended_by status) (word_line found)) (sym h.0)
              (word_answer words bytes found refused),
          h.2,
        )
        | inr h ↦ clash (sym (ap is_answered h.0) ∙ written)
      ]

      pub begins_word : (bytes : List ℕ) → ending.status ≡ Write → BeginsAnswer words bytes before now
      begins_word bytes failed = elim ends [
        | inl h ↦ clash (ap is_answered (sym failed ∙ h.0))
        | inr h ↦ (ended_by Words, word_line found, word_answer words bytes found refused, h.2)
      ]
