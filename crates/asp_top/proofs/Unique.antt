-- A refusal is the only answer to its words and bytes, answers of status 0 have one output, answers that aren't open have one
-- status and, without a log, one output, and none is open where the budget and the cells are enough.
use Rattle.std.proofs.Common.{◌≡◌, ◌≢◌, ◌<◌, ◌≤◌, ℕ, Bool, true, false, List, refl, sym, ap, ◌∙◌, subst, inl, inr, arith}
use Rattle.std.specs.Prelude.{◌==◌, ◌&&◌, ◌+◌, nat_le, nat_lt, Ok, Err, if◌then◌else◌}
use Rattle.std.proofs.lemmas.Bool.{leb-true, ltb-true}
use Rattle.asp_defs.specs.declared.faults.Kind.{Kind}
use Rattle.asp_defs.specs.declared.faults.Kind.TheVariants as kind
use Rattle.asp_defs.specs.declared.ground.Game.{Game}
use Rattle.asp_defs.specs.declared.syntax.Program.{Program}
use Rattle.asp_defs.specs.Games.{game_of, level_count}
use Rattle.asp_defs.specs.Sizes.{IsAccepted}
use Rattle.asp_defs.specs.Unknowns.{enough_placements, enough_cells, possible_kind, is_possible}
use Rattle.asp_defs.specs.Values.{is_coherent}
use Rattle.asp_defs.specs.Runs.{Ending, TextRefusal, TooLong, NoText, FailedCheck, LargeGame, word_ending, verdict_code, accepted_ending, text_of_task, budget_of, cells_of, is_refusal, IsDefinedEnding, OpenEnds}
use Rattle.asp_defs.specs.Words.{Tuning, Task, SolveTask, task_of_words}
use Rattle.asp_defs.proofs.Endings.{endings_agree, refusals_are_alone, one_program}
use Rattle.asp_defs.proofs.Lists.{both}
use Rattle.asp_defs.proofs.TextRefutations.{clash}
use Rattle.asp_top.specs.declared.status.Ended.{Ended}
use Rattle.asp_top.specs.declared.status.Status.{Status}
use Rattle.asp_top.specs.declared.status.Status.TheVariants.{Coherent, Incoherent, Unknown, Done, Words, Text, Read, Write, Memory}
use Rattle.asp_top.specs.Answers.{ending_of, IsServed, IsUnserved, IsAnswer}
use Rattle.asp_top.specs.Commands.{served_task}
use Rattle.asp_top.specs.Statuses.{code_of}
use Rattle.asp_top.specs.Laws.{RefusalsAreUnique, DoneIsUnique, OneStatus, OneOutput, IsEnough, EnoughSettles}
use Rattle.asp_top.proofs.Reading.{no_log}

-- ---- statuses are told apart by their codes

abbrev status_at : ℕ → Status
status_at code =
    if code == 10 then Coherent
    else if code == 20 then Incoherent
    else if code == 30 then Unknown
    else if code == 0 then Done
    else if code == 2 then Words
    else if code == 3 then Text
    else if code == 4 then Read
    else if code == 5 then Write
    else Memory

read_back : (status : Status) → status ≡ status_at (code_of status)
read_back Coherent = refl
read_back Incoherent = refl
read_back Unknown = refl
read_back Done = refl
read_back Words = refl
read_back Text = refl
read_back Read = refl
read_back Write = refl
read_back Memory = refl

one_status : (status other : Status) → code_of status ≡ code_of other → status ≡ other
one_status status other same = read_back status ∙ (ap status_at same ∙ sym (read_back other))

closed : (status : Status) → status ≢ Unknown → code_of status ≢ 30
closed status settled = λ e. settled (one_status status Unknown e)

-- ---- one answer

one_place : (words : List (List ℕ)) (place other : ℕ) → served_task words ≡ Err place → served_task words ≡ Err other → place ≡ other
one_place words place other first second = let both_are : Err place ≡ Err other = sym first ∙ second in cc

-- a word that is served isn't unread
not_unread : {A : Type 0} (words : List (List ℕ)) (e : Ending) → IsServed words → IsUnserved words e → A
not_unread words e served un = absurd (un.differs (served ∙ un.unread))

one_unread : (words : List (List ℕ)) (e f : Ending) → IsUnserved words e → IsUnserved words f → e ≡ f
one_unread words e f un too =
    un.refused ∙ (ap word_ending (one_place words un.place too.place un.unread too.unread) ∙ sym too.refused)

module _ (words : List (List ℕ)) (bytes : List ℕ) (ended other : Ended) (output text : List ℕ) where
  one_ending : IsAnswer words bytes ended output → IsAnswer words bytes other text → code_of ended.status ≢ 30
      → code_of other.status ≢ 30 → ending_of ended output ≡ ending_of other text
  one_ending (inl (served, first)) (inl (again, second)) a b =
      (endings_agree words bytes (ending_of ended output) (ending_of other text) first second a b).1 (no_log words served)
  one_ending (inl (served, first)) (inr un) a b = not_unread words (ending_of other text) served un
  one_ending (inr un) (inl (served, second)) a b = not_unread words (ending_of ended output) served un
  one_ending (inr un) (inr too) a b = one_unread words (ending_of ended output) (ending_of other text) un too

  alone : IsAnswer words bytes ended output → IsAnswer words bytes other text → is_refusal (code_of ended.status) ≡ true
      → ending_of ended output ≡ ending_of other text
  alone (inl (served, first)) (inl (again, second)) refuses =
      refusals_are_alone words bytes (ending_of ended output) (ending_of other text) first second refuses
  alone (inl (served, first)) (inr un) refuses = not_unread words (ending_of other text) served un
  alone (inr un) (inl (served, second)) refuses = not_unread words (ending_of ended output) served un
  alone (inr un) (inr too) refuses = one_unread words (ending_of ended output) (ending_of other text) un too

  same_status : ending_of ended output ≡ ending_of other text → ended.status ≡ other.status
  same_status same = one_status ended.status other.status (ap (λ (e : Ending). e.code) same)

  same_output : ending_of ended output ≡ ending_of other text → output ≡ text
  same_output same = ap (λ (e : Ending). e.output) same

pub refusals_are_unique : RefusalsAreUnique
refusals_are_unique words bytes ended other output text first second refuses =
    let same = alone words bytes ended other output text first second refuses in
    (same_status words bytes ended other output text same, same_output words bytes ended other output text same)

done_closed : (status : Status) → status ≡ Done → code_of status ≢ 30
done_closed status done = λ e. clash (ap (λ n. n == 30) (sym (ap code_of done) ∙ e))

pub done_is_unique : DoneIsUnique
done_is_unique words bytes ended other output text first second done too =
    same_output words bytes ended other output text
    (one_ending words bytes ended other output text first second (done_closed ended.status done) (done_closed other.status too))

pub statuses_agree : OneStatus
statuses_agree words bytes ended other output text first second settled too =
    same_status words bytes ended other output text
    (one_ending words bytes ended other output text first second (closed ended.status settled) (closed other.status too))

pub outputs_agree : OneOutput
outputs_agree words bytes ended other output text first second settled too unlogged =
    same_output words bytes ended other output text
    (one_ending words bytes ended other output text first second (closed ended.status settled) (closed other.status too))

-- ---- enough of budget and cells

not_both : (a b : ℕ) → a < b → b ≤ a → ⊥
not_both a b less most = omega (arith, less, most)

module _ (g : Game) (tuning : Tuning) (enough : IsEnough g tuning) where
  no_search : (level number : ℕ)
      → ((nat_le 1 level && nat_le level (level_count g)) && ((number == tuning.budget) && nat_lt tuning.budget (enough_placements g level))) ≡ true
      → ⊥
  no_search level number h =
      let parts = both (nat_le 1 level && nat_le level (level_count g)) ((number == tuning.budget) && nat_lt tuning.budget (enough_placements g level)) h in
      let levels = both (nat_le 1 level) (nat_le level (level_count g)) parts.0 in
      let numbers = both (number == tuning.budget) (nat_lt tuning.budget (enough_placements g level)) parts.1 in
      not_both tuning.budget (enough_placements g level) (ltb-true tuning.budget (enough_placements g level) numbers.1)
      (enough.budget level (leb-true 1 level levels.0) (leb-true level (level_count g) levels.1))

  no_store : (level number : ℕ)
      → ((nat_le 1 level && nat_le level (level_count g + 1)) && ((number == tuning.cells) && nat_lt tuning.cells (enough_cells g))) ≡ true
      → ⊥
  no_store level number h =
      let parts = both (nat_le 1 level && nat_le level (level_count g + 1)) ((number == tuning.cells) && nat_lt tuning.cells (enough_cells g)) h in
      let numbers = both (number == tuning.cells) (nat_lt tuning.cells (enough_cells g)) parts.1 in
      not_both tuning.cells (enough_cells g) (ltb-true tuning.cells (enough_cells g) numbers.1) enough.cells

  impossible : (k : Kind) (level number : ℕ) → possible_kind g tuning.budget tuning.cells k level number ≡ true → ⊥
  impossible kind.Search level number h = no_search level number h
  impossible kind.Minimal level number h = no_search level number h
  impossible kind.Store level number h = no_store level number h

verdict_closed : (verdict : Bool) → verdict_code verdict ≢ 30
verdict_closed true = λ e. clash (ap (λ n. n == 30) e)
verdict_closed false = λ e. clash (ap (λ n. n == 30) e)

refused_code : (bytes : List ℕ) (e : Ending) → TextRefusal bytes e → e.code ≡ 3
refused_code bytes e (TooLong long is) = ap (λ (e : Ending). e.code) is
refused_code bytes e (NoText fault short refused is) = ap (λ (e : Ending). e.code) is
refused_code bytes e (FailedCheck p why short text fails is) = ap (λ (e : Ending). e.code) is
refused_code bytes e (LargeGame p which count short text passes large is) = ap (λ (e : Ending). e.code) is

module _ (words : List (List ℕ)) (bytes : List ℕ) (tuning : Tuning) (log : Bool) (p : Program)
    (asked : task_of_words words ≡ Ok (SolveTask tuning log)) (text : IsAccepted bytes p) (enough : IsEnough (game_of p) tuning) where
  same_task : (task : Task) → task_of_words words ≡ Ok task → task ≡ SolveTask tuning log
  same_task task read = let both_are : Ok task ≡ Ok (SolveTask tuning log) = sym read ∙ asked in cc

  not_open : (e : Ending) → OpenEnds words bytes e → ⊥
  not_open e o =
      let same : o.task ≡ SolveTask tuning log = same_task o.task o.asked in
      let read : IsAccepted bytes o.program = subst (λ (t : Task). IsAccepted (text_of_task t bytes) o.program) same o.accepted in
      let possible : is_possible (game_of o.program) tuning.budget tuning.cells o.unknown ≡ true =
      subst (λ (t : Task). is_possible (game_of o.program) (budget_of t) (cells_of t) o.unknown ≡ true) same o.possible in
      impossible (game_of p) tuning enough o.unknown.kind o.unknown.level o.unknown.budget
      (subst (λ (q : Program). is_possible (game_of q) tuning.budget tuning.cells o.unknown ≡ true) (one_program bytes o.program p read text) possible)

  settles : (e : Ending) → IsDefinedEnding words bytes e → e.code ≢ 30
  settles e (inl (inl (number, refused, is), logged)) =
      let both_are : Err number ≡ Ok (SolveTask tuning log) = sym refused ∙ asked in absurd (cc)
  settles e (inl (inr (task, read, inl refused), logged)) =
      λ code. clash (ap (λ n. n == 30) (sym (refused_code (text_of_task task bytes) e refused) ∙ code))
  settles e (inl (inr (task, read, inr (q, accepted, is)), logged)) =
      λ code.
      let said : e ≡ accepted_ending (SolveTask tuning log) q = subst (λ (t : Task). e ≡ accepted_ending t q) (same_task task read) is in
      verdict_closed (is_coherent (game_of q)) (sym (ap (λ (e : Ending). e.code) said) ∙ code)
  settles e (inr (inl logged)) = λ code. verdict_closed (is_coherent (game_of logged.program)) (sym logged.code ∙ code)
  settles e (inr (inr o)) = λ code. not_open e o

pub enough_settles : EnoughSettles
enough_settles words bytes ended output tuning log p (inl (served, defined)) asked text enough =
    λ open_status. settles words bytes tuning log p asked text enough (ending_of ended output) defined (ap code_of open_status)
enough_settles words bytes ended output tuning log p (inr un) asked text enough =
    λ open_status. clash (ap (λ n. n == 30) (sym (ap (λ (e : Ending). e.code) un.refused) ∙ ap code_of open_status))
