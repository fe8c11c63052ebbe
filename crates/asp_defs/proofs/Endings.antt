-- The defined endings of the same words and bytes: one exit code but for open answers, one ending where no log is asked for, and a
-- refusal alone.
use Rattle.std.proofs.Common.{◌≡◌, ◌≢◌, ◌<◌, ◌≤◌, ℕ, Bool, true, false, List, [], ◌∷◌, length, refl, sym, ap, ◌∙◌, subst, inl, inr, arith}
use Rattle.std.specs.Prelude.{Option, Some, None, is_none, Result, Ok, Err, IsTrue}
use Rattle.asp_defs.specs.declared.faults.Which.{Which}
use Rattle.asp_defs.specs.declared.faults.Which.TheVariants.{Bytes}
use Rattle.asp_defs.specs.Limits.{limit}
use Rattle.asp_defs.specs.declared.syntax.Program.{Program}
use Rattle.asp_defs.specs.declared.syntax.Quant.{Quant}
use Rattle.asp_defs.specs.declared.syntax.Quant.TheVariants.{Exists, Forall}
use Rattle.asp_defs.specs.declared.ground.Game.{Game}
use Rattle.asp_defs.specs.Checks.{check_refusal}
use Rattle.asp_defs.specs.Grammar.{IsText}
use Rattle.asp_defs.specs.Sizes.{IsAccepted, game_too_large}
use Rattle.asp_defs.specs.Games.{game_of}
use Rattle.asp_defs.specs.Values.{is_coherent}
use Rattle.asp_defs.specs.Pages.{Page, page_of}
use Rattle.asp_defs.specs.Words.{Task, SolveTask, ListTask, CheckTask, DemoTask, task_of_words}
use Rattle.asp_defs.specs.Runs.{Ending, TextRefusal, word_ending, refusal, TooLong, NoText, FailedCheck, LargeGame, first_quant, start_of, page_code, page_ending, verdict_code, accepted_ending, text_of_task, asked_page, is_refusal, wants_log, IsDefinedEnding}
use Rattle.asp_defs.specs.Lines.{text_fault_line, too_large_line, check_refusal_line, universal_first_line, after_refused_line}
use Rattle.asp_defs.proofs.TextRefutations.{clash}
use Rattle.asp_defs.proofs.TextsApart.{texts_are_unambiguous, texts_are_not_refused, refusals_are_unique}
use Rattle.asp_defs.specs.RunLaws.{EndingsAgree, RefusalsAreAlone}

-- ---- one program, and one refusal

pub one_program : (bytes : List ℕ) (p q : Program) → IsAccepted bytes p → IsAccepted bytes q → p ≡ q
one_program bytes p q first second = texts_are_unambiguous bytes p q first.text second.text

-- what is said of one program of a text is said of the other
same_refusal : (bytes : List ℕ) (p q : Program) → IsText bytes p → IsText bytes q → check_refusal p ≡ check_refusal q
same_refusal bytes p q first second = ap check_refusal (texts_are_unambiguous bytes p q first second)

same_size : (bytes : List ℕ) (p q : Program) → IsText bytes p → IsText bytes q → game_too_large p ≡ game_too_large q
same_size bytes p q first second = ap game_too_large (texts_are_unambiguous bytes p q first second)

-- an accepted program isn't refused
not_some : {A : Type 0} (o : Option A) (x : A) → IsTrue (is_none o) → o ≡ Some x → ⊥
not_some o x none some = clash (sym (ap is_none some) ∙ none)

pub not_both : (bytes : List ℕ) (e : Ending) (p : Program) → TextRefusal bytes e → IsAccepted bytes p → ⊥
not_both bytes e p (TooLong long is) text =
    let past : limit Bytes < length bytes = long in
    let short : length bytes ≤ limit Bytes = text.short in
    omega arith
not_both bytes e p (NoText fault short refused is) text = texts_are_not_refused bytes p fault text.text refused
not_both bytes e p (FailedCheck q why short read fails is) text =
    not_some (check_refusal p) why text.checked (same_refusal bytes p q text.text read ∙ fails)
not_both bytes e p (LargeGame q which count short read passes large is) text =
    not_some (game_too_large p) (which, count) text.small (same_size bytes p q text.text read ∙ large)

one_content : {A : Type 0} (x y : A) → Some x ≡ Some y → x ≡ y
one_content x y e = cc

some_or_none : {A B : Type 0} (o : Option A) (x : A) → o ≡ Some x → o ≡ None → B
some_or_none o x some none = clash (sym (ap is_none some) ∙ ap is_none none)

abbrev past_line : Which × ℕ → List ℕ
past_line found = too_large_line found.0 found.1

one_ending : (bytes : List ℕ) (e f : Ending) → TextRefusal bytes e → TextRefusal bytes f → e ≡ f
one_ending bytes e f (TooLong long is) (TooLong other also) = is ∙ sym also
one_ending bytes e f (TooLong long is) (NoText fault short refused also) = absurd (short long)
one_ending bytes e f (TooLong long is) (FailedCheck p why short read fails also) = absurd (short long)
one_ending bytes e f (TooLong long is) (LargeGame p which count short read passes large also) = absurd (short long)
one_ending bytes e f (NoText fault short refused is) (TooLong long also) = absurd (short long)
one_ending bytes e f (NoText fault short refused is) (NoText other shorter too also) =
    is ∙ (ap (λ x. refusal (text_fault_line x)) (refusals_are_unique bytes fault other refused too) ∙ sym also)
one_ending bytes e f (NoText fault short refused is) (FailedCheck p why shorter read fails also) =
    absurd (texts_are_not_refused bytes p fault read refused)
one_ending bytes e f (NoText fault short refused is) (LargeGame p which count shorter read passes large also) =
    absurd (texts_are_not_refused bytes p fault read refused)
one_ending bytes e f (FailedCheck p why short read fails is) (TooLong long also) = absurd (short long)
one_ending bytes e f (FailedCheck p why short read fails is) (NoText fault shorter refused also) =
    absurd (texts_are_not_refused bytes p fault read refused)
one_ending bytes e f (FailedCheck p why short read fails is) (FailedCheck q other shorter second failing also) =
    let same = one_content why other (sym fails ∙ (same_refusal bytes p q read second ∙ failing)) in
    is ∙ (ap (λ x. refusal (check_refusal_line x)) same ∙ sym also)
one_ending bytes e f (FailedCheck p why short read fails is) (LargeGame q which count shorter second passes large also) =
    some_or_none (check_refusal p) why fails (same_refusal bytes p q read second ∙ passes)
one_ending bytes e f (LargeGame p which count short read passes large is) (TooLong long also) = absurd (short long)
one_ending bytes e f (LargeGame p which count short read passes large is) (NoText fault shorter refused also) =
    absurd (texts_are_not_refused bytes p fault read refused)
one_ending bytes e f (LargeGame p which count short read passes large is) (FailedCheck q why shorter second fails also) =
    some_or_none (check_refusal q) why fails (same_refusal bytes q p second read ∙ passes)
one_ending bytes e f (LargeGame p which count short read passes large is) (LargeGame q other more shorter second passing larger also) =
    let same = one_content (which, count) (other, more) (sym large ∙ (same_size bytes p q read second ∙ larger)) in
    is ∙ (ap (λ found. refusal (past_line found)) same ∙ sym also)

-- ---- the kinds of endings

data Kind (words : List (List ℕ)) (bytes : List ℕ) (e : Ending) : Type 0 where
  WordKind : (place : ℕ) → task_of_words words ≡ Err place → e ≡ word_ending place → Kind words bytes e
  TextKind : (task : Task) → task_of_words words ≡ Ok task → TextRefusal (text_of_task task bytes) e → Kind words bytes e
  PlainKind : (task : Task) (p : Program) → task_of_words words ≡ Ok task → IsAccepted (text_of_task task bytes) p
      → e ≡ accepted_ending task p → Kind words bytes e
  LogKind : (task : Task) (p : Program) → task_of_words words ≡ Ok task → wants_log words ≡ true
      → IsAccepted (text_of_task task bytes) p → e.code ≡ verdict_code (is_coherent (game_of p))
      → (accepted_ending task p).code ≡ verdict_code (is_coherent (game_of p)) → Kind words bytes e
  OpenKind : (task : Task) (p : Program) (page : Page) → task_of_words words ≡ Ok task → IsAccepted (text_of_task task bytes) p
      → asked_page task (game_of p) ≡ Some page → e.code ≡ 30 → Kind words bytes e

-- whether a task asks for the log
abbrev pub log_of : Result Task ℕ → Bool
log_of asked = elim asked [
  | Ok (SolveTask tuning log) ↦ log
  | Ok (ListTask tuning count word) ↦ false
  | Ok CheckTask ↦ false
  | Ok (DemoTask n) ↦ false
  | Err number ↦ false
]

pub log_as : (words : List (List ℕ)) (asked : Result Task ℕ) → task_of_words words ≡ asked → wants_log words ≡ log_of asked
log_as words asked h = ap log_of h

kind : (words : List (List ℕ)) (bytes : List ℕ) (e : Ending) → IsDefinedEnding words bytes e → Kind words bytes e
kind words bytes e (inl (inl (place, refused, is), logged)) = WordKind place refused is
kind words bytes e (inl (inr (task, read, inl refused), logged)) = TextKind task read refused
kind words bytes e (inl (inr (task, read, inr (p, text, is)), logged)) = PlainKind task p read text is
kind words bytes e (inr (inl h)) =
    LogKind (SolveTask h.tuning true) h.program h.asked (log_as words (Ok (SolveTask h.tuning true)) h.asked) h.accepted h.code refl
kind words bytes e (inr (inr h)) = OpenKind h.task h.program h.page h.asked h.accepted h.wanted h.code

-- words are refused at one place or ask for one task
unread : {A : Type 0} (words : List (List ℕ)) (place : ℕ) (task : Task) → task_of_words words ≡ Err place → task_of_words words ≡ Ok task → A
unread words place task refused read = let both : Err place ≡ Ok task = sym refused ∙ read in absurd (cc)

one_place : (words : List (List ℕ)) (place other : ℕ) → task_of_words words ≡ Err place → task_of_words words ≡ Err other → place ≡ other
one_place words place other first second = let both : Err place ≡ Err other = sym first ∙ second in cc

one_task : (words : List (List ℕ)) (task other : Task) → task_of_words words ≡ Ok task → task_of_words words ≡ Ok other → task ≡ other
one_task words task other first second = let both : Ok task ≡ Ok other = sym first ∙ second in cc

-- a page that is asked for is no refusal
page_plain : (from_start : Bool) (sets : List (List ℕ)) → is_refusal (page_code from_start sets) ≡ false
page_plain from_start (I ∷ sets) = refl
page_plain true [] = refl
page_plain false [] = refl

verdict_plain : (verdict : Bool) → is_refusal (verdict_code verdict) ≡ false
verdict_plain true = refl
verdict_plain false = refl

-- the page that `list` is asked for, and how it ends, by the first level and the set that it begins after
abbrev listed_page : Game → ℕ → Quant → Option (Option (List ℕ)) → Option Page
listed_page g count q start = elim q [
  | Forall ↦ None
  | Exists ↦ elim start [ None ↦ None | Some after ↦ Some (page_of g after count) ]
]

abbrev listed_ending : Game → ℕ → Quant → Option (Option (List ℕ)) → Ending
listed_ending g count q start = elim q [
  | Forall ↦ refusal universal_first_line
  | Exists ↦ elim start [ None ↦ refusal after_refused_line | Some after ↦ page_ending g after count ]
]

listed_plain : (g : Game) (count : ℕ) (page : Page) (q : Quant) (start : Option (Option (List ℕ))) → listed_page g count q start ≡ Some page
    → is_refusal (listed_ending g count q start).code ≡ false
listed_plain g count page Forall start h = absurd (cc)
listed_plain g count page Exists None h = absurd (cc)
listed_plain g count page Exists (Some after) h = page_plain (is_none after) (page_of g after count).sets

asked_plain : (task : Task) (p : Program) (page : Page) → asked_page task (game_of p) ≡ Some page → is_refusal (accepted_ending task p).code ≡ false
asked_plain (SolveTask tuning log) p page h = verdict_plain (is_coherent (game_of p))
asked_plain (ListTask tuning count word) p page h = listed_plain (game_of p) count page (first_quant (game_of p)) (start_of (game_of p) word) h
asked_plain CheckTask p page h = refl
asked_plain (DemoTask n) p page h = page_plain true (page_of (game_of p) None 1).sets

-- ---- two endings

module _ (words : List (List ℕ)) (bytes : List ℕ) where
  -- refusals of a text and accepted texts, where the words are read twice
  refused_twice : (e f : Ending) (task other : Task) → task_of_words words ≡ Ok task → task_of_words words ≡ Ok other
      → TextRefusal (text_of_task task bytes) e → TextRefusal (text_of_task other bytes) f → e ≡ f
  refused_twice e f task other read again first second =
      one_ending (text_of_task other bytes) e f
      (subst (λ (t : Task). TextRefusal (text_of_task t bytes) e) (one_task words task other read again) first) second

  refused_accepted : {A : Type 0} (e : Ending) (p : Program) (task other : Task) → task_of_words words ≡ Ok task → task_of_words words ≡ Ok other
      → TextRefusal (text_of_task task bytes) e → IsAccepted (text_of_task other bytes) p → A
  refused_accepted e p task other read again refused text =
      absurd (not_both (text_of_task other bytes) e p
      (subst (λ (t : Task). TextRefusal (text_of_task t bytes) e) (one_task words task other read again) refused) text)

  accepted_twice : (p q : Program) (task other : Task) → task_of_words words ≡ Ok task → task_of_words words ≡ Ok other
      → IsAccepted (text_of_task task bytes) p → IsAccepted (text_of_task other bytes) q → p ≡ q
  accepted_twice p q task other read again first second =
      one_program (text_of_task other bytes) p q
      (subst (λ (t : Task). IsAccepted (text_of_task t bytes) p) (one_task words task other read again) first) second

  plain_twice : (p q : Program) (task other : Task) → task_of_words words ≡ Ok task → task_of_words words ≡ Ok other
      → IsAccepted (text_of_task task bytes) p → IsAccepted (text_of_task other bytes) q → accepted_ending task p ≡ accepted_ending other q
  plain_twice p q task other read again first second =
      ap (λ (t : Task). accepted_ending t p) (one_task words task other read again)
      ∙ ap (accepted_ending other) (accepted_twice p q task other read again first second)

  -- the one ending, where neither is open nor has a log
  abbrev Agreeing : Ending → Ending → Type 0
  Agreeing e f = (e.code ≡ f.code) × (wants_log words ≡ false → e ≡ f)

  whole : (e f : Ending) → e ≡ f → Agreeing e f
  whole e f same = (ap (λ (x : Ending). x.code) same, λ none. same)

  unlogged : (e f : Ending) → wants_log words ≡ true → e.code ≡ f.code → Agreeing e f
  unlogged e f logged same = (same, λ none. clash (sym none ∙ logged))

  agree : (e f : Ending) → Kind words bytes e → Kind words bytes f → e.code ≢ 30 → f.code ≢ 30 → Agreeing e f
  agree e f (OpenKind task p page read text wanted code) k a b = absurd (a code)
  agree e f k (OpenKind task p page read text wanted code) a b = absurd (b code)
  agree e f (WordKind place read is) (WordKind other again also) a b =
      whole e f (is ∙ (ap word_ending (one_place words place other read again) ∙ sym also))
  agree e f (WordKind place read is) (TextKind task again refused) a b = unread words place task read again
  agree e f (WordKind place read is) (PlainKind task p again text also) a b = unread words place task read again
  agree e f (WordKind place read is) (LogKind task p again logged text also code) a b = unread words place task read again
  agree e f (TextKind task read refused) (WordKind place again also) a b = unread words place task again read
  agree e f (TextKind task read refused) (TextKind other again too) a b = whole e f (refused_twice e f task other read again refused too)
  agree e f (TextKind task read refused) (PlainKind other p again text also) a b = refused_accepted e p task other read again refused text
  agree e f (TextKind task read refused) (LogKind other p again logged text also code) a b = refused_accepted e p task other read again refused text
  agree e f (PlainKind task p read text is) (WordKind place again also) a b = unread words place task again read
  agree e f (PlainKind task p read text is) (TextKind other again refused) a b = refused_accepted f p other task again read refused text
  agree e f (PlainKind task p read text is) (PlainKind other q again second also) a b =
      whole e f (is ∙ (plain_twice p q task other read again text second ∙ sym also))
  agree e f (PlainKind task p read text is) (LogKind other q again logged second also code) a b =
      unlogged e f logged
      (ap (λ (x : Ending). x.code) (is ∙ plain_twice p q task other read again text second) ∙ (code ∙ sym also))
  agree e f (LogKind task p read logged text is code) (WordKind place again also) a b = unread words place task again read
  agree e f (LogKind task p read logged text is code) (TextKind other again refused) a b = refused_accepted f p other task again read refused text
  agree e f (LogKind task p read logged text is code) (PlainKind other q again second also) a b =
      unlogged e f logged
      (is ∙ (sym code ∙ ap (λ (x : Ending). x.code) (plain_twice p q task other read again text second ∙ sym also)))
  agree e f (LogKind task p read logged text is code) (LogKind other q again too second also same) a b =
      unlogged e f logged
      (is ∙ (ap (λ (r : Program). verdict_code (is_coherent (game_of r))) (accepted_twice p q task other read again text second) ∙ sym also))

  -- a refusal isn't an ending of another kind
  no_refusal : {A : Type 0} (e : Ending) (code : ℕ) → is_refusal e.code ≡ true → e.code ≡ code → is_refusal code ≡ false → A
  no_refusal e code refuses is plain = clash (sym (ap is_refusal is ∙ plain) ∙ refuses)

  refusal_alone : (e f : Ending) → Kind words bytes e → Kind words bytes f → is_refusal e.code ≡ true → e ≡ f
  refusal_alone e f (LogKind task p read logged text is code) k r = no_refusal e (verdict_code (is_coherent (game_of p))) r is (verdict_plain (is_coherent (game_of p)))
  refusal_alone e f (OpenKind task p page read text wanted code) k r = no_refusal e 30 r code refl
  refusal_alone e f (WordKind place read is) (WordKind other again also) r = is ∙ (ap word_ending (one_place words place other read again) ∙ sym also)
  refusal_alone e f (WordKind place read is) (TextKind task again refused) r = unread words place task read again
  refusal_alone e f (WordKind place read is) (PlainKind task p again text also) r = unread words place task read again
  refusal_alone e f (WordKind place read is) (LogKind task p again logged text also code) r = unread words place task read again
  refusal_alone e f (WordKind place read is) (OpenKind task p page again text wanted code) r = unread words place task read again
  refusal_alone e f (TextKind task read refused) (WordKind place again also) r = unread words place task again read
  refusal_alone e f (TextKind task read refused) (TextKind other again too) r = refused_twice e f task other read again refused too
  refusal_alone e f (TextKind task read refused) (PlainKind other p again text also) r = refused_accepted e p task other read again refused text
  refusal_alone e f (TextKind task read refused) (LogKind other p again logged text also code) r = refused_accepted e p task other read again refused text
  refusal_alone e f (TextKind task read refused) (OpenKind other p page again text wanted code) r = refused_accepted e p task other read again refused text
  refusal_alone e f (PlainKind task p read text is) (WordKind place again also) r = unread words place task again read
  refusal_alone e f (PlainKind task p read text is) (TextKind other again refused) r = refused_accepted f p other task again read refused text
  refusal_alone e f (PlainKind task p read text is) (PlainKind other q again second also) r = is ∙ (plain_twice p q task other read again text second ∙ sym also)
  refusal_alone e f (PlainKind task p read text is) (LogKind other q again logged second also code) r =
      no_refusal e (verdict_code (is_coherent (game_of q))) r
      (ap (λ (x : Ending). x.code) (is ∙ plain_twice p q task other read again text second) ∙ code) (verdict_plain (is_coherent (game_of q)))
  refusal_alone e f (PlainKind task p read text is) (OpenKind other q page again second wanted code) r =
      no_refusal e (accepted_ending other q).code r
      (ap (λ (x : Ending). x.code) (is ∙ plain_twice p q task other read again text second)) (asked_plain other q page wanted)

pub endings_agree : EndingsAgree
endings_agree words bytes e f first second = agree words bytes e f (kind words bytes e first) (kind words bytes f second)

pub refusals_are_alone : RefusalsAreAlone
refusals_are_alone words bytes e f first second = refusal_alone words bytes e f (kind words bytes e first) (kind words bytes f second)
