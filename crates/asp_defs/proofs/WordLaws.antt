-- Which word is refused: one of the words or the missing one behind them, and no word behind an empty one.
use Rattle.std.proofs.Common.{◌≡◌, ◌≤◌, ◌+◌, ℕ, suc, Bool, true, false, List, [], ◌∷◌, ◌++◌, length, bytes_eq, codes, refl, sym, subst, arith}
use Rattle.std.specs.Prelude.{Option, Some, None, Result, Ok, Err, if◌then◌else◌}
use Rattle.asp_defs.specs.Words.{WordOption, OptionValue, Setting, WordForm, ReadForm, OpenForm, NoForm, Task, solve_options, list_options, number_within, stands, form_of, next_value, settings_from, solve_task, list_task, task_of_settings, check_task, demo_number, demo_task, task_of_words}
use Rattle.asp_defs.specs.RunLaws.{RefusedWordsAreNear, EmptyWordsAreRefused}

abbrev Settings : Type 0
Settings = Result (List Setting) ℕ

-- ---- one word of a command with options

-- what holds where a word is refused, and whatever the words behind it set, holds of it and these words
module _ (options : List WordOption) (number : ℕ) (settings : List Setting) (words : List (List ℕ)) where
  abbrev valued : WordOption → Option OptionValue → Settings
  valued o found = elim found [
    | None ↦ Err number
    | Some v ↦ settings_from options (suc number) (settings ++ record { option = o; value = v } ∷ []) None words
  ]

  abbrev opened : WordOption → Bool → Settings
  opened o again = elim again [
    | true ↦ Err number
    | false ↦ settings_from options (suc number) settings (Some o) words
  ]

  abbrev taken : Setting → Bool → Settings
  taken s again = elim again [
    | true ↦ Err number
    | false ↦ settings_from options (suc number) (settings ++ s ∷ []) None words
  ]

  abbrev formed : WordForm → Settings
  formed form = elim form [
    | NoForm ↦ Err number
    | OpenForm o ↦ opened o (stands o settings)
    | ReadForm s ↦ taken s (stands s.option settings)
  ]

  module _ (P : Settings → Type 0) (here : P (Err number))
      (behind : (more : List Setting) (waiting : Option WordOption) → P (settings_from options (suc number) more waiting words)) where
    valued_so : (o : WordOption) (found : Option OptionValue) → P (valued o found)
    valued_so o None = here
    valued_so o (Some v) = behind (settings ++ record { option = o; value = v } ∷ []) None

    opened_so : (o : WordOption) (again : Bool) → P (opened o again)
    opened_so o true = here
    opened_so o false = behind settings (Some o)

    taken_so : (s : Setting) (again : Bool) → P (taken s again)
    taken_so s true = here
    taken_so s false = behind (settings ++ s ∷ []) None

    formed_so : (form : WordForm) → P (formed form)
    formed_so NoForm = here
    formed_so (OpenForm o) = opened_so o (stands o settings)
    formed_so (ReadForm s) = taken_so s (stands s.option settings)

    word_so : (waiting : Option WordOption) (word : List ℕ) → P (settings_from options number settings waiting (word ∷ words))
    word_so None word = formed_so (form_of options word)
    word_so (Some o) word = valued_so o (next_value o word)

-- ---- the refused word is one of these, or the missing one behind them

abbrev IsNear : ℕ → ℕ → ℕ → Type 0
IsNear number count place = (number ≤ place) × (place ≤ number + count)

near_here : {A : Type 0} (r : Result A ℕ) (number count place : ℕ) → r ≡ Err number → r ≡ Err place → IsNear number count place
near_here r number count place is e = let same : number ≡ place = cc in (omega (arith, same), omega (arith, same))

near_behind : (number count place : ℕ) → IsNear (suc number) count place → IsNear number (suc count) place
near_behind number count place (least, most) = (omega (arith, least), omega (arith, most))

pub near_from : (options : List WordOption) (number : ℕ) (settings : List Setting) (waiting : Option WordOption) (words : List (List ℕ)) (place : ℕ)
    → settings_from options number settings waiting words ≡ Err place → IsNear number (length words) place
near_from options number settings None [] place h = absurd (cc)
near_from options number settings (Some o) [] place h = near_here _ number 0 place refl h
near_from options number settings waiting (word ∷ words) place h =
    word_so options number settings words (λ (r : Settings). r ≡ Err place → IsNear number (suc (length words)) place)
    (λ e. near_here _ number (suc (length words)) place refl e)
    (λ more next e. near_behind number (length words) place (near_from options (suc number) more next words place e))
    waiting word h

of_settings : (task : List Setting → Task) (r : Settings) (place : ℕ) → task_of_settings task r ≡ Err place → r ≡ Err place
of_settings task (Ok settings) place h = absurd (cc)
of_settings task (Err number) place h = cc

-- the task of words behind a command's word, by which command it is
abbrev pub task_by : Bool → Bool → Bool → Bool → List (List ℕ) → Result Task ℕ
task_by solve list check demo words =
    if solve then task_of_settings solve_task (settings_from solve_options 2 [] None words)
    else if list then task_of_settings list_task (settings_from list_options 2 [] None words)
    else if check then check_task words
    else if demo then demo_task words
    else Err 1

checked_near : (words : List (List ℕ)) (place : ℕ) → check_task words ≡ Err place → IsNear 2 (length words) place
checked_near [] place h = absurd (cc)
checked_near (word ∷ words) place h = near_here _ 2 (suc (length words)) place refl h

numbered_near : (found : Option ℕ) (words : List (List ℕ)) (place : ℕ) → demo_number found words ≡ Err place
    → IsNear 2 (suc (length words)) place
numbered_near None words place h = near_here _ 2 (suc (length words)) place refl h
numbered_near (Some n) [] place h = absurd (cc)
numbered_near (Some n) (word ∷ words) place h =
    near_behind 2 (suc (length words)) place (near_here _ 3 (suc (length words)) place refl h)

demo_near : (words : List (List ℕ)) (place : ℕ) → demo_task words ≡ Err place → IsNear 2 (length words) place
demo_near [] place h = near_here _ 2 0 place refl h
demo_near (word ∷ words) place h = numbered_near (number_within 2 200 word) words place h

-- a word behind the command's is refused only where the command is one
pub near_by : (solve list check demo : Bool) (words : List (List ℕ)) (place : ℕ) → task_by solve list check demo words ≡ Err place
    → IsNear 1 (suc (length words)) place
near_by true list check demo words place h =
    near_behind 1 (length words) place (near_from solve_options 2 [] None words place (of_settings solve_task _ place h))
near_by false true check demo words place h =
    near_behind 1 (length words) place (near_from list_options 2 [] None words place (of_settings list_task _ place h))
near_by false false true demo words place h = near_behind 1 (length words) place (checked_near words place h)
near_by false false false true words place h = near_behind 1 (length words) place (demo_near words place h)
near_by false false false false words place h = near_here _ 1 (suc (length words)) place refl h

near : (words : List (List ℕ)) (place : ℕ) → task_of_words words ≡ Err place → IsNear 1 (length words) place
near [] place h = near_here _ 1 0 place refl h
near (command ∷ words) place h =
    near_by (bytes_eq command (codes "solve")) (bytes_eq command (codes "list")) (bytes_eq command (codes "check"))
    (bytes_eq command (codes "demo")) words place h

pub refused_words_are_near : RefusedWordsAreNear
refused_words_are_near words place h =
    let both : IsNear 1 (length words) place = near words place h in
    let most : place ≤ 1 + length words = both.1 in
    (both.0, omega (arith, most))

-- ---- an empty word is refused, or a word before it

-- a word is refused, and it is none behind this one
abbrev RefusedBy : {A : Type 0} → ℕ → Result A ℕ → Type 0
RefusedBy most r = (place : ℕ) × (r ≡ Err place) × (place ≤ most)

by_here : {A : Type 0} (number count : ℕ) → RefusedBy {A = A} (number + count) (Err number)
by_here number count = (number, refl, omega arith)

by_behind : {A : Type 0} (number count : ℕ) (r : Result A ℕ) → RefusedBy (suc number + count) r → RefusedBy (number + suc count) r
by_behind number count r (place, is, most) = (place, is, omega (arith, most))

module _ (options : List WordOption) (none : form_of options [] ≡ NoForm) (rest : List (List ℕ)) where
  empty_from : (number : ℕ) (settings : List Setting) (waiting : Option WordOption) (front : List (List ℕ))
      → RefusedBy (number + length front) (settings_from options number settings waiting (front ++ [] ∷ rest))
  empty_from number settings None [] =
      subst (λ (form : WordForm). RefusedBy (number + 0) (formed options number settings rest form)) (sym none) (by_here number 0)
  empty_from number settings (Some o) [] = by_here number 0
  empty_from number settings waiting (word ∷ front) =
      word_so options number settings (front ++ [] ∷ rest) (λ (r : Settings). RefusedBy (number + suc (length front)) r)
      (by_here number (suc (length front)))
      (λ more next. by_behind number (length front) (settings_from options (suc number) more next (front ++ [] ∷ rest))
      (empty_from (suc number) more next front))
      waiting word

  empty_settings : (task : List Setting → Task) (front : List (List ℕ))
      → RefusedBy (2 + length front) (task_of_settings task (settings_from options 2 [] None (front ++ [] ∷ rest)))
  empty_settings task front =
      let refused = empty_from 2 [] None front in
      (refused.0, subst (λ (r : Settings). task_of_settings task r ≡ Err refused.0) (sym refused.1) refl, refused.2)

empty_checked : (front rest : List (List ℕ)) → RefusedBy (2 + length front) (check_task (front ++ [] ∷ rest))
empty_checked [] rest = by_here 2 0
empty_checked (word ∷ front) rest = by_here 2 (suc (length front))

empty_numbered : (found : Option ℕ) (front rest : List (List ℕ)) → RefusedBy (2 + suc (length front)) (demo_number found (front ++ [] ∷ rest))
empty_numbered None front rest = by_here 2 (suc (length front))
empty_numbered (Some n) [] rest = by_here 3 0
empty_numbered (Some n) (word ∷ front) rest = by_behind 2 (suc (length front)) (Err 3) (by_here 3 (suc (length front)))

empty_demo : (front rest : List (List ℕ)) → RefusedBy (2 + length front) (demo_task (front ++ [] ∷ rest))
empty_demo [] rest = by_here 2 0
empty_demo (word ∷ front) rest = empty_numbered (number_within 2 200 word) front rest

empty_by : (solve list check demo : Bool) (front rest : List (List ℕ)) → RefusedBy (2 + length front) (task_by solve list check demo (front ++ [] ∷ rest))
empty_by true list check demo front rest = empty_settings solve_options refl rest solve_task front
empty_by false true check demo front rest = empty_settings list_options refl rest list_task front
empty_by false false true demo front rest = empty_checked front rest
empty_by false false false true front rest = empty_demo front rest
empty_by false false false false front rest = (1, refl, omega arith)

pub empty_words_are_refused : EmptyWordsAreRefused
empty_words_are_refused [] rest = (1, refl, omega arith)
empty_words_are_refused (command ∷ front) rest =
    let refused : RefusedBy (2 + length front) (task_of_words (command ∷ front ++ [] ∷ rest)) =
    empty_by (bytes_eq command (codes "solve")) (bytes_eq command (codes "list")) (bytes_eq command (codes "check"))
    (bytes_eq command (codes "demo")) front rest
    in
    let most : refused.0 ≤ 2 + length front = refused.2 in
    (refused.0, refused.1, omega (arith, most))
