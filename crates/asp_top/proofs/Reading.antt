-- The words that are served today ask for the tasks that the definition of words has for them, and never for a log; and where
-- the definition refuses a word, that one or one before it is refused.
use Rattle.std.proofs.Common.{◌≡◌, ◌⊎◌, ◌≤◌, ℕ, Bool, true, false, List, [], ◌∷◌, codes, bytes_eq, refl, sym, ap, ◌∙◌, subst, inl, inr, arith}
use Rattle.std.specs.Prelude.{Result, Ok, Err, None, if◌then◌else◌}
use Rattle.std.proofs.lemmas.Slice.Eq.{bytes_eq-Decides}
use Rattle.asp_defs.specs.Words.{Setting, Task, SolveTask, ListTask, CheckTask, DemoTask, solve_options, settings_from, solve_task, task_of_settings, check_task, task_of_words}
use Rattle.asp_defs.specs.Runs.{wants_log}
use Rattle.asp_defs.proofs.Endings.{log_of, log_as}
use Rattle.asp_defs.proofs.TextRefutations.{clash}
use Rattle.asp_defs.proofs.WordLaws.{task_by, near_by}
use Rattle.asp_top.specs.Commands.{served_options, served_task}
use Rattle.asp_top.specs.Laws.{WordsAgree}
use Rattle.asp_top.proofs.Steps.{Settings}
use Rattle.asp_top.proofs.Wider.{Wider, wider_from, quiet_from}

-- the task of words behind a command's word that is served, by which command it is
abbrev served_as : Bool → Bool → List (List ℕ) → Result Task ℕ
served_as solve check words =
    if solve then task_of_settings solve_task (settings_from served_options 2 [] None words)
    else if check then check_task words
    else Err 1

-- ---- what is served

of_settings : (read : Settings) (place : ℕ) → task_of_settings solve_task read ≡ Err place → read ≡ Err place
of_settings (Ok settings) place h = let both : Ok (solve_task settings) ≡ Err place = h in absurd (cc)
of_settings (Err number) place h = let both : Err number ≡ Err place = h in let same : number ≡ place = cc in ap (λ (n : ℕ). Err n) same

no_task : (task : Task) (place : ℕ) → Err place ≡ Ok task → ⊥
no_task task place h = cc

module _ (words : List (List ℕ)) (task : Task) where
  served_settings : Wider 2 (settings_from served_options 2 [] None words) (settings_from solve_options 2 [] None words)
      → task_of_settings solve_task (settings_from served_options 2 [] None words) ≡ Ok task
      → task_of_settings solve_task (settings_from solve_options 2 [] None words) ≡ Ok task
  served_settings (inl same) h = ap (task_of_settings solve_task) same ∙ h
  served_settings (inr (first, is, least, most)) h = absurd (no_task task first (sym (ap (task_of_settings solve_task) is) ∙ h))

  -- a word isn't the name of two commands
  served_by : (solve list check demo : Bool) → (check ≡ true → list ≡ false) → served_as solve check words ≡ Ok task
      → task_by solve list check demo words ≡ Ok task
  served_by true list check demo apart h = served_settings (wider_from 2 [] None words) h
  served_by false true true demo apart h = clash (sym (apart refl))
  served_by false false true demo apart h = h
  served_by false list false demo apart h = absurd (no_task task 1 h)

apart_from : (word : List ℕ) → bytes_eq word (codes "check") ≡ true → bytes_eq word (codes "list") ≡ false
apart_from word same = ap (λ w. bytes_eq w (codes "list")) ((bytes_eq-Decides word (codes "check")).0 same)

pub task_asked : (words : List (List ℕ)) (task : Task) → served_task words ≡ Ok task → task_of_words words ≡ Ok task
task_asked [] task h = absurd (no_task task 1 h)
task_asked (word ∷ words) task h =
    served_by words task (bytes_eq word (codes "solve")) (bytes_eq word (codes "list")) (bytes_eq word (codes "check"))
    (bytes_eq word (codes "demo")) (apart_from word) h

-- what is served is what the definition has
pub read_served : (words : List (List ℕ)) (task : Task) → served_task words ≡ Ok task → task_of_words words ≡ served_task words
read_served words task h = task_asked words task h ∙ sym h

-- ---- the tasks that are served: `solve` without a log, and `check`

abbrev pub IsServedTask : Task → Type 0
IsServedTask (SolveTask tuning log) = log ≡ false
IsServedTask (ListTask tuning count word) = ⊥
IsServedTask CheckTask = Unit {0}
IsServedTask (DemoTask n) = ⊥

module _ (words : List (List ℕ)) (task : Task) where
  plain_settings : (read : Settings) → settings_from served_options 2 [] None words ≡ read → task_of_settings solve_task read ≡ Ok task
      → IsServedTask task
  plain_settings (Ok settings) is h =
      let both_are : Ok (solve_task settings) ≡ Ok task = h in
      let same : solve_task settings ≡ task = cc in
      subst (λ (t : Task). IsServedTask t) same (quiet_from 2 [] None words refl tt settings is)
  plain_settings (Err place) is h = absurd (no_task task place h)

plain_check : (words : List (List ℕ)) (task : Task) → check_task words ≡ Ok task → IsServedTask task
plain_check [] task h = let both_are : Ok CheckTask ≡ Ok task = h in let same : CheckTask ≡ task = cc in subst (λ (t : Task). IsServedTask t) same tt
plain_check (word ∷ words) task h = absurd (no_task task 2 h)

plain_by : (solve check : Bool) (words : List (List ℕ)) (task : Task) → served_as solve check words ≡ Ok task → IsServedTask task
plain_by true check words task h = plain_settings words task (settings_from served_options 2 [] None words) refl h
plain_by false true words task h = plain_check words task h
plain_by false false words task h = absurd (no_task task 1 h)

pub served_plain : (words : List (List ℕ)) (task : Task) → served_task words ≡ Ok task → IsServedTask task
served_plain [] task h = absurd (no_task task 1 h)
served_plain (word ∷ words) task h = plain_by (bytes_eq word (codes "solve")) (bytes_eq word (codes "check")) words task h

no_log_of : (words : List (List ℕ)) (read : Result Task ℕ) → served_task words ≡ read → log_of read ≡ false
no_log_of words (Ok (SolveTask tuning log)) h = served_plain words (SolveTask tuning log) h
no_log_of words (Ok (ListTask tuning count word)) h = refl
no_log_of words (Ok CheckTask) h = refl
no_log_of words (Ok (DemoTask n)) h = refl
no_log_of words (Err place) h = refl

pub no_log : (words : List (List ℕ)) → task_of_words words ≡ served_task words → wants_log words ≡ false
no_log words h = log_as words (served_task words) h ∙ no_log_of words (served_task words) refl

-- ---- which word is refused

abbrev RefusesFirst : Result Task ℕ → ℕ → Type 0
RefusesFirst read place = (first : ℕ) × (read ≡ Err first) × (1 ≤ first) × (first ≤ place)

module _ (words : List (List ℕ)) (place : ℕ) where
  refused_settings : Wider 2 (settings_from served_options 2 [] None words) (settings_from solve_options 2 [] None words) → 1 ≤ place
      → settings_from solve_options 2 [] None words ≡ Err place
      → RefusesFirst (task_of_settings solve_task (settings_from served_options 2 [] None words)) place
  refused_settings (inl same) near h = (place, ap (task_of_settings solve_task) (sym same ∙ h), near, omega arith)
  refused_settings (inr (first, is, least, most)) near h =
      (first, ap (task_of_settings solve_task) is, omega (arith, least), most place h)

  refuses : (solve list check demo : Bool) → (check ≡ true → list ≡ false) → task_by solve list check demo words ≡ Err place
      → RefusesFirst (served_as solve check words) place
  refuses true list check demo apart h =
      refused_settings (wider_from 2 [] None words) (near_by true list check demo words place h).0 (of_settings _ place h)
  refuses false true true demo apart h = clash (sym (apart refl))
  refuses false true false demo apart h = (1, refl, omega arith, (near_by false true false demo words place h).0)
  refuses false false true demo apart h = (place, h, (near_by false false true demo words place h).0, omega arith)
  refuses false false false demo apart h = (1, refl, omega arith, (near_by false false false demo words place h).0)

refused_first : (words : List (List ℕ)) (place : ℕ) → task_of_words words ≡ Err place → RefusesFirst (served_task words) place
refused_first [] place h =
    let both : Err 1 ≡ Err place = h in let same : 1 ≡ place = cc in (1, refl, omega arith, omega (arith, same))
refused_first (word ∷ words) place h =
    refuses words place (bytes_eq word (codes "solve")) (bytes_eq word (codes "list")) (bytes_eq word (codes "check"))
    (bytes_eq word (codes "demo")) (apart_from word) h

pub words_agree : WordsAgree
words_agree = record { served = task_asked; refused = refused_first }
