-- Options as they are read are what the definition's settings say.
use Rattle.std.proofs.Common.{◌≡◌, ◌≤◌, ◌+◌, ◌-◌, ℕ, suc, Bool, true, false, List, [], ◌∷◌, ◌++◌, length, map, take, drop, take_all, get_or, refl, sym, ap, ◌∙◌, subst, arith}
use Rattle.std.specs.Prelude.{cond, Option, Some, None, Result, Ok, Err, ◌||◌, option_map}
use Rattle.std.specs.List.{find}
use Rattle.std.specs.Option.{is_some}
use Rattle.asp_defs.specs.Words.{WordOption, BudgetOption, CellsOption, TeamsOption, LogOption, OptionValue, NumberValue, Setting, WordForm, ReadForm, OpenForm, NoForm, Task, SolveTask, same_option, stands, found_value, form_of, next_value, settings_from, number_or, sizes_or, solve_task, task_of_settings}
use Rattle.asp_defs.proofs.TextRefutations.{clash}
use Rattle.asp_top.specs.declared.words.Tuning.{Tuning}
use Rattle.asp_top.specs.declared.options.Options.{Options}
use Rattle.asp_top.specs.declared.options.OptionWord.{OptionWord}
use Rattle.asp_top.specs.declared.options.OptionWord.TheVariants.{Budget, Cells}
use Rattle.asp_top.specs.declared.options.Form.{Form}
use Rattle.asp_top.specs.declared.options.Form.TheVariants as code
use Rattle.asp_top.specs.Commands.{served_options}
use Rattle.asp_top.specs.Options.{option_of, setting_of, FitsOption, form_as_defined, FormFits, is_set, with_option, number_of, tuned, AreOptions, ReadsAs}
use Rattle.asp_top.proofs.Steps.{valued, opened, taken, formed}

-- ---- one setting more

abbrev first_of : {A : Type 0} → Option A → Option A → Option A
first_of (Some x) other = Some x
first_of None other = other

first_none : {A : Type 0} (found : Option A) → first_of found None ≡ found
first_none (Some x) = refl
first_none None = refl

found_more : (o : WordOption) (s : Setting) (settings : List Setting)
    → found_value o (settings ++ s ∷ []) ≡ first_of (found_value o settings) (found_value o (s ∷ []))
found_more o s [] = refl
found_more o s (first ∷ settings) = go (same_option o first.option) (found_more o s settings)
  where
    go : (b : Bool) → found_value o (settings ++ s ∷ []) ≡ first_of (found_value o settings) (found_value o (s ∷ []))
        → option_map (λ (s : Setting). s.value) (cond b (Some first) (find (λ (s : Setting). same_option o s.option) (settings ++ s ∷ [])))
        ≡ first_of (option_map (λ (s : Setting). s.value) (cond b (Some first) (find (λ (s : Setting). same_option o s.option) settings))) (found_value o (s ∷ []))
    go true rest = refl
    go false rest = rest

stands_more : (o : WordOption) (s : Setting) (settings : List Setting) → stands o settings ≡ false → same_option o s.option ≡ false
    → stands o (settings ++ s ∷ []) ≡ false
stands_more o s [] none other = ap (λ (b : Bool). b || false) other
stands_more o s (first ∷ settings) none other =
    go (same_option o first.option) none (λ h. stands_more o s settings h other)
  where
    go : (b : Bool) → (b || stands o settings) ≡ false
        → (stands o settings ≡ false → stands o (settings ++ s ∷ []) ≡ false) → (b || stands o (settings ++ s ∷ [])) ≡ false
    go true h rest = clash (sym h)
    go false h rest = rest h

-- an option stands where it has a value
stands_found : (o : WordOption) (settings : List Setting) → stands o settings ≡ is_some (found_value o settings)
stands_found o [] = refl
stands_found o (first ∷ settings) = go (same_option o first.option) (stands_found o settings)
  where
    go : (b : Bool) → stands o settings ≡ is_some (found_value o settings)
        → (b || stands o settings)
        ≡ is_some (option_map (λ (s : Setting). s.value) (cond b (Some first) (find (λ (s : Setting). same_option o s.option) settings)))
    go true rest = refl
    go false rest = rest

none_from : {A : Type 0} (found : Option A) → is_some found ≡ false → found ≡ None
none_from None h = refl
none_from (Some x) h = clash (sym h)

mapped_some : {A B : Type 0} (f : A → B) (found : Option A) → is_some (option_map f found) ≡ is_some found
mapped_some f None = refl
mapped_some f (Some x) = refl

-- ---- options

pub no_options : (options : Options) → options.budget ≡ None → options.cells ≡ None → AreOptions [] options
no_options options budget cells = record {
  budget = sym (ap (option_map NumberValue) budget);
  cells = sym (ap (option_map NumberValue) cells);
  teams = refl;
  log = refl;
  within = λ n is. let both : None ≡ Some n = sym cells ∙ is in absurd (cc);
}

same_content : (n m : ℕ) → Some n ≡ Some m → n ≡ m
same_content n m h = cc

with_more : (settings : List Setting) (options : Options) (o : OptionWord) (v : ℕ) → AreOptions settings options
    → is_set options o ≡ false → FitsOption o v → AreOptions (settings ++ setting_of o v ∷ []) (with_option options o v)
with_more settings options Budget v are fresh fits = record {
  budget =
      found_more BudgetOption (setting_of Budget v) settings
      ∙ ap (λ found. first_of found (Some (NumberValue v))) (are.budget ∙ ap (option_map NumberValue) (none_from options.budget fresh));
  cells = found_more CellsOption (setting_of Budget v) settings ∙ (first_none (found_value CellsOption settings) ∙ are.cells);
  teams = found_more TeamsOption (setting_of Budget v) settings ∙ (first_none (found_value TeamsOption settings) ∙ are.teams);
  log = stands_more LogOption (setting_of Budget v) settings are.log refl;
  within = are.within;
}
with_more settings options Cells v are fresh fits = record {
  budget = found_more BudgetOption (setting_of Cells v) settings ∙ (first_none (found_value BudgetOption settings) ∙ are.budget);
  cells =
      found_more CellsOption (setting_of Cells v) settings
      ∙ ap (λ found. first_of found (Some (NumberValue v))) (are.cells ∙ ap (option_map NumberValue) (none_from options.cells fresh));
  teams = found_more TeamsOption (setting_of Cells v) settings ∙ (first_none (found_value TeamsOption settings) ∙ are.teams);
  log = stands_more LogOption (setting_of Cells v) settings are.log refl;
  within = λ n is. subst (λ (m : ℕ). m ≤ 500000000) (same_content v n is) fits;
}

stands_as : (settings : List Setting) (options : Options) (o : OptionWord) → AreOptions settings options
    → stands (option_of o) settings ≡ is_set options o
stands_as settings options Budget are =
    stands_found BudgetOption settings ∙ (ap is_some are.budget ∙ mapped_some NumberValue options.budget)
stands_as settings options Cells are =
    stands_found CellsOption settings ∙ (ap is_some are.cells ∙ mapped_some NumberValue options.cells)

-- ---- words, by what the first of them is

module _ (number : ℕ) (options : Options) (words : List (List ℕ)) where
  -- what a reading from these words on is to be
  abbrev pub Reads : Option WordOption → Result Options ℕ → Type 0
  Reads waiting result =
      (settings : List Setting) → AreOptions settings options
      → ReadsAs result (settings_from served_options number settings waiting words)

-- words with a first one are it and the others
pub begins : {A : Type 0} (f : A → List ℕ) (words : List A) (word : A) → 1 ≤ length words → word ≡ get_or words 0 word
    → map f words ≡ f word ∷ map f (take (length words - 1) (drop 1 words))
begins f [] word some is = absurd (omega (arith, some))
begins f (first ∷ rest) word some is =
    let count : length (first ∷ rest) - 1 ≡ length rest = omega arith in
    let whole : take (length (first ∷ rest) - 1) rest ≡ rest = ap (λ n. take n rest) count ∙ take_all (length rest) rest (omega arith) in
    ap (λ w. f w ∷ map f rest) (sym is) ∙ ap (λ ws. f word ∷ map f ws) (sym whole)

one_on : (number : ℕ) (options : Options) (words : List (List ℕ)) (waiting : Option WordOption) (result : Result Options ℕ)
    → Reads (number + 1) options words waiting result → Reads (suc number) options words waiting result
one_on number options words waiting result h =
    let same : number + 1 ≡ suc number = omega arith in subst (λ (n : ℕ). Reads n options words waiting result) same h

pub reads_nothing : (number : ℕ) (options : Options) (words : List (List ℕ)) → words ≡ [] → Reads number options words None (Ok options)
reads_nothing number options words none settings are =
    subst (λ (ws : List (List ℕ)). ReadsAs (Ok options) (settings_from served_options number settings None ws)) (sym none) are

pub reads_missing : (number : ℕ) (options : Options) (words : List (List ℕ)) (o : OptionWord) → words ≡ []
    → Reads number options words (Some (option_of o)) (Err number)
reads_missing number options words o none settings are =
    subst (λ (ws : List (List ℕ)). ReadsAs (Err number) (settings_from served_options number settings (Some (option_of o)) ws)) (sym none) refl

-- words with a first one
module _ (number : ℕ) (options : Options) (words further : List (List ℕ)) (word : List ℕ) (is : words ≡ word ∷ further) where
  by_words : (waiting : Option WordOption) (result : Result Options ℕ)
      → Reads number options (word ∷ further) waiting result → Reads number options words waiting result
  by_words waiting result h = subst (λ (ws : List (List ℕ)). Reads number options ws waiting result) (sym is) h

  module _ (form : Form) (same : form_as_defined form ≡ form_of served_options word) where
    by_form : (result : Result Options ℕ)
        → ((settings : List Setting) → AreOptions settings options
        → ReadsAs result (formed served_options number settings further (form_as_defined form)))
        → Reads number options words None result
    by_form result h =
        by_words None result
        (λ settings are. subst (λ (f : WordForm). ReadsAs result (formed served_options number settings further f)) same (h settings are))

    pub reads_unread : form ≡ code.Unread → Reads number options words None (Err number)
    reads_unread unread =
        by_form (Err number)
        (λ settings are.
        subst (λ (f : Form). ReadsAs (Err number) (formed served_options number settings further (form_as_defined f))) (sym unread) refl)

    module _ (o : OptionWord) where
      -- an option that stands already
      pub reads_again_with : (v : ℕ) → form ≡ code.Read o v → is_set options o ≡ true → Reads number options words None (Err number)
      reads_again_with v read again =
          by_form (Err number)
          (λ settings are.
          subst (λ (f : Form). ReadsAs (Err number) (formed served_options number settings further (form_as_defined f))) (sym read)
          (subst (λ (b : Bool). ReadsAs (Err number) (taken served_options number settings further (setting_of o v) b))
          (sym (stands_as settings options o are ∙ again)) refl))

      pub reads_again : form ≡ code.Open o → is_set options o ≡ true → Reads number options words None (Err number)
      reads_again open_form again =
          by_form (Err number)
          (λ settings are.
          subst (λ (f : Form). ReadsAs (Err number) (formed served_options number settings further (form_as_defined f))) (sym open_form)
          (subst (λ (b : Bool). ReadsAs (Err number) (opened served_options number settings further (option_of o) b))
          (sym (stands_as settings options o are ∙ again)) refl))

      -- an option with its number, and one that waits for it
      pub reads_setting : (v : ℕ) (result : Result Options ℕ) → form ≡ code.Read o v → FitsOption o v → is_set options o ≡ false
          → Reads (number + 1) (with_option options o v) further None result → Reads number options words None result
      reads_setting v result read fits fresh rest =
          by_form result
          (λ settings are.
          subst (λ (f : Form). ReadsAs result (formed served_options number settings further (form_as_defined f))) (sym read)
          (subst (λ (b : Bool). ReadsAs result (taken served_options number settings further (setting_of o v) b))
          (sym (stands_as settings options o are ∙ fresh))
          (one_on number (with_option options o v) further None result rest (settings ++ setting_of o v ∷ []) (with_more settings options o v are fresh fits))))

      pub reads_open : (result : Result Options ℕ) → form ≡ code.Open o → is_set options o ≡ false
          → Reads (number + 1) options further (Some (option_of o)) result → Reads number options words None result
      reads_open result open_form fresh rest =
          by_form result
          (λ settings are.
          subst (λ (f : Form). ReadsAs result (formed served_options number settings further (form_as_defined f))) (sym open_form)
          (subst (λ (b : Bool). ReadsAs result (opened served_options number settings further (option_of o) b))
          (sym (stands_as settings options o are ∙ fresh))
          (one_on number options further (Some (option_of o)) result rest settings are)))

  -- the number of an option that waits for it
  module _ (o : OptionWord) (found : Option ℕ) (same : option_map NumberValue found ≡ next_value (option_of o) word) where
    by_value : (result : Result Options ℕ)
        → ((settings : List Setting) → AreOptions settings options
        → ReadsAs result (valued served_options number settings further (option_of o) (option_map NumberValue found)))
        → Reads number options words (Some (option_of o)) result
    by_value result h =
        by_words (Some (option_of o)) result
        (λ settings are.
        subst (λ (f : Option OptionValue). ReadsAs result (valued served_options number settings further (option_of o) f)) same (h settings are))

    pub reads_no_number : found ≡ None → Reads number options words (Some (option_of o)) (Err number)
    reads_no_number none =
        by_value (Err number)
        (λ settings are.
        subst (λ (f : Option ℕ). ReadsAs (Err number) (valued served_options number settings further (option_of o) (option_map NumberValue f)))
        (sym none) refl)

    pub reads_number : (v : ℕ) (result : Result Options ℕ) → found ≡ Some v → FitsOption o v → is_set options o ≡ false
        → Reads (number + 1) (with_option options o v) further None result → Reads number options words (Some (option_of o)) result
    reads_number v result some fits fresh rest =
        by_value result
        (λ settings are.
        subst (λ (f : Option ℕ). ReadsAs result (valued served_options number settings further (option_of o) (option_map NumberValue f)))
        (sym some) (one_on number (with_option options o v) further None result rest (settings ++ setting_of o v ∷ []) (with_more settings options o v are fresh fits)))

-- ---- the task of what was read

number_as : (default : ℕ) (found : Option ℕ) → number_or default (option_map NumberValue found) ≡ number_of default found
number_as default None = refl
number_as default (Some n) = refl

abbrev task_with : ℕ → ℕ → List ℕ → Bool → Task
task_with budget cells teams log = SolveTask (record { budget = budget; cells = cells; teams = teams }) log

options_task : (settings : List Setting) (options : Options) → AreOptions settings options
    → task_with (tuned options).budget (tuned options).cells (1 ∷ []) false ≡ solve_task settings
options_task settings options are =
    sym (
    ap (λ n. task_with n (number_or 20000000 (found_value CellsOption settings)) (sizes_or (1 ∷ []) (found_value TeamsOption settings)) (stands LogOption settings))
    (ap (number_or 10000000) are.budget ∙ number_as 10000000 options.budget)
    ∙ (ap (λ n. task_with (tuned options).budget n (sizes_or (1 ∷ []) (found_value TeamsOption settings)) (stands LogOption settings))
    (ap (number_or 20000000) are.cells ∙ number_as 20000000 options.cells)
    ∙ (ap (λ found. task_with (tuned options).budget (tuned options).cells (sizes_or (1 ∷ []) found) (stands LogOption settings)) are.teams
    ∙ ap (λ log. task_with (tuned options).budget (tuned options).cells (1 ∷ []) log) are.log))
    )

pub reads_task : (read : Result (List Setting) ℕ) (options : Options) (tuning : Tuning) → tuning ≡ tuned options → ReadsAs (Ok options) read
    → Ok (task_with tuning.budget tuning.cells (1 ∷ []) false) ≡ task_of_settings solve_task read
reads_task (Ok settings) options tuning is are =
    ap (λ (t : Tuning). Ok (task_with t.budget t.cells (1 ∷ []) false)) is ∙ ap (λ (t : Task). Ok t) (options_task settings options are)
reads_task (Err place) options tuning is are = absurd are

cells_within : (found : Option ℕ) → ((cells : ℕ) → found ≡ Some cells → cells ≤ 500000000) → number_of 20000000 found ≤ 500000000
cells_within None within = omega arith
cells_within (Some n) within = within n refl

pub reads_within : (read : Result (List Setting) ℕ) (options : Options) (tuning : Tuning) → tuning ≡ tuned options → ReadsAs (Ok options) read
    → tuning.cells ≤ 500000000
reads_within (Ok settings) options tuning is are =
    subst (λ (t : Tuning). t.cells ≤ 500000000) (sym is) (cells_within options.cells are.within)
reads_within (Err place) options tuning is are = absurd are
