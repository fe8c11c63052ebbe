-- The reading of command words: which task they ask for, or which word is the first that can't be read (of this project).
-- All definitions are transparent.
use Rattle.std.specs.Prelude.{ℕ, suc, ◌+◌, ◌*◌, Bool, true, false, ◌&&◌, ◌==◌, nat_eq, nat_le, if◌then◌else◌, List, [], ◌∷◌, ◌++◌, length, map, drop, codes, Option, None, Some, Result, Ok, Err, bytes_eq, option_map}
use Rattle.std.specs.Option.{option_map_or}
use Rattle.std.specs.List.{list_all, list_any, find, fold, slice_split, starts_with}
use Rattle.std.specs.Str.Parse.{digits_value}
use Rattle.asp_defs.specs.Lists.{is_empty}
use Rattle.asp_defs.specs.Tokens.{is_digit}

-- an option of a command
pub data WordOption : Type 0 where
  BudgetOption : WordOption
  CellsOption : WordOption
  TeamsOption : WordOption
  PageOption : WordOption
  AfterOption : WordOption
  LogOption : WordOption

-- the value of an option: a number, the sizes of teams, a text, or none
pub data OptionValue : Type 0 where
  NumberValue : ℕ → OptionValue
  SizesValue : List ℕ → OptionValue
  TextValue : List ℕ → OptionValue
  NoValue : OptionValue

-- an option that was read, with its value
pub record Setting : Type 0 where
  pub option : WordOption
  pub value : OptionValue

-- how hard to try: placements for each search, cells of the store, and the sizes of the levels' teams
pub record Tuning : Type 0 where
  pub budget : ℕ
  pub cells : ℕ
  pub teams : List ℕ

-- what the words ask for: `solve`, with or without the log; `list`, with the page size and the set after which the page
-- begins; `check`; and `demo` with its number
pub data Task : Type 0 where
  SolveTask : Tuning → Bool → Task
  ListTask : Tuning → ℕ → Option (List ℕ) → Task
  CheckTask : Task
  DemoTask : ℕ → Task

-- the word of an option
abbrev pub option_word : WordOption → List ℕ
option_word BudgetOption = codes "--budget"
option_word CellsOption = codes "--cells"
option_word TeamsOption = codes "--teams"
option_word PageOption = codes "--page"
option_word AfterOption = codes "--after"
option_word LogOption = codes "--log"

-- whether an option takes a value
abbrev pub takes_value : WordOption → Bool
takes_value BudgetOption = true
takes_value CellsOption = true
takes_value TeamsOption = true
takes_value PageOption = true
takes_value AfterOption = true
takes_value LogOption = false

-- the options of `solve` and of `list`
abbrev pub solve_options : List WordOption
solve_options = BudgetOption ∷ CellsOption ∷ TeamsOption ∷ LogOption ∷ []

abbrev pub list_options : List WordOption
list_options = BudgetOption ∷ CellsOption ∷ TeamsOption ∷ PageOption ∷ AfterOption ∷ []

-- whether bytes are a number: one to nineteen digits
abbrev pub is_number : List ℕ → Bool
is_number bytes = (nat_le 1 (length bytes) && nat_le (length bytes) 19) && list_all is_digit bytes

-- the number from one to another that bytes are, if they are one
abbrev pub number_within : ℕ → ℕ → List ℕ → Option ℕ
number_within least most bytes =
    if is_number bytes && (nat_le least (digits_value 10 bytes) && nat_le (digits_value 10 bytes) most)
    then Some (digits_value 10 bytes) else None

-- the team sizes that there are
abbrev pub team_sizes : List ℕ
team_sizes = 1 ∷ 2 ∷ 4 ∷ 8 ∷ 16 ∷ 32 ∷ 64 ∷ []

-- whether bytes are a number that is a team size
abbrev pub is_size : List ℕ → Bool
is_size bytes = is_number bytes && list_any (λ size. size == digits_value 10 bytes) team_sizes

-- whether sizes may stand together: at most 16, their product at most 64
abbrev pub sizes_fit : List ℕ → Bool
sizes_fit sizes = nat_le (length sizes) 16 && nat_le (fold (λ product size. product * size) 1 sizes) 64

-- the sizes that bytes are, joined by commas, if they are such
abbrev pub sizes_of : List ℕ → Option (List ℕ)
sizes_of bytes =
    let parts = slice_split (λ b. b == 44) bytes
    in if list_all is_size parts && sizes_fit (map (digits_value 10) parts) then Some (map (digits_value 10) parts)
    else None

-- the value of an option that bytes are, if they are one in its range
abbrev pub value_of : WordOption → List ℕ → Option OptionValue
value_of BudgetOption bytes = option_map NumberValue (number_within 1 1000000000000000000 bytes)
value_of CellsOption bytes = option_map NumberValue (number_within 1 500000000 bytes)
value_of TeamsOption bytes = option_map SizesValue (sizes_of bytes)
value_of PageOption bytes = option_map NumberValue (number_within 1 10000 bytes)
value_of AfterOption bytes = if is_empty bytes then None else Some (TextValue bytes)
value_of LogOption bytes = None

-- whether two options are the same
abbrev pub same_option : WordOption → WordOption → Bool
same_option o q = bytes_eq (option_word o) (option_word q)

-- whether an option stands among those that were read
abbrev pub stands : WordOption → List Setting → Bool
stands o settings = list_any (λ (s : Setting). same_option o s.option) settings

-- the value that an option has among those that were read, if it stands there
abbrev pub found_value : WordOption → List Setting → Option OptionValue
found_value o settings =
    option_map (λ (s : Setting). s.value) (find (λ (s : Setting). same_option o s.option) settings)

-- what a word is by itself: an option that is read, with its value behind `=` or without one; an option whose value is the
-- next word; or nothing that can be read
pub data WordForm : Type 0 where
  ReadForm : Setting → WordForm
  OpenForm : WordOption → WordForm
  NoForm : WordForm

-- whether a word is an option's word, `=` and a value
abbrev pub is_assigned : List ℕ → WordOption → Bool
is_assigned word o = takes_value o && starts_with nat_eq word (option_word o ++ 61 ∷ [])

-- an option's word alone: the option is read, or waits for its value
abbrev pub bare_form : WordOption → WordForm
bare_form o = if takes_value o then OpenForm o else ReadForm (record { option = o; value = NoValue })

-- an option's word, `=` and a value, which is to be one in the option's range
abbrev pub assigned_form : WordOption → List ℕ → WordForm
assigned_form o word =
    option_map_or (λ v. ReadForm (record { option = o; value = v }))
    (value_of o (drop (length (option_word o) + 1) word)) NoForm

abbrev pub form_of : List WordOption → List ℕ → WordForm
form_of options word =
    option_map_or bare_form (find (λ o. bytes_eq word (option_word o)) options)
    (option_map_or (λ o. assigned_form o word) (find (is_assigned word) options) NoForm)

-- the value that an option takes from the next word, which doesn't begin with a minus
abbrev pub next_value : WordOption → List ℕ → Option OptionValue
next_value o [] = None
next_value o (b ∷ bs) = if b == 45 then None else value_of o (b ∷ bs)

-- what the words from a number on set for a command with these options, behind what was set before them; where an option
-- waits for its value, the first of them is the value. Else the number of the first word that can't be read
abbrev pub settings_from : List WordOption → ℕ → List Setting → Option WordOption → List (List ℕ) → Result (List Setting) ℕ
settings_from options number settings None [] = Ok settings
settings_from options number settings (Some o) [] = Err number
settings_from options number settings (Some o) (word ∷ words) = elim (next_value o word) [
  | None ↦ Err number
  | Some v ↦ settings_from options (suc number) (settings ++ record { option = o; value = v } ∷ []) None words
]
settings_from options number settings None (word ∷ words) = elim (form_of options word) [
  | NoForm ↦ Err number
  | OpenForm o ↦ elim (stands o settings) [
    | true ↦ Err number
    | false ↦ settings_from options (suc number) settings (Some o) words
  ]
  | ReadForm s ↦ elim (stands s.option settings) [
    | true ↦ Err number
    | false ↦ settings_from options (suc number) (settings ++ s ∷ []) None words
  ]
]

-- the number, the sizes and the text that a value is, or what stands where the option isn't set
abbrev pub number_or : ℕ → Option OptionValue → ℕ
number_or default (Some (NumberValue n)) = n
number_or default other = default

abbrev pub sizes_or : List ℕ → Option OptionValue → List ℕ
sizes_or default (Some (SizesValue sizes)) = sizes
sizes_or default other = default

abbrev pub text_or_none : Option OptionValue → Option (List ℕ)
text_or_none (Some (TextValue bytes)) = Some bytes
text_or_none other = None

-- the tuning of settings: a budget of 10,000,000, cells of 20,000,000 and one team of size 1 where nothing else is set
abbrev pub tuning_of : List Setting → Tuning
tuning_of settings = record {
  budget = number_or 10000000 (found_value BudgetOption settings);
  cells = number_or 20000000 (found_value CellsOption settings);
  teams = sizes_or (1 ∷ []) (found_value TeamsOption settings);
}

abbrev pub solve_task : List Setting → Task
solve_task settings = SolveTask (tuning_of settings) (stands LogOption settings)

-- the page size is 100 where nothing else is set
abbrev pub list_task : List Setting → Task
list_task settings =
    ListTask (tuning_of settings) (number_or 100 (found_value PageOption settings))
    (text_or_none (found_value AfterOption settings))

abbrev pub task_of_settings : (List Setting → Task) → Result (List Setting) ℕ → Result Task ℕ
task_of_settings task (Ok settings) = Ok (task settings)
task_of_settings task (Err number) = Err number

-- the task of `check`, which takes no word
abbrev pub check_task : List (List ℕ) → Result Task ℕ
check_task [] = Ok CheckTask
check_task (word ∷ words) = Err 2

-- the task of `demo`, which takes a number from 2 to 200
abbrev pub demo_number : Option ℕ → List (List ℕ) → Result Task ℕ
demo_number None words = Err 2
demo_number (Some n) [] = Ok (DemoTask n)
demo_number (Some n) (word ∷ words) = Err 3

abbrev pub demo_task : List (List ℕ) → Result Task ℕ
demo_task [] = Err 2
demo_task (word ∷ words) = demo_number (number_within 2 200 word) words

-- the task that words ask for, or the number from 1 of the first word that can't be read
abbrev pub task_of_words : List (List ℕ) → Result Task ℕ
task_of_words [] = Err 1
task_of_words (command ∷ words) =
    if bytes_eq command (codes "solve") then task_of_settings solve_task (settings_from solve_options 2 [] None words)
    else if bytes_eq command (codes "list") then task_of_settings list_task (settings_from list_options 2 [] None words)
    else if bytes_eq command (codes "check") then check_task words
    else if bytes_eq command (codes "demo") then demo_task words
    else Err 1
