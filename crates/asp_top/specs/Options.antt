-- What the reading of options makes of words, beside what the definition makes of them. All definitions are transparent.
use Rattle.std.specs.Prelude.{◌≡◌, ◌≤◌, ℕ, ◌+◌, Bool, false, Option, Some, None, Result, Ok, Err, List, option_map}
use Rattle.std.specs.Option.{is_some, option_map_or}
use Rattle.std.specs.List.{find}
use Rattle.asp_defs.specs.Words.{WordOption, BudgetOption, CellsOption, TeamsOption, LogOption, OptionValue, NumberValue, Setting, WordForm, ReadForm, OpenForm, NoForm, is_assigned, assigned_form, stands, found_value}
use Rattle.asp_store.specs.Stores.{most_cells}
use Rattle.asp_top.specs.declared.options.OptionWord.{OptionWord}
use Rattle.asp_top.specs.declared.options.OptionWord.TheVariants.{Budget, Cells}
use Rattle.asp_top.specs.declared.options.Form.{Form}
use Rattle.asp_top.specs.declared.options.Form.TheVariants.{Read, Open, Unread}
use Rattle.asp_top.specs.declared.options.Options.{Options}
use Rattle.asp_top.specs.declared.words.Tuning.{Tuning}
use Rattle.asp_top.specs.Commands.{served_options}

-- the option of the definition that an option is, and the setting that it is with a number
abbrev pub option_of : OptionWord → WordOption
option_of Budget = BudgetOption
option_of Cells = CellsOption

abbrev pub setting_of : OptionWord → ℕ → Setting
setting_of option value = record { option = option_of option; value = NumberValue value }

-- a number is within the range of an option, as far as later steps rest on it
abbrev pub FitsOption : OptionWord → ℕ → Type 0
FitsOption Budget value = Unit {0}
FitsOption Cells value = value ≤ most_cells

-- the definition's form of a word
abbrev pub form_as_defined : Form → WordForm
form_as_defined (Read option value) = ReadForm (setting_of option value)
form_as_defined (Open option) = OpenForm (option_of option)
form_as_defined Unread = NoForm

abbrev pub FormFits : Form → Type 0
FormFits (Read option value) = FitsOption option value
FormFits (Open option) = Unit {0}
FormFits Unread = Unit {0}

-- an option with a value, if there is one, and what a word is that isn't an option's word alone
abbrev pub valued_form : WordOption → Option OptionValue → WordForm
valued_form o found = option_map_or (λ v. ReadForm (record { option = o; value = v })) found NoForm

abbrev pub assigned_by : List ℕ → WordForm
assigned_by word = option_map_or (λ o. assigned_form o word) (find (is_assigned word) served_options) NoForm

-- whether an option was read, how many were, and the options with one more
abbrev pub is_set : Options → OptionWord → Bool
is_set options Budget = is_some options.budget
is_set options Cells = is_some options.cells

abbrev pub one_if_some : Option ℕ → ℕ
one_if_some None = 0
one_if_some (Some value) = 1

abbrev pub set_count : Options → ℕ
set_count options = one_if_some options.budget + one_if_some options.cells

abbrev pub with_option : Options → OptionWord → ℕ → Options
with_option options Budget value = record { budget = Some value; cells = options.cells }
with_option options Cells value = record { budget = options.budget; cells = Some value }

-- the number of an option, or what stands where it wasn't read
abbrev pub number_of : ℕ → Option ℕ → ℕ
number_of default None = default
number_of default (Some value) = value

-- the tuning that options are
abbrev pub tuned : Options → Tuning
tuned options = record { budget = number_of 10000000 options.budget; cells = number_of 20000000 options.cells }

-- options are what settings say, no others are set, and the cells are within those that a history may take
pub record AreOptions (settings : List Setting) (options : Options) : Type 0 where
  pub budget : found_value BudgetOption settings ≡ option_map NumberValue options.budget
  pub cells : found_value CellsOption settings ≡ option_map NumberValue options.cells
  pub teams : found_value TeamsOption settings ≡ None
  pub log : stands LogOption settings ≡ false
  pub within : (cells : ℕ) → options.cells ≡ Some cells → cells ≤ most_cells

-- what was read is what the definition reads, or the same word is refused
abbrev pub ReadsAs : Result Options ℕ → Result (List Setting) ℕ → Type 0
ReadsAs (Ok options) (Ok settings) = AreOptions settings options
ReadsAs (Ok options) (Err place) = ⊥
ReadsAs (Err place) (Ok settings) = ⊥
ReadsAs (Err place) (Err other) = place ≡ other
