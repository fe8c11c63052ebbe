-- One word of a command with options, as a step of the definition of words.
use Rattle.std.proofs.Common.{◌≡◌, ℕ, suc, Bool, true, false, List, [], ◌∷◌, ◌++◌, refl, sym, subst}
use Rattle.std.specs.Prelude.{Option, Some, None, Result, Ok, Err}
use Rattle.asp_defs.specs.Words.{WordOption, OptionValue, Setting, WordForm, ReadForm, OpenForm, NoForm, stands, form_of, next_value, settings_from}

abbrev pub Settings : Type 0
Settings = Result (List Setting) ℕ

module _ (options : List WordOption) (number : ℕ) (settings : List Setting) (words : List (List ℕ)) where
  -- what the words set where an option takes a value from the word before them, where an option waits for the first of them,
  -- and where a setting was read before them
  abbrev pub valued : WordOption → Option OptionValue → Settings
  valued o found = elim found [
    | None ↦ Err number
    | Some v ↦ settings_from options (suc number) (settings ++ record { option = o; value = v } ∷ []) None words
  ]

  abbrev pub opened : WordOption → Bool → Settings
  opened o again = elim again [
    | true ↦ Err number
    | false ↦ settings_from options (suc number) settings (Some o) words
  ]

  abbrev pub taken : Setting → Bool → Settings
  taken s again = elim again [
    | true ↦ Err number
    | false ↦ settings_from options (suc number) (settings ++ s ∷ []) None words
  ]

  -- what they set behind a word of this form
  abbrev pub formed : WordForm → Settings
  formed form = elim form [
    | NoForm ↦ Err number
    | OpenForm o ↦ opened o (stands o settings)
    | ReadForm s ↦ taken s (stands s.option settings)
  ]
