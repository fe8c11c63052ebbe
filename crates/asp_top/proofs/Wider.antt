-- The options that are served among all: what is read with these alone is read so with all, and where a word is refused with
-- all, that one or one before it is refused with these alone. With these alone no log is asked for.
use Rattle.std.proofs.Common.{◌≡◌, ◌⊎◌, ◌≤◌, ℕ, suc, Bool, true, false, List, [], ◌∷◌, ◌++◌, codes, bytes_eq, refl, sym, ap, ◌∙◌, subst, inl, inr, arith}
use Rattle.std.specs.Prelude.{cond, Option, Some, None, Result, Ok, Err, ◌||◌}
use Rattle.std.specs.Option.{option_map_or}
use Rattle.std.proofs.lemmas.Slice.Eq.{bytes_eq-Decides}
use Rattle.asp_defs.specs.Words.{WordOption, BudgetOption, CellsOption, TeamsOption, LogOption, OptionValue, Setting, WordForm, ReadForm, OpenForm, NoForm, solve_options, same_option, stands, bare_form, is_assigned, assigned_form, option_word, form_of, next_value, settings_from}
use Rattle.asp_defs.proofs.TextRefutations.{clash}
use Rattle.asp_defs.proofs.WordLaws.{near_from}
use Rattle.asp_top.specs.Commands.{served_options}
use Rattle.asp_top.proofs.Steps.{Settings, valued, opened, taken, formed}

-- ---- the form of a word, by the tests that it passes

module _ (word : List ℕ) where
  abbrev served_by : Bool → Bool → Bool → Bool → WordForm
  served_by b c with_b with_c =
      option_map_or bare_form (cond b (Some BudgetOption) (cond c (Some CellsOption) None))
      (option_map_or (λ o. assigned_form o word) (cond with_b (Some BudgetOption) (cond with_c (Some CellsOption) None)) NoForm)

  abbrev all_by : Bool → Bool → Bool → Bool → Bool → Bool → Bool → WordForm
  all_by b c t l with_b with_c with_t =
      option_map_or bare_form
      (cond b (Some BudgetOption) (cond c (Some CellsOption) (cond t (Some TeamsOption) (cond l (Some LogOption) None))))
      (option_map_or (λ o. assigned_form o word)
      (cond with_b (Some BudgetOption) (cond with_c (Some CellsOption) (cond with_t (Some TeamsOption) None))) NoForm)

  -- a word that is an option's word alone has no value behind it
  abbrev Alone : Bool → Bool → Bool → Type 0
  Alone bare with_b with_c = bare ≡ true → (with_b ≡ false) × (with_c ≡ false)

  wider_by : (b c t l with_b with_c with_t : Bool) → Alone t with_b with_c → Alone l with_b with_c
      → (served_by b c with_b with_c ≡ NoForm) ⊎ (all_by b c t l with_b with_c with_t ≡ served_by b c with_b with_c)
  wider_by true c t l with_b with_c with_t teams log = inr refl
  wider_by false true t l with_b with_c with_t teams log = inr refl
  wider_by false false true l true with_c with_t teams log = clash (sym (teams refl).0)
  wider_by false false true l false true with_t teams log = clash (sym (teams refl).1)
  wider_by false false true l false false with_t teams log = inl refl
  wider_by false false false true true with_c with_t teams log = clash (sym (log refl).0)
  wider_by false false false true false true with_t teams log = clash (sym (log refl).1)
  wider_by false false false true false false with_t teams log = inl refl
  wider_by false false false false true with_c with_t teams log = inr refl
  wider_by false false false false false true with_t teams log = inr refl
  wider_by false false false false false false with_t teams log = inl refl

  alone_by : (name : List ℕ) → is_assigned name BudgetOption ≡ false → is_assigned name CellsOption ≡ false
      → Alone (bytes_eq word name) (is_assigned word BudgetOption) (is_assigned word CellsOption)
  alone_by name budget cells same =
      let e : word ≡ name = (bytes_eq-Decides word name).0 same in
      (ap (λ w. is_assigned w BudgetOption) e ∙ budget, ap (λ w. is_assigned w CellsOption) e ∙ cells)

  form_wider : (form_of served_options word ≡ NoForm) ⊎ (form_of solve_options word ≡ form_of served_options word)
  form_wider =
      wider_by (bytes_eq word (option_word BudgetOption)) (bytes_eq word (option_word CellsOption))
      (bytes_eq word (option_word TeamsOption)) (bytes_eq word (option_word LogOption)) (is_assigned word BudgetOption)
      (is_assigned word CellsOption) (is_assigned word TeamsOption)
      (alone_by (option_word TeamsOption) refl refl)
      (alone_by (option_word LogOption) refl refl)

  -- ---- no form is the log's

  abbrev UnloggedForm : WordForm → Type 0
  UnloggedForm NoForm = Unit {0}
  UnloggedForm (OpenForm o) = same_option LogOption o ≡ false
  UnloggedForm (ReadForm s) = same_option LogOption s.option ≡ false

  unlogged_value : (o : WordOption) → same_option LogOption o ≡ false → (found : Option OptionValue)
      → UnloggedForm (option_map_or (λ v. ReadForm (record { option = o; value = v })) found NoForm)
  unlogged_value o other None = tt
  unlogged_value o other (Some v) = other

  unlogged_by : (b c with_b with_c : Bool) → UnloggedForm (served_by b c with_b with_c)
  unlogged_by true c with_b with_c = refl
  unlogged_by false true with_b with_c = refl
  unlogged_by false false true with_c = unlogged_value BudgetOption refl _
  unlogged_by false false false true = unlogged_value CellsOption refl _
  unlogged_by false false false false = tt

  form_unlogged : UnloggedForm (form_of served_options word)
  form_unlogged =
      unlogged_by (bytes_eq word (option_word BudgetOption)) (bytes_eq word (option_word CellsOption))
      (is_assigned word BudgetOption) (is_assigned word CellsOption)

-- ---- all words

-- all options set what the served ones set, or with these alone a word is refused, and with all none before it
abbrev pub Wider : ℕ → Settings → Settings → Type 0
Wider number served defined =
    (defined ≡ served)
    ⊎ ((first : ℕ) × (served ≡ Err first) × (number ≤ first) × ((place : ℕ) → defined ≡ Err place → first ≤ place))

later : (number : ℕ) (served defined : Settings) → Wider (suc number) served defined → Wider number served defined
later number served defined (inl same) = inl same
later number served defined (inr (first, is, least, most)) = inr (first, is, omega (arith, least), most)

module _ (number : ℕ) (settings : List Setting) (words : List (List ℕ))
    (rest : (more : List Setting) (next : Option WordOption)
    → Wider (suc number) (settings_from served_options (suc number) more next words)
    (settings_from solve_options (suc number) more next words)) where
  wider_behind : (more : List Setting) (next : Option WordOption)
      → Wider number (settings_from served_options (suc number) more next words) (settings_from solve_options (suc number) more next words)
  wider_behind more next = later number _ _ (rest more next)

  wider_valued : (o : WordOption) (found : Option OptionValue)
      → Wider number (valued served_options number settings words o found) (valued solve_options number settings words o found)
  wider_valued o None = inl refl
  wider_valued o (Some v) = wider_behind (settings ++ record { option = o; value = v } ∷ []) None

  wider_opened : (o : WordOption) (again : Bool)
      → Wider number (opened served_options number settings words o again) (opened solve_options number settings words o again)
  wider_opened o true = inl refl
  wider_opened o false = wider_behind settings (Some o)

  wider_taken : (s : Setting) (again : Bool)
      → Wider number (taken served_options number settings words s again) (taken solve_options number settings words s again)
  wider_taken s true = inl refl
  wider_taken s false = wider_behind (settings ++ s ∷ []) None

  wider_formed : (form : WordForm)
      → Wider number (formed served_options number settings words form) (formed solve_options number settings words form)
  wider_formed NoForm = inl refl
  wider_formed (OpenForm o) = wider_opened o (stands o settings)
  wider_formed (ReadForm s) = wider_taken s (stands s.option settings)

  wider_word : (word : List ℕ)
      → (form_of served_options word ≡ NoForm) ⊎ (form_of solve_options word ≡ form_of served_options word)
      → Wider number (settings_from served_options number settings None (word ∷ words))
      (settings_from solve_options number settings None (word ∷ words))
  wider_word word (inl none) =
      inr (
        number,
        subst (λ (form : WordForm). formed served_options number settings words form ≡ Err number) (sym none) refl,
        omega arith,
        λ place e. (near_from solve_options number settings None (word ∷ words) place e).0,
      )
  wider_word word (inr same) =
      subst (λ (form : WordForm). Wider number (formed served_options number settings words (form_of served_options word))
      (formed solve_options number settings words form))
      (sym same) (wider_formed (form_of served_options word))

pub wider_from : (number : ℕ) (settings : List Setting) (waiting : Option WordOption) (words : List (List ℕ))
    → Wider number (settings_from served_options number settings waiting words) (settings_from solve_options number settings waiting words)
wider_from number settings None [] = inl refl
wider_from number settings (Some o) [] = inl refl
wider_from number settings (Some o) (word ∷ words) =
    wider_valued number settings words (λ more next. wider_from (suc number) more next words) o (next_value o word)
wider_from number settings None (word ∷ words) =
    wider_word number settings words (λ more next. wider_from (suc number) more next words) word (form_wider word)

-- ---- no log

abbrev Quiet : Settings → Type 0
Quiet r = (read : List Setting) → r ≡ Ok read → stands LogOption read ≡ false

abbrev UnloggedWait : Option WordOption → Type 0
UnloggedWait None = Unit {0}
UnloggedWait (Some o) = same_option LogOption o ≡ false

refused_quiet : (number : ℕ) → Quiet (Err number)
refused_quiet number read h = let both : Err number ≡ Ok read = h in absurd (cc)

unlogged_more : (settings : List Setting) (s : Setting) → stands LogOption settings ≡ false → same_option LogOption s.option ≡ false
    → stands LogOption (settings ++ s ∷ []) ≡ false
unlogged_more [] s none other = ap (λ (b : Bool). b || false) other
unlogged_more (first ∷ settings) s none other =
    go (same_option LogOption first.option) none (λ h. unlogged_more settings s h other)
  where
    go : (b : Bool) → (b || stands LogOption settings) ≡ false
        → (stands LogOption settings ≡ false → stands LogOption (settings ++ s ∷ []) ≡ false)
        → (b || stands LogOption (settings ++ s ∷ [])) ≡ false
    go true h rest = clash (sym h)
    go false h rest = rest h

module _ (number : ℕ) (settings : List Setting) (words : List (List ℕ)) (none : stands LogOption settings ≡ false)
    (rest : (more : List Setting) (next : Option WordOption) → stands LogOption more ≡ false → UnloggedWait next
    → Quiet (settings_from served_options (suc number) more next words)) where
  quiet_valued : (o : WordOption) → same_option LogOption o ≡ false → (found : Option OptionValue)
      → Quiet (valued served_options number settings words o found)
  quiet_valued o other None = refused_quiet number
  quiet_valued o other (Some v) =
      rest (settings ++ record { option = o; value = v } ∷ []) None
      (unlogged_more settings (record { option = o; value = v }) none other) tt

  quiet_opened : (o : WordOption) → same_option LogOption o ≡ false → (again : Bool)
      → Quiet (opened served_options number settings words o again)
  quiet_opened o other true = refused_quiet number
  quiet_opened o other false = rest settings (Some o) none other

  quiet_taken : (s : Setting) → same_option LogOption s.option ≡ false → (again : Bool)
      → Quiet (taken served_options number settings words s again)
  quiet_taken s other true = refused_quiet number
  quiet_taken s other false = rest (settings ++ s ∷ []) None (unlogged_more settings s none other) tt

  quiet_formed : (word : List ℕ) (form : WordForm) → UnloggedForm word form → Quiet (formed served_options number settings words form)
  quiet_formed word NoForm other = refused_quiet number
  quiet_formed word (OpenForm o) other = quiet_opened o other (stands o settings)
  quiet_formed word (ReadForm s) other = quiet_taken s other (stands s.option settings)

pub quiet_from : (number : ℕ) (settings : List Setting) (waiting : Option WordOption) (words : List (List ℕ))
    → stands LogOption settings ≡ false → UnloggedWait waiting → Quiet (settings_from served_options number settings waiting words)
quiet_from number settings None [] none other = λ read h. let both_are : Ok settings ≡ Ok read = h in let same : settings ≡ read = cc in subst (λ (set : List Setting). stands LogOption set ≡ false) same none
quiet_from number settings (Some o) [] none other = refused_quiet number
quiet_from number settings (Some o) (word ∷ words) none other =
    quiet_valued number settings words none (λ more next silent calm. quiet_from (suc number) more next words silent calm) o other
    (next_value o word)
quiet_from number settings None (word ∷ words) none other =
    quiet_formed number settings words none (λ more next silent calm. quiet_from (suc number) more next words silent calm) word
    (form_of served_options word) (form_unlogged word)
