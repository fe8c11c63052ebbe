-- What one worker for each level answers of the empty outer move is right of the game, and the history with the counts is the evidence.
use Rattle.std.proofs.Common.{◌≡◌, ◌≢◌, ◌<◌, ◌≤◌, ℕ, zero, suc, ◌+◌, ◌-◌, ◌*◌, ◌^◌, min, Bool, true, false, List, [], ◌∷◌, length, replicate, get_or, refl, sym, ap, ◌∙◌, subst, inl, inr, arith}
use Rattle.std.specs.Prelude.{◌==◌, ◌&&◌, nat_le, nat_lt, Option, Some, None, Result, Ok, Err, IfOk}
use Rattle.std.specs.List.{slice_get}
use Rattle.std.proofs.lemmas.Bool.{le-leb, lt-ltb, eq-eqb}
use Rattle.std.proofs.lemmas.List.{length-replicate}
use Rattle.std.proofs.lemmas.Option.{get_or_from_slice_get}
use Rattle.asp_bits.specs.Places.{true_from, true_places}
use Rattle.asp_defs.specs.declared.faults.Kind.{Kind}
use Rattle.asp_defs.specs.declared.faults.Kind.TheVariants.{Search, Minimal, Store}
use Rattle.asp_defs.specs.declared.faults.Unknown.{Unknown}
use Rattle.asp_defs.specs.declared.ground.Game.{Game}
use Rattle.asp_defs.specs.Entries.{Entry, cube_holds}
use Rattle.asp_defs.specs.Games.{base, base_size, is_subset, level_count, IsValid}
use Rattle.asp_defs.specs.History.{agrees, has_verdict, is_legal, cells}
use Rattle.asp_defs.specs.Lists.{IsIn}
use Rattle.asp_defs.specs.Shown.{Evidence, spent_count, is_full, shows_unknown}
use Rattle.asp_defs.specs.Unknowns.{enough_placements, enough_cells, possible_kind}
use Rattle.asp_defs.specs.Values.{is_coherent}
use Rattle.asp_defs.proofs.EvidenceLaws.{shown_verdicts_are_right}
use Rattle.asp_defs.proofs.HistoryLaws.{agrees_from}
use Rattle.asp_defs.proofs.Lists.{both, and_true, any_from}
use Rattle.asp_store.specs.Histories.{holds_at}
use Rattle.asp_store.specs.Shelves.{IsHolding}
use Rattle.asp_store.specs.Stores.{no_entry}
use Rattle.asp_team.specs.States.{IsNew, TeamGoesOn, HasSpentSearch, HasSpentCells, HasSpent}
use Rattle.asp_top.specs.declared.answer.Answer.{Answer}
use Rattle.asp_top.specs.Solved.{IsRunOf, HasVerdict, StaysOpen, IsDecided}

-- ---- the empty outer move

none_true : (n first : ℕ) → true_from first (replicate n false) ≡ []
none_true zero first = refl
none_true (suc n) first = none_true n (suc first)

pub nothing : (n : ℕ) (outer : List Bool) → outer ≡ replicate n false → true_places outer ≡ []
nothing n outer is = ap true_places is ∙ none_true n 0

pub nothing_inside : (n : ℕ) (outer : List Bool) (B : List ℕ) → outer ≡ replicate n false → is_subset (true_places outer) B ≡ true
nothing_inside n outer B is = subst (λ (I : List ℕ). is_subset I B ≡ true) (sym (nothing n outer is)) refl

pub as_long : (n : ℕ) (outer : List Bool) → outer ≡ replicate n false → length outer ≡ n
as_long n outer is = ap length is ∙ length-replicate {A = Bool} n false

-- ---- a new team is new by what it has itself

pub still_new : (g : Game) (budget allowed : ℕ) (t : Evidence) → IsNew g budget allowed t → IsNew t.game t.budget t.allowed t
still_new g budget allowed t new = record { game = refl; budget = refl; allowed = refl; history = new.history; spent = new.spent }

-- ---- a verdict

read_in : {A : Type 0} (xs : List A) (k : ℕ) (x : A) → slice_get xs k ≡ Some x → IsIn x xs
read_in [] k x h = let both_are : None ≡ Some x = h in absurd (cc)
read_in (y ∷ xs) zero x h = let both_are : Some y ≡ Some x = h in let same : y ≡ x = cc in inl (sym same)
read_in (y ∷ xs) (suc k) x h = inr (read_in xs k x h)

goes_run : (old new : Evidence) → TeamGoesOn old new → IsRunOf old.game old.budget old.allowed new
goes_run old new goes = record { game = goes.game; budget = goes.budget; allowed = goes.allowed; legal = goes.legal }

pub verdict_decided : (old new : Evidence) (M : List ℕ) (at : ℕ) (e : Entry) → IsValid old.game → TeamGoesOn old new
    → IsHolding new.history 1 M at → slice_get new.history at ≡ Some e → HasVerdict old.game old.budget old.allowed e.verdict new
verdict_decided old new M at e valid goes holding told =
    let stands : get_or new.history at no_entry ≡ e = get_or_from_slice_get new.history at e no_entry told in
    let held : holds_at 1 M e ≡ true = subst (λ (d : Entry). holds_at 1 M d ≡ true) stands holding.holds in
    let first : (e.level == 1) ≡ true = (both (e.level == 1) (cube_holds e.cube M) held).0 in
    let has : has_verdict new.history e.verdict ≡ true =
    any_from (λ d. (d.level == 1) && agrees d.verdict e.verdict) new.history e (read_in new.history at e told)
    (and_true (e.level == 1) (agrees e.verdict e.verdict) first (agrees_from e.verdict e.verdict refl)) in
    let shown = and_true (is_legal new.game new.history) (has_verdict new.history e.verdict) goes.legal has in
    record {
      run = goes_run old new goes;
      coherent =
          subst (λ (g : Game). is_coherent g ≡ e.verdict) goes.game
          (shown_verdicts_are_right new e.verdict (subst (λ (g : Game). IsValid g) (sym goes.game) valid) shown);
      shown = shown;
    }

-- ---- an open question

some_more : (x y : ℕ) → x ≡ 0 → min (x + 1) (2 ^ 64 - 1) ≤ y → 0 < y
some_more x y none rose = omega (arith, none, rose)

-- what shows an open answer, by its kind
abbrev reason : Evidence → Kind → ℕ → Bool
reason used kind level =
    nat_lt 0 (spent_count used kind level) && elim kind [ Search ↦ true | Minimal ↦ true | Store ↦ is_full used level ]

module _ (t : Evidence) (level : ℕ) where
  search_reason : (kind : Kind) → kind ≢ Store → 0 < spent_count t kind level → reason t kind level ≡ true
  search_reason Search other some = and_true (nat_lt 0 (spent_count t Search level)) true (lt-ltb 0 (spent_count t Search level) some) refl
  search_reason Minimal other some = and_true (nat_lt 0 (spent_count t Minimal level)) true (lt-ltb 0 (spent_count t Minimal level) some) refl
  search_reason Store other some = absurd (other refl)

  store_reason : (kind : Kind) → kind ≡ Store → 0 < spent_count t kind level
      → t.allowed < cells t.history + (1 + 2 * base_size t.game (level - 1)) → reason t kind level ≡ true
  store_reason Search is some full = absurd (cc)
  store_reason Minimal is some full = absurd (cc)
  store_reason Store is some full =
      and_true (nat_lt 0 (spent_count t Store level)) (is_full t level) (lt-ltb 0 (spent_count t Store level) some)
      (lt-ltb t.allowed (cells t.history + (1 + 2 * base_size t.game (level - 1))) full)

module _ (g : Game) (budget allowed : ℕ) (level number : ℕ) (first : 1 ≤ level) where
  abbrev searchable : Bool
  searchable = (nat_le 1 level && nat_le level (level_count g)) && ((number == budget) && nat_lt budget (enough_placements g level))

  is_searchable : level ≤ level_count g → number ≡ budget → budget < enough_placements g level → searchable ≡ true
  is_searchable last is few =
      and_true (nat_le 1 level && nat_le level (level_count g)) ((number == budget) && nat_lt budget (enough_placements g level))
      (and_true (nat_le 1 level) (nat_le level (level_count g)) (le-leb 1 level first) (le-leb level (level_count g) last))
      (and_true (number == budget) (nat_lt budget (enough_placements g level)) (eq-eqb number budget is)
      (lt-ltb budget (enough_placements g level) few))

  search_possible : (kind : Kind) → kind ≢ Store → level ≤ level_count g → number ≡ budget → budget < enough_placements g level
      → possible_kind g budget allowed kind level number ≡ true
  search_possible Search other last is few = is_searchable last is few
  search_possible Minimal other last is few = is_searchable last is few
  search_possible Store other last is few = absurd (other refl)

  store_possible : (kind : Kind) → kind ≡ Store → level ≤ level_count g + 1 → number ≡ allowed → allowed < enough_cells g
      → possible_kind g budget allowed kind level number ≡ true
  store_possible Search same last is few = absurd (cc)
  store_possible Minimal same last is few = absurd (cc)
  store_possible Store same last is few =
      and_true (nat_le 1 level && nat_le level (level_count g + 1)) ((number == allowed) && nat_lt allowed (enough_cells g))
      (and_true (nat_le 1 level) (nat_le level (level_count g + 1)) (le-leb 1 level first) (le-leb level (level_count g + 1) last))
      (and_true (number == allowed) (nat_lt allowed (enough_cells g)) (eq-eqb number allowed is) (lt-ltb allowed (enough_cells g) few))

module _ (old new : Evidence) (u : Unknown) (fresh : IsNew old.game old.budget old.allowed old) (goes : TeamGoesOn old new) where
  search_open : HasSpentSearch old new u → StaysOpen old.game old.budget old.allowed u new
  search_open s = record {
    run = goes_run old new goes;
    possible = search_possible old.game old.budget old.allowed u.level u.budget s.first u.kind s.kind s.last s.budget s.few;
    shown =
        search_reason new u.level u.kind s.kind
        (some_more (spent_count old u.kind u.level) (spent_count new u.kind u.level) (fresh.spent u.kind u.level) s.rose);
  }

  cells_open : HasSpentCells old new u → StaysOpen old.game old.budget old.allowed u new
  cells_open s = record {
    run = goes_run old new goes;
    possible =
        store_possible old.game old.budget old.allowed u.level u.budget s.first u.kind s.kind
        (subst (λ (g : Game). u.level ≤ level_count g + 1) goes.game s.last) (s.budget ∙ goes.allowed)
        (subst (λ (g : Game). old.allowed < enough_cells g) goes.game (subst (λ (n : ℕ). n < enough_cells new.game) goes.allowed s.few));
    shown =
        store_reason new u.level u.kind s.kind
        (some_more (spent_count old u.kind u.level) (spent_count new u.kind u.level) (fresh.spent u.kind u.level) s.rose) s.exceeds;
  }

  pub open_decided : HasSpent old new u → StaysOpen old.game old.budget old.allowed u new
  open_decided (inl s) = search_open s
  open_decided (inr s) = cells_open s

-- ---- the answer for a game

pub decided_so : {E : Type 0} (g h : Game) (budget allowed b a : ℕ) (result : Result Answer E) → g ≡ h → budget ≡ b → allowed ≡ a
    → IfOk result (IsDecided g budget allowed) → IfOk result (IsDecided h b a)
decided_so g h budget allowed b a result game budget_is allowed_is decided =
    subst (λ (x : Game). IfOk result (IsDecided x b a)) game
    (subst (λ (n : ℕ). IfOk result (IsDecided g n a)) budget_is
    (subst (λ (n : ℕ). IfOk result (IsDecided g budget n)) allowed_is decided))
