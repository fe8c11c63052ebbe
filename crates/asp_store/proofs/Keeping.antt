-- What is kept of a history, from one addition to the next.
use Rattle.std.proofs.Common.{Vec, Global, ◌≡◌, ◌≢◌, refl, sym, ap, ◌∙◌, subst, ℕ, zero, suc, ◌+◌, ◌-◌, ◌<◌, ◌≤◌, inl, inr, true, not, cond, eqb, nat_lt, List, [], ◌∷◌, ◌++◌, length, map, get_or, set, replicate, None, arith}
use Rattle.std.specs.Prelude.{Option, Result, Ok, Err, OnErr}
use Rattle.std.specs.List.{list_all, find}
use Rattle.std.proofs.lemmas.Bool.{cases_eq, eq-eqb, ne_eqb}
use Rattle.std.proofs.lemmas.List.{append-nil, map-set, get_or-map, length-map, length-set, get_or-set_same, get_or-set_other}
use Rattle.std.proofs.lemmas.List.Sums.{sum_by-append}
use Rattle.std.proofs.Math.Seq.{map-set_same}
use Rattle.asp_defs.specs.declared.ground.Game.{Game}
use Rattle.asp_defs.specs.Lists.{IsIn}
use Rattle.asp_defs.specs.Interpretations.{holds}
use Rattle.asp_defs.specs.Games.{level_count, base, IsValid}
use Rattle.asp_defs.specs.Entries.{Entry, is_entry, cost}
use Rattle.asp_defs.specs.History.{is_justified, is_legal, cells}
use Rattle.asp_defs.proofs.Lists.{all_at, all_from, map_from}
use Rattle.asp_defs.proofs.Subsets.{subset-member}
use Rattle.asp_defs.proofs.HistoryLaws.{legal-one_more}
use Rattle.asp_defs.proofs.CellLaws.{Formed, follow-formed}
use Rattle.asp_defs.proofs.Irrelevance.{base-next}
use Rattle.asp_entry.specs.Cubes.{are_lits_below}
use Rattle.asp_store.specs.Histories.{first_held, positions}
use Rattle.asp_store.specs.Stores.{IsKept, is_position, holds_there, snoc_at}
use Rattle.asp_store.proofs.Held.{positions-more, positions-below, not-held, none-past, found}

-- ---- counts

pub few-entries : (H : List Entry) → length H ≤ cells H
few-entries [] = omega arith
few-entries (e ∷ H) =
    let h = few-entries H in
    let sums : cells (e ∷ H) ≡ cells (e ∷ []) + cells H = sum_by-append cost (e ∷ []) H in
    let one : cells (e ∷ []) ≡ 0 + cost e = refl in
    omega (arith, h, sums, one)

-- ---- atoms

-- an atom of the base below a level is below the number of all atoms
below-last : (g : Game) (more i a : ℕ) → IsValid g → i + more ≡ level_count g + 1 → IsIn a (base g i) → IsIn a (base g (level_count g + 1))
below-last g zero i a valid at h = let same : i ≡ level_count g + 1 = omega arith in subst (λ (k : ℕ). IsIn a (base g k)) same h
below-last g (suc more) i a valid at h =
    let back : i ≡ i + 1 - 1 = omega arith in
    below-last g more (i + 1) a valid (omega arith)
    (base-next g (i + 1) valid (omega arith) (omega arith) a (subst (λ (k : ℕ). IsIn a (base g k)) back h))

pub atom-below : (g : Game) (i a : ℕ) → IsValid g → i ≤ level_count g + 1 → IsIn a (base g i) → nat_lt a (length g.bases.atoms) ≡ true
atom-below g i a valid low h =
    all_at (λ b. nat_lt b (length g.bases.atoms)) (base g (level_count g + 1)) a valid.last_within
    (below-last g (level_count g + 1 - i) i a valid (omega (arith, low)) h)

cube-below : (g : Game) (e : Entry) → IsValid g → Formed g e → are_lits_below (length g.bases.atoms) e.cube ≡ true
cube-below g e valid formed =
    all_from (λ l. nat_lt l.atom (length g.bases.atoms)) e.cube (λ l i.
    atom-below g (e.level - 1) l.atom valid (let h = formed.last in omega (arith, h))
    (subset-member (base g (e.level - 1)) (map (λ l. l.atom) e.cube) l.atom formed.cube (map_from (λ l. l.atom) e.cube l i)))

pub cubes-below : (g : Game) (H : List Entry) (count : ℕ) → IsValid g → is_legal g H ≡ true → count ≡ length g.bases.atoms → list_all (λ e. are_lits_below count e.cube) H ≡ true
cubes-below g H count valid legal same =
    subst (λ (k : ℕ). list_all (λ e. are_lits_below k e.cube) H ≡ true) (sym same)
    (all_from (λ e. are_lits_below (length g.bases.atoms) e.cube) H (λ e i. cube-below g e valid (follow-formed g [] H valid legal e i)))

pub seed-below : (g : Game) (e : Entry) → IsValid g → Formed g e → list_all (λ a. nat_lt a (length g.bases.atoms)) e.seed ≡ true
seed-below g e valid formed =
    all_from (λ a. nat_lt a (length g.bases.atoms)) e.seed (λ a i.
    atom-below g (e.level - 1) a valid (let h = formed.last in omega (arith, h)) (subset-member (base g (e.level - 1)) e.seed a formed.seed i))

-- no entry is of a level past the last
pub levels-below : (g : Game) (H : List Entry) (level : ℕ) → IsValid g → is_legal g H ≡ true → level_count g + 2 ≤ level → list_all (λ e. not (eqb e.level level)) H ≡ true
levels-below g H level valid legal past =
    all_from (λ e. not (eqb e.level level)) H (λ e i.
    let h = (follow-formed g [] H valid legal e i).last in
    ap not (ne_eqb e.level level (λ e. omega (arith, h, e))))

-- ---- the lists of positions

blank : (n level : ℕ) → get_or {A = List ℕ} (replicate n []) level [] ≡ []
blank zero level = refl
blank (suc n) zero = refl
blank (suc n) (suc level) = blank n level

pub listed-none : (n : ℕ) (levels : List (List ℕ)) → levels ≡ replicate n [] → (level : ℕ) → level < n → get_or levels level [] ≡ []
listed-none n levels is level h = ap (λ (ls : List (List ℕ)). get_or ls level []) is ∙ blank n level

own-list : (H : List Entry) (e : Entry) (level : ℕ) → e.level ≡ level → positions (H ++ e ∷ []) level ≡ positions H level ++ length H ∷ []
own-list H e level same =
    let plain : 0 + length H ≡ length H = omega arith in
    positions-more 0 level H e ∙ (ap (λ t. positions H level ++ cond t ((0 + length H) ∷ []) []) (eq-eqb e.level level same) ∙ ap (λ k. positions H level ++ k ∷ []) plain)

other-list : (H : List Entry) (e : Entry) (level : ℕ) → e.level ≢ level → positions (H ++ e ∷ []) level ≡ positions H level
other-list H e level other =
    positions-more 0 level H e ∙ (ap (λ t. positions H level ++ cond t ((0 + length H) ∷ []) []) (ne_eqb e.level level other) ∙ append-nil (positions H level))

listed-more : (H : List Entry) (e : Entry) (n : ℕ) (levels : List (List ℕ)) → length levels ≡ n → e.level < n
    → ((level : ℕ) → level < n → get_or levels level [] ≡ positions H level)
    → (level : ℕ) → level < n → get_or (snoc_at levels e.level (length H)) level [] ≡ positions (H ++ e ∷ []) level
listed-more H e n levels size low listed level h = elim (cases_eq e.level level) [
  | inl same ↦
      subst (λ (k : ℕ). get_or (snoc_at levels e.level (length H)) k [] ≡ positions (H ++ e ∷ []) k) same
      (get_or-set_same levels e.level (get_or levels e.level [] ++ length H ∷ []) [] (omega (arith, size, low))
      ∙ (ap (λ ps. ps ++ length H ∷ []) (listed e.level low) ∙ sym (own-list H e e.level refl)))
  | inr other ↦
      get_or-set_other levels e.level level (get_or levels e.level [] ++ length H ∷ []) [] (λ e. other (sym e))
      ∙ (listed level h ∙ sym (other-list H e level other))
]

-- ---- one more entry

pub kept-more : (g : Game) (allowed kept now : ℕ) (H after : List Entry) (levels later : List (List ℕ)) (e : Entry) → IsKept g allowed kept H levels
    → is_entry g e ≡ true → is_justified g H e ≡ true → first_held H e.level e.seed ≡ None → kept + cost e ≤ allowed → now ≡ kept + cost e
    → after ≡ H ++ e ∷ [] → later ≡ snoc_at levels e.level (length H) → e.level < level_count g + 2 → IsKept g allowed now after later
kept-more g allowed kept now H after levels later e k formed justified fresh fits now_is after_is later_is low =
    subst (λ (xs : List Entry). IsKept g allowed now xs later) (sym after_is)
    (subst (λ (ls : List (List ℕ)). IsKept g allowed now (H ++ e ∷ []) ls) (sym later_is)
    (let sums : cells (H ++ e ∷ []) ≡ cells H + cells (e ∷ []) = sum_by-append cost H (e ∷ []) in
    let counted = k.counted in
    record {
      valid = k.valid;
      limit = k.limit;
      counted = omega (arith, sums, counted, now_is);
      within = omega (arith, sums, counted, fits);
      legal = legal-one_more g H e k.legal formed justified (not-held H e.level e.seed fresh);
      level_lists = length-set levels e.level (get_or levels e.level [] ++ length H ∷ []) ∙ k.level_lists;
      listed = listed-more H e (level_count g + 2) levels k.level_lists low k.listed;
    }))

-- ---- vectors

pub levels-more : (levels : List (Vec ℕ Global)) (level at : ℕ) (old new : Vec ℕ Global) → old ≡ get_or levels level old → new.items ≡ old.items ++ at ∷ [] → level < length levels
    → map (λ v. v.items) (set levels level new) ≡ snoc_at (map (λ v. v.items) levels) level at
levels-more levels level at old new was is low =
    map-set (λ v. v.items) levels level new
    ∙ ap (set (map (λ v. v.items) levels) level) (is ∙ ap (λ ps. ps ++ at ∷ []) (ap (λ v. v.items) was ∙ sym (get_or-map (λ v. v.items) levels level old [] low)))

pub levels-same : (levels : List (Vec ℕ Global)) (level : ℕ) (old new : Vec ℕ Global) → old ≡ get_or levels level old → new.items ≡ old.items
    → map (λ v. v.items) (set levels level new) ≡ map (λ v. v.items) levels
levels-same levels level old new was is = map-set_same (λ v. v.items) levels level new old (is ∙ ap (λ v. v.items) was)

pub on_err : {T E P : Type 0} (result : Result T E) → P → OnErr result P
on_err (Ok value) holds = tt
on_err (Err error) holds = holds

-- ---- looks

pub look-past : (g : Game) (allowed kept : ℕ) (H : List Entry) (levels : List (Vec ℕ Global)) (level : ℕ) (M : List ℕ) → IsKept g allowed kept H (map (λ v. v.items) levels)
    → length levels ≤ level → None ≡ first_held H level M
look-past g allowed kept H levels level M k past =
    let many = k.level_lists in
    let same = length-map levels (λ (v : Vec ℕ Global). v.items) in
    sym (none-past H level M (levels-below g H level k.valid k.legal (omega (arith, many, same, past))))

-- the list of positions that was read is that of the level
pub read-list : (g : Game) (allowed kept : ℕ) (H : List Entry) (levels : List (Vec ℕ Global)) (level : ℕ) (ps : Vec ℕ Global) → IsKept g allowed kept H (map (λ v. v.items) levels)
    → level < length levels → ps ≡ get_or levels level ps → ps.items ≡ positions H level
read-list g allowed kept H levels level ps k low is =
    let many = k.level_lists in
    let same = length-map levels (λ (v : Vec ℕ Global). v.items) in
    ap (λ v. v.items) is
    ∙ (sym (get_or-map (λ v. v.items) levels level ps [] low) ∙ k.listed level (omega (arith, many, same, low)))

pub inside : (H entries : List Entry) (level : ℕ) (qs : List ℕ) → entries ≡ H → qs ≡ positions H level → list_all (is_position entries) qs ≡ true
inside H entries level qs same is =
    subst (λ (xs : List Entry). list_all (is_position xs) qs ≡ true) (sym same)
    (subst (λ (ps : List ℕ). list_all (is_position H) ps ≡ true) (sym is) (positions-below H level))

pub looked : (H entries : List Entry) (level : ℕ) (M qs : List ℕ) (result : Option ℕ) → entries ≡ H → qs ≡ positions H level → result ≡ find (holds_there entries M) qs → result ≡ first_held H level M
looked H entries level M qs result same is told =
    told ∙ (ap (λ (xs : List Entry). find (holds_there xs M) qs) same ∙ (ap (find (holds_there H M)) is ∙ found M level H))
