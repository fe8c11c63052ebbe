-- When a set is a move of a level.
use Rattle.std.proofs.Common.{ℕ, ◌+◌, ◌-◌, ◌<◌, ◌≤◌, ◌≡◌, refl, sym, ap, ◌∙◌, subst, inl, inr, Bool, true, false, not, ◌&&◌, List, [], ◌∷◌, ◌++◌, length, take, get_or, arith}
use Rattle.std.specs.List.{list_any}
use Rattle.std.proofs.lemmas.Bool.{cases_eq}
use Rattle.std.proofs.lemmas.List.{take_more, take_all}
use Rattle.asp_bits.specs.Places.{true_places}
use Rattle.asp_reduct.proofs.Truths.{ascends-true_from}
use Rattle.asp_defs.specs.declared.ground.GroundRule.{GroundRule}
use Rattle.asp_defs.specs.declared.ground.Bound.{Bound}
use Rattle.asp_defs.specs.declared.ground.Game.{Game}
use Rattle.asp_defs.specs.Lists.{IsIn}
use Rattle.asp_defs.specs.Interpretations.{holds, subsets}
use Rattle.asp_defs.specs.Truth.{satisfies, is_model}
use Rattle.asp_defs.specs.Bounds.{meets_all}
use Rattle.asp_defs.specs.Unfounded.{is_unfounded}
use Rattle.asp_defs.specs.Games.{level_count, base, rules_of, bounds_of, ascends, within, is_subset, IsValid}
use Rattle.asp_defs.specs.Values.{fact, fix, moves}
use Rattle.asp_defs.proofs.Lists.{both, and_true, true_or_false, all_at, all_from, any_at, any_from, append_at, append_left, append_right}
use Rattle.asp_defs.proofs.Subsets.{true_is_not_false, holds_at, holds_from, subset-member}
use Rattle.asp_defs.proofs.CellLaws.{subset_from}
use Rattle.asp_defs.proofs.FoundedLaws.{answer_set_from_founded}
use Rattle.asp_defs.proofs.Fixing.{is_fact, is_denial, fixes_at, fact_from, fact-says_from, denial-says_from, supported, fact-supports, move_from}
use Rattle.asp_defs.proofs.Irrelevance.{base-up}
use Rattle.asp_entry.specs.Marks.{IsPlaces}
use Rattle.asp_entry.proofs.Marking.{true-within}
use Rattle.asp_explain.specs.Founding.{FoundsMore}
use Rattle.asp_explain.proofs.Cubing.{places-are}
use Rattle.asp_explain.proofs.FoundedAtoms.{founded-first}
use Rattle.asp_eval.specs.Covering.{IsWithin}
use Rattle.cube_tests.specs.Moves.{AreFounded, AgreeOn}

-- ---- loops

not-lacking : (x y : Bool) → (x && not y) ≡ false → x ≡ true → y ≡ true
not-lacking true true h e = refl
not-lacking true false h e = absurd (cc)
not-lacking false y h e = absurd (cc)

pub within-more : (I J : List ℕ) (k : ℕ) → (holds I k && not (holds J k)) ≡ false → ((a : ℕ) → a < k → holds I a ≡ true → holds J a ≡ true)
    → (a : ℕ) → a < k + 1 → holds I a ≡ true → holds J a ≡ true
within-more I J k here so_far a low i = elim (cases_eq a k) [
  | inl e ↦
      subst (λ (b : ℕ). holds J b ≡ true) (sym e) (not-lacking (holds I k) (holds J k) here (subst (λ (b : ℕ). holds I b ≡ true) e i))
  | inr n ↦ so_far a (omega (arith, low, n)) i
]

pub within-all : (values : List Bool) (J : List ℕ) (k : ℕ) → length values ≤ k → ((a : ℕ) → a < k → holds (true_places values) a ≡ true → holds J a ≡ true)
    → IsWithin (true_places values) J
within-all values J k h so_far a i = so_far a (omega (arith, true-within values a i, h)) i

pub agree-none : (M N : List ℕ) → AgreeOn [] M N
agree-none M N a i = absurd i

pub agree-more : (atoms : List ℕ) (i d : ℕ) (M N : List ℕ) → i < length atoms → AgreeOn (take i atoms) M N → holds N (get_or atoms i d) ≡ holds M (get_or atoms i d)
    → AgreeOn (take (i + 1) atoms) M N
agree-more atoms i d M N h so_far here a j =
    elim (append_at (take i atoms) (get_or atoms i d ∷ []) a (subst (λ (xs : List ℕ). IsIn a xs) (take_more atoms i d h) j)) [
      | inl early ↦ so_far a early
      | inr last ↦ elim last [ inl e ↦ subst (λ (b : ℕ). holds N b ≡ holds M b) (sym e) here | inr never ↦ absurd never ]
    ]

pub agree-all : (atoms : List ℕ) (i : ℕ) (M N : List ℕ) → length atoms ≤ i → AgreeOn (take i atoms) M N → AgreeOn atoms M N
agree-all atoms i M N h so_far = subst (λ (xs : List ℕ). AgreeOn xs M N) (take_all i atoms h) so_far

-- ---- foundations

-- where atoms were founded one after another, and they are all atoms of N, each set of own atoms is supported
pub all-founded : (G : List GroundRule) (B N : List ℕ) (m f m' f' : List Bool) → true_places f ≡ B → FoundsMore B N G m f m' f' → IsWithin N (true_places f') → AreFounded G B N
all-founded G B N m f m' f' first more inside u U subset own =
    let hit : list_any (holds (true_places f')) (u ∷ U) ≡ true =
    any_from (holds (true_places f')) (u ∷ U) u (inl refl) (inside u (holds_from N u (subset-member N (u ∷ U) u subset (inl refl)))) in
    let s = more.keeps G (λ r i. i) (founded-first G B (true_places m) N (true_places f) first) u U subset own hit in
    record { rule = s.rule; member = s.member; supports_it = s.supports_it }

-- ---- moves

-- a subset of a base, from its places
pub base-subset : (g : Game) (i : ℕ) (atoms : List ℕ) (count : ℕ) (values places : List Bool) → atoms ≡ base g i → IsPlaces atoms count places
    → IsWithin (true_places values) (true_places places) → is_subset (true_places values) (base g i) ≡ true
base-subset g i atoms count values places atoms_are are inside =
    and_true (ascends (true_places values)) (within (true_places values) (base g i)) (ascends-true_from 0 values)
    (all_from (holds (base g i)) (true_places values) (λ a j.
    sym (ap (λ xs. holds xs a) atoms_are) ∙ (sym (are.each a) ∙ inside a (holds_from (true_places values) a j))))

pub outer-subset : (g : Game) (i : ℕ) (atoms : List ℕ) (count : ℕ) (values places : List Bool) → atoms ≡ base g (i - 1) → IsPlaces atoms count places
    → IsWithin (true_places values) (true_places places) → is_subset (true_places values) (base g (i - 1)) ≡ true
outer-subset g i atoms count values places atoms_are are inside = base-subset g (i - 1) atoms count values places atoms_are are inside

module _ (G : List GroundRule) (B M N : List ℕ) (up : ascends N ≡ true) (outer : (a : ℕ) → IsIn a M → IsIn a B) (alike : AgreeOn B M N) (model : is_model N G ≡ true)
    (founded : AreFounded G B N) where
  fixed-model : is_model N (G ++ fix B M) ≡ true
  fixed-model =
      all_from (satisfies N) (G ++ fix B M) (λ r i.
      elim (append_at G (fix B M) r i) [
        | inl plain ↦ all_at (satisfies N) G r model plain
        | inr fixing ↦ elim (fixes_at B M r fixing) [
          | is_fact a inside e ↦ rw e (fact-says_from (holds N a) (alike a (outer a inside) ∙ holds_from M a inside))
          | is_denial a lower outside e ↦ rw e (denial-says_from (holds N a) (alike a lower ∙ outside))
        ]
      ])

  fixed-founded : (u : ℕ) (U : List ℕ) → IsIn (u ∷ U) (subsets N) → is_unfounded (G ++ fix B M) N (u ∷ U) ≡ false
  fixed-founded u U inside = elim (true_or_false (list_any (holds B) (u ∷ U))) [
    | inl some ↦
        let found = any_at (holds B) (u ∷ U) some in
        let b = found.0 in
        let true_one : holds M b ≡ true = sym (alike b (holds_at B b found.2)) ∙ holds_from N b (subset-member N (u ∷ U) b inside found.1) in
        supported (G ++ fix B M) N (u ∷ U) (fact b) (append_right G (fix B M) (fact b) (fact_from B M b (holds_at M b true_one)))
        (fact-supports N (u ∷ U) b (holds_from (u ∷ U) b found.1))
    | inr none ↦
        let s = founded u U inside (λ b i.
        elim (true_or_false (holds B b)) [
          | inl lower ↦ absurd (true_is_not_false _ (any_from (holds B) (u ∷ U) b i lower) none)
          | inr own ↦ own
        ]) in
        supported (G ++ fix B M) N (u ∷ U) s.rule (append_left G (fix B M) s.rule s.member) s.supports_it
  ]

-- a set over a level's base that agrees with an outer move, satisfies the rules, meets the bounds and has no unfounded set of
-- own atoms is a move
pub move-is : (g : Game) (i : ℕ) (lower_atoms over_atoms : List ℕ) (n m : ℕ) (first second lower over : List Bool) (rules : List GroundRule) (bounds : List Bound)
    → IsValid g → i ≤ level_count g + 1 → lower_atoms ≡ base g (i - 1) → over_atoms ≡ base g i → IsPlaces lower_atoms n lower → IsPlaces over_atoms m over
    → rules ≡ rules_of g i → bounds ≡ bounds_of g i → IsWithin (true_places first) (true_places lower) → IsWithin (true_places second) (true_places over)
    → AgreeOn (base g (i - 1)) (true_places first) (true_places second) → is_model (true_places second) rules ≡ true → meets_all (true_places second) bounds ≡ true
    → AreFounded rules (true_places lower) (true_places second) → IsIn (true_places second) (moves g i (true_places first))
move-is g i lower_atoms over_atoms n m first second lower over rules bounds valid last lower_are over_are lower_is over_is rules_are bounds_are outside inside alike model met founded =
    let B = base g (i - 1) in
    let M = true_places first in
    let N = true_places second in
    let G = rules_of g i in
    let up : ascends N ≡ true = ascends-true_from 0 second in
    let subset : is_subset M B ≡ true = outer-subset g i lower_atoms n first lower lower_are lower_is outside in
    let outer : (a : ℕ) → IsIn a M → IsIn a B = λ a j. holds_at B a (all_at (holds B) M a ((both (ascends M) (within M B) subset).1) j) in
    let here : is_model N G ≡ true = subst (λ (rs : List GroundRule). is_model N rs ≡ true) rules_are model in
    let own : AreFounded G B N =
    subst (λ (rs : List GroundRule). AreFounded rs B N) rules_are
    (subst (λ (xs : List ℕ). AreFounded rules xs N) (places-are g (i - 1) lower_atoms n lower valid lower_are lower_is) founded) in
    move_from g i M N
    (subset_from (base g i) N (base-up g i valid) up (λ a j.
    holds_at (base g i) a (sym (ap (λ xs. holds xs a) over_are) ∙ (sym (over_is.each a) ∙ inside a (holds_from N a j)))))
    (answer_set_from_founded (G ++ fix B M) N up (fixed-model G B M N up outer alike here own) (fixed-founded G B M N up outer alike here own))
    (subst (λ (bs : List Bound). meets_all N bs ≡ true) bounds_are met)
