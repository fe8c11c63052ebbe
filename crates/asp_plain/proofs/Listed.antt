-- The quantified answer sets, by masks and by lists.
use Rattle.std.proofs.Common.{◌≡◌, ◌+◌, ◌<◌, ◌^◌, ℕ, Bool, true, false, not, ◌&&◌, cond, eqb, List, [], ◌∷◌, ◌++◌, length, get_or, map, drop, refl, sym, ap, ◌∙◌, subst, inl, inr, arith}
use Rattle.std.specs.Prelude.{All}
use Rattle.std.specs.List.{list_all, filter}
use Rattle.std.specs.Int.{bit_at}
use Rattle.std.proofs.lemmas.Bool.{cases_lt, both_ways, false_from_ne_true}
use Rattle.std.proofs.lemmas.Nat.Bits.{bit_at-zero}
use Rattle.std.proofs.lemmas.List.{get_or_past, length-drop}
use Rattle.std.proofs.lemmas.List.Elements.{All-map}
use Rattle.std.proofs.lemmas.List.FromFn.{length-map-range_with_len, get_or-map-range_with_len}
use Rattle.asp_bits.specs.Places.{true_places}
use Rattle.asp_reduct.proofs.Truths.{holds-true_places, ascends-true_from}
use Rattle.asp_defs.specs.declared.ground.Game.{Game}
use Rattle.asp_defs.specs.declared.syntax.Quant.{Quant}
use Rattle.asp_defs.specs.Lists.{IsIn}
use Rattle.asp_defs.specs.Interpretations.{holds, subsets}
use Rattle.asp_defs.specs.AnswerSets.{is_bounded_answer_set, answer_sets}
use Rattle.asp_defs.specs.Games.{base, rules_of, bounds_of, ascends, IsValid}
use Rattle.asp_defs.specs.Values.{fix, moves, value_from, value, quantified_answer_sets}
use Rattle.asp_defs.proofs.Lists.{filter_at, map_from}
use Rattle.asp_defs.proofs.Subsets.{subset-holds}
use Rattle.asp_plain.specs.declared.masks.Level.{Level}
use Rattle.asp_plain.specs.Masks.{mask_of, own_bits, candidates}
use Rattle.asp_plain.specs.Levels.{AreMasked, first_own, masked_value, is_won}
use Rattle.asp_plain.specs.Sets.{values_of}
use Rattle.asp_plain.proofs.Ascending.{same_ascending}
use Rattle.asp_plain.proofs.Atoms.{bit, bit-mask_of}
use Rattle.asp_plain.proofs.AtomsBelow.{atom-below}
use Rattle.asp_plain.proofs.Coherence.{HasBases-valid, value-same, stands-nothing}
use Rattle.asp_plain.proofs.Known.{told}
use Rattle.asp_plain.proofs.Minimal.{bounded-same}
use Rattle.asp_plain.proofs.Moves.{subset-ascends}
use Rattle.asp_plain.proofs.Standing.{map-map, Stands, stands-mask_of, candidates-atoms}

-- the interpretation of a subset's mask is the subset
restored : (count : ℕ) (B J : List ℕ) → ascends B ≡ true → ((a : ℕ) → holds B a ≡ true → a < count) → IsIn J (subsets B)
    → true_places (values_of count (mask_of J)) ≡ J
restored count B J up below i =
    same_ascending (true_places (values_of count (mask_of J))) J (ascends-true_from 0 (values_of count (mask_of J)))
    (subset-ascends B J up i) (λ a.
    holds-true_places (values_of count (mask_of J)) a ∙ elim (cases_lt a count) [
      | inl less ↦
          get_or-map-range_with_len (λ k. eqb (bit_at (mask_of J) k) 1) 0 count a a false less (omega arith) ∙ bit-mask_of J a
      | inr past ↦
          get_or_past (values_of count (mask_of J)) a false
          (omega (arith, length-map-range_with_len (λ k. eqb (bit_at (mask_of J) k) 1) 0 count))
          ∙ sym (false_from_ne_true (holds J a) (λ h. let less = below a (subset-holds B J a i h) in omega arith))
    ])

-- ---- lists of sets

map_fixed_members : {X : Type 0} (f : X → X) (xs : List X) → ((x : X) → IsIn x xs → f x ≡ x) → map f xs ≡ xs
map_fixed_members f [] h = refl
map_fixed_members f (x ∷ xs) h =
    ap (λ y. y ∷ map f xs) (h x (inl refl)) ∙ ap (λ ys. x ∷ ys) (map_fixed_members f xs (λ y i. h y (inr i)))

map-cond : {X Y : Type 0} (f : X → Y) (b : Bool) (x : X) (ys : List X)
    → cond b (f x ∷ map f ys) (map f ys) ≡ map f (cond b (x ∷ ys) ys)
map-cond f true x ys = refl
map-cond f false x ys = refl

filter-map : {X Y : Type 0} (p : Y → Bool) (f : X → Y) (xs : List X) → filter p (map f xs) ≡ map f (filter (λ x. p (f x)) xs)
filter-map p f [] = refl
filter-map p f (x ∷ xs) =
    ap (λ ys. cond (p (f x)) (f x ∷ ys) ys) (filter-map p f xs) ∙ map-cond f (p (f x)) x (filter (λ y. p (f y)) xs)

filter-cond : {X : Type 0} (p : X → Bool) (b : Bool) (x : X) (ys : List X)
    → filter p (cond b (x ∷ ys) ys) ≡ cond (b && p x) (x ∷ filter p ys) (filter p ys)
filter-cond p true x ys = refl
filter-cond p false x ys = refl

filter-filter : {X : Type 0} (p q : X → Bool) (xs : List X) → filter p (filter q xs) ≡ filter (λ x. q x && p x) xs
filter-filter p q [] = refl
filter-filter p q (x ∷ xs) =
    filter-cond p (q x) x (filter q xs) ∙ ap (λ ys. cond (q x && p x) (x ∷ ys) ys) (filter-filter p q xs)

filter_all : {X : Type 0} (p : X → Bool) (xs : List X) → ((x : X) → p x ≡ true) → filter p xs ≡ xs
filter_all p [] h = refl
filter_all p (x ∷ xs) h =
    ap (λ b. cond b (x ∷ filter p xs) (filter p xs)) (h x) ∙ ap (λ ys. x ∷ ys) (filter_all p xs h)

filter_members : {X : Type 0} (p q : X → Bool) (xs : List X) → ((x : X) → IsIn x xs → p x ≡ q x) → filter p xs ≡ filter q xs
filter_members p q [] h = refl
filter_members p q (x ∷ xs) h =
    ap (λ b. cond b (x ∷ filter p xs) (filter p xs)) (h x (inl refl))
    ∙ ap (λ ys. cond (q x) (x ∷ ys) ys) (filter_members p q xs (λ y i. h y (inr i)))

-- ---- the listing

-- nothing is below the first base, so all atoms of level 1 are its own
own-first : (lower base : List ℕ) → lower ≡ [] → own_bits lower base ≡ map (λ a. 2 ^ a) base
own-first lower base none =
    ap (map (λ a. 2 ^ a))
    (filter_all (λ a. not (holds lower a)) base (λ a. ap (λ (B : List ℕ). not (holds B a)) none))

-- the first level over a base, above an empty one
module _ (g : Game) (quants : List Quant) (level : Level) (levels : List Level) (valid : IsValid g)
    (masked : AreMasked g 0 (level ∷ levels)) (same : length levels ≡ length quants + 1)
    (few : length (level ∷ levels) + 1 ≡ length g.bases.members) where
  abbrev B : List ℕ
  B = base g (0 + 1)

  -- the candidates of the first level are the masks of the subsets of its base
  first-candidates : candidates 0 level.own ≡ map mask_of (subsets B)
  first-candidates =
      ap (candidates 0) (masked.0.own ∙ own-first (base g 0) B valid.first_base) ∙ candidates-atoms 0 B

  -- a subset's mask is won where the subset is an answer set with the value true behind
  won-same : (J : List ℕ) → IsIn J (subsets B)
      → is_won quants (level ∷ levels) (mask_of J)
      ≡ (is_bounded_answer_set (get_or g.rules 0 [] ++ fix (base g 0) []) (get_or g.bounds 0 []) J && value_from g quants (0 + 1 + 1) J)
  won-same J i =
      let bases = HasBases-valid g valid in
      let stands : Stands B J (mask_of J) = stands-mask_of B J i in
      ap (λ t. t && masked_value quants levels (mask_of J))
      (told (get_or g.rules 0 []) (get_or g.bounds 0 []) level (base g 0) B [] 0 masked.0 (stands-nothing (base g 0) valid.first_base)
      (λ a. bases.nested 0 a (omega arith)) (mask_of J)
      (subst (IsIn (mask_of J)) (sym first-candidates) (map_from mask_of (subsets B) J i))
      ∙ bounded-same (get_or g.rules 0 []) (base g 0) B [] J 0 (mask_of J)
      (stands-nothing (base g 0) valid.first_base) stands
      (subset-ascends B J (bases.ascending 1 (omega arith)) i)
      (λ a h. absurd (both_ways (bit 0 a) (ap (λ t. eqb t 1) (bit_at-zero a)) h))
      (ap (λ (C : List ℕ). list_all (λ a. not (holds J a)) (filter (λ a. not (holds [] a)) C)) valid.first_base) (get_or g.bounds 0 []))
      ∙ ap (λ t. is_bounded_answer_set (get_or g.rules 0 [] ++ fix (base g 0) []) (get_or g.bounds 0 []) J && t)
      (value-same g bases quants 1 levels masked.1 same (omega arith) J (mask_of J) stands)

  -- the won masks are those of the answer sets with the value true behind
  pub won-masks : filter (is_won quants (level ∷ levels)) (candidates 0 level.own)
      ≡ map mask_of (filter (value_from g quants (0 + 1 + 1)) (answer_sets (get_or g.rules 0 [] ++ fix (base g 0) []) (get_or g.bounds 0 []) B))
  won-masks =
      ap (filter (is_won quants (level ∷ levels))) first-candidates
      ∙ filter-map (is_won quants (level ∷ levels)) mask_of (subsets B)
      ∙ ap (map mask_of)
      (filter_members (λ J. is_won quants (level ∷ levels) (mask_of J))
      (λ J. is_bounded_answer_set (get_or g.rules 0 [] ++ fix (base g 0) []) (get_or g.bounds 0 []) J && value_from g quants (0 + 1 + 1) J)
      (subsets B) won-same
      ∙ sym (filter-filter (value_from g quants (0 + 1 + 1)) (is_bounded_answer_set (get_or g.rules 0 [] ++ fix (base g 0) []) (get_or g.bounds 0 [])) (subsets B)))

-- the interpretations of the won masks are the quantified answer sets, in their order
pub listed : (g : Game) (levels : List Level) (masks : List ℕ) (count : ℕ) → IsValid g → AreMasked g 0 levels
    → length levels ≡ length g.rules → count ≡ length g.bases.atoms
    → masks ≡ filter (is_won (drop 1 g.quants) levels) (candidates 0 (first_own levels))
    → map true_places (map (values_of count) masks) ≡ quantified_answer_sets g
listed g [] masks count valid masked same few is = absurd (omega (arith, same, valid.rule_lists))
listed g (level ∷ levels) masks count valid masked same few is =
    let sets : List (List ℕ) = quantified_answer_sets g in
    let shorter : length (drop 1 g.quants) + 1 ≡ length g.quants = omega (arith, length-drop 1 g.quants, valid.some_levels) in
    let masks_are : masks ≡ map mask_of sets =
    is ∙ won-masks g (drop 1 g.quants) level levels valid masked
    (omega (arith, same, valid.rule_lists)) (omega (arith, same, valid.rule_lists, valid.base_lists)) in
    ap (λ ms. map true_places (map (values_of count) ms)) masks_are
    ∙ ap (map true_places) (map-map (values_of count) mask_of sets)
    ∙ map-map true_places (λ J. values_of count (mask_of J)) sets
    ∙ map_fixed_members (λ J. true_places (values_of count (mask_of J))) sets (λ J i.
    let inside = (filter_at (is_bounded_answer_set (rules_of g 1 ++ fix (base g 0) []) (bounds_of g 1)) (subsets (base g 1)) J
    ((filter_at (value g 2) (moves g 1 []) J i).0)).0 in
    restored count (base g 1) J ((HasBases-valid g valid).ascending 1 (omega (arith, valid.base_lists, valid.some_levels)))
    (λ a h. atom-below g valid count (omega arith) 1 a (omega (arith, valid.base_lists, valid.some_levels)) h) inside)

-- each interpretation has a place for each atom
pub all_places : (count : ℕ) (masks : List ℕ) → All (λ set. length set ≡ count) (map (values_of count) masks)
all_places count masks =
    All-map (λ set. length set ≡ count) (values_of count) masks
    (λ k d l. length-map-range_with_len (λ a. eqb (bit_at (get_or masks k d) a) 1) 0 count)
