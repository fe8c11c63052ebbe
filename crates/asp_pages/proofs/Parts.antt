-- The regions part the subsets of a base, in order.
use Rattle.std.proofs.Common.{ℕ, zero, suc, ◌+◌, ◌^◌, ◌<◌, ◌≡◌, ◌≢◌, refl, sym, ◌∙◌, ap, subst, inl, inr, Bool, true, false, not, ◌&&◌, cond, List, [], ◌∷◌, ◌++◌, length, map, Option, None, Some, min, append-nil, arith}
use Rattle.std.specs.Prelude.{IfSome}
use Rattle.std.specs.List.{filter, flat_map}
use Rattle.std.specs.Ordering.{is_lt}
use Rattle.std.specs.Cmp.{nat_cmp_is}
use Rattle.std.specs.declared.cmp.Ordering.{Ordering}
use Rattle.std.specs.declared.cmp.Ordering.TheVariants.{Less, Equal, Greater}
use Rattle.std.proofs.lemmas.Bool.{ne_eqb}
use Rattle.std.proofs.lemmas.List.{length-append}
use Rattle.asp_defs.specs.declared.ground.Lit.{Lit}
use Rattle.asp_defs.specs.Lists.{IsIn}
use Rattle.asp_defs.specs.Interpretations.{holds, subsets}
use Rattle.asp_defs.specs.Games.{ascends, is_subset}
use Rattle.asp_defs.specs.Entries.{lit_true, cube_holds}
use Rattle.asp_defs.specs.Pages.{set_cmp, comes_after}
use Rattle.asp_defs.proofs.Lists.{append_at, append_left, append_right, map_at, map_from}
use Rattle.asp_defs.proofs.Subsets.{holds_from, subset_at, subset-member, ascends-tail, ascends-member}
use Rattle.asp_defs.proofs.Fixing.{holds_not, is_subset_from}
use Rattle.asp_defs.proofs.SubsetLaws.{subsets_are_listed}
use Rattle.asp_pages.specs.Regions.{literal, fronted, patterns, with_atom, regions_behind, regions_of}
use Rattle.asp_pages.specs.Laws.{RegionsPart, RegionsAreCounted, RegionsAreOnBase}
use Rattle.asp_pages.proofs.Filters.{filter_same, filter_all, filter_none, filter_append, filter_map, filter_swap, flat_map_same, flat_map_append, flat_map_map, map_flat_map, filter_flat_map}

-- ---- the atoms of regions

abbrev atoms_in : List Lit → List ℕ
atoms_in region = map (λ l. l.atom) region

empty_subset : (B : List ℕ) → IsIn [] (subsets B)
empty_subset [] = inl refl
empty_subset (a ∷ B) = append_left (subsets B) (map (λ J. a ∷ J) (subsets B)) [] (empty_subset B)

with_first : (a : ℕ) (B J : List ℕ) → IsIn J (subsets B) → IsIn (a ∷ J) (subsets (a ∷ B))
with_first a B J i =
    append_right (subsets B) (map (λ K. a ∷ K) (subsets B)) (a ∷ J) (map_from (λ K. a ∷ K) (subsets B) J i)

fronted_on_base : (value : Bool) (a : ℕ) (B : List ℕ) (regions : List (List Lit)) (region : List Lit)
    → ((r : List Lit) → IsIn r regions → IsIn (atoms_in r) (subsets B)) → IsIn region (fronted value a regions) → IsIn (atoms_in region) (subsets (a ∷ B))
fronted_on_base value a B regions region h i =
    let found = map_at (λ r. literal value a ∷ r) regions region i in
    subst (λ (r : List Lit). IsIn (atoms_in r) (subsets (a ∷ B))) (sym found.2) (with_first a B (atoms_in found.0) (h found.0 found.1))

patterns_on_base : (split : ℕ) (B : List ℕ) (region : List Lit) → IsIn region (patterns split B) → IsIn (atoms_in region) (subsets B)
patterns_on_base zero B region (inl e) = subst (λ (r : List Lit). IsIn (atoms_in r) (subsets B)) (sym e) (empty_subset B)
patterns_on_base zero B region (inr i) = absurd i
patterns_on_base (suc split) [] region (inl e) = subst (λ (r : List Lit). IsIn (atoms_in r) (subsets [])) (sym e) (empty_subset [])
patterns_on_base (suc split) [] region (inr i) = absurd i
patterns_on_base (suc split) (a ∷ B) region i =
    elim (append_at (fronted false a (patterns split B)) (fronted true a (patterns split B)) region i) [
      | inl h ↦ fronted_on_base false a B (patterns split B) region (patterns_on_base split B) h
      | inr h ↦ fronted_on_base true a B (patterns split B) region (patterns_on_base split B) h
    ]

with_atom_on_base : (inside : Bool) (a : ℕ) (B : List ℕ) (regions : List (List Lit)) (region : List Lit)
    → ((r : List Lit) → IsIn r regions → IsIn (atoms_in r) (subsets B)) → IsIn region (with_atom inside a regions) → IsIn (atoms_in region) (subsets (a ∷ B))
with_atom_on_base true a B regions region h i = fronted_on_base true a B regions region h i
with_atom_on_base false a B regions region h i =
    elim (append_at (fronted false a regions) ((literal true a ∷ []) ∷ []) region i) [
      | inl front ↦ fronted_on_base false a B regions region h front
      | inr back ↦ elim back [
        | inl e ↦ subst (λ (r : List Lit). IsIn (atoms_in r) (subsets (a ∷ B))) (sym e) (with_first a B [] (empty_subset B))
        | inr none ↦ absurd none
      ]
    ]

behind_on_base : (I B : List ℕ) (region : List Lit) → IsIn region (regions_behind I B) → IsIn (atoms_in region) (subsets B)
behind_on_base I [] region i = absurd i
behind_on_base I (a ∷ B) region i = with_atom_on_base (holds I a) a B (regions_behind I B) region (behind_on_base I B) i

regions_on_base : (B : List ℕ) (after : Option (List ℕ)) (split : ℕ) (region : List Lit) → IsIn region (regions_of B after split) → IsIn (atoms_in region) (subsets B)
regions_on_base B None split region i = patterns_on_base split B region i
regions_on_base B (Some I) split region i = behind_on_base I B region i

pub regions_are_on_base : RegionsAreOnBase
regions_are_on_base B after split region up i = is_subset_from B (atoms_in region) up (regions_on_base B after split region i)

-- ---- one more atom at the front of the base

-- the atoms of literals are greater than an atom
abbrev AreBehind : ℕ → List Lit → Type 0
AreBehind a region = (x : ℕ) → IsIn x (atoms_in region) → a < x

are_behind : (a : ℕ) (B : List ℕ) (region : List Lit) → ascends (a ∷ B) ≡ true → IsIn (atoms_in region) (subsets B) → AreBehind a region
are_behind a B region up i = λ x member. ascends-member a B x up (subset-member B (atoms_in region) x i member)

lacks_first : (a : ℕ) (B J : List ℕ) → ascends (a ∷ B) ≡ true → IsIn J (subsets B) → holds J a ≡ false
lacks_first a B J up i = holds_not J a (λ member. let above : a < a = ascends-member a B a up (subset-member B J a i member) in absurd (omega arith))

holds_first : (a : ℕ) (J : List ℕ) → holds (a ∷ J) a ≡ true
holds_first a J = holds_from (a ∷ J) a (inl refl)

holds_later : (a : ℕ) (J : List ℕ) (c : ℕ) → a < c → holds (a ∷ J) c ≡ holds J c
holds_later a J c h = let apart : a ≢ c = omega arith in rw (ne_eqb a c apart) refl

cube_later : (a : ℕ) (J : List ℕ) (region : List Lit) → AreBehind a region → cube_holds region (a ∷ J) ≡ cube_holds region J
cube_later a J [] h = refl
cube_later a J (l ∷ region) h =
    ap (λ (t : Bool). cond l.positive t (not t) && cube_holds region (a ∷ J)) (holds_later a J l.atom (h l.atom (inl refl)))
    ∙ ap (λ (t : Bool). lit_true J l && t) (cube_later a J region (λ x i. h x (inr i)))

-- a literal of the first atom at the front
false_of_lacking : (a : ℕ) (J : List ℕ) (region : List Lit) → holds J a ≡ false → cube_holds (literal false a ∷ region) J ≡ cube_holds region J
false_of_lacking a J region h = ap (λ (t : Bool). not t && cube_holds region J) h

true_of_lacking : (a : ℕ) (J : List ℕ) (region : List Lit) → holds J a ≡ false → cube_holds (literal true a ∷ region) J ≡ false
true_of_lacking a J region h = ap (λ (t : Bool). t && cube_holds region J) h

false_of_having : (a : ℕ) (J : List ℕ) (region : List Lit) → cube_holds (literal false a ∷ region) (a ∷ J) ≡ false
false_of_having a J region = ap (λ (t : Bool). not t && cube_holds region (a ∷ J)) (holds_first a J)

true_of_having : (a : ℕ) (J : List ℕ) (region : List Lit) → AreBehind a region → cube_holds (literal true a ∷ region) (a ∷ J) ≡ cube_holds region J
true_of_having a J region h =
    ap (λ (t : Bool). t && cube_holds region (a ∷ J)) (holds_first a J) ∙ cube_later a J region h

-- the sets of a region
abbrev sets_in : List ℕ → List Lit → List (List ℕ)
sets_in B region = filter (cube_holds region) (subsets B)

halves : (a : ℕ) (B : List ℕ) (p : List ℕ → Bool) → filter p (subsets (a ∷ B)) ≡ filter p (subsets B) ++ map (λ J. a ∷ J) (filter (λ J. p (a ∷ J)) (subsets B))
halves a B p =
    filter_append p (subsets B) (map (λ J. a ∷ J) (subsets B))
    ∙ ap (λ zs. filter p (subsets B) ++ zs) (filter_map p (λ J. a ∷ J) (subsets B))

false_region : (a : ℕ) (B : List ℕ) (region : List Lit) → ascends (a ∷ B) ≡ true → sets_in (a ∷ B) (literal false a ∷ region) ≡ sets_in B region
false_region a B region up =
    let p = cube_holds (literal false a ∷ region) in
    halves a B p
    ∙ (ap (λ zs. zs ++ map (λ J. a ∷ J) (filter (λ J. p (a ∷ J)) (subsets B))) (filter_same p (cube_holds region) (subsets B) (λ J i. false_of_lacking a J region (lacks_first a B J up i)))
    ∙ (ap (λ zs. sets_in B region ++ map (λ J. a ∷ J) zs) (filter_none (λ J. p (a ∷ J)) (subsets B) (λ J i. false_of_having a J region))
    ∙ append-nil (sets_in B region)))

true_region : (a : ℕ) (B : List ℕ) (region : List Lit) → ascends (a ∷ B) ≡ true → AreBehind a region → sets_in (a ∷ B) (literal true a ∷ region) ≡ map (λ J. a ∷ J) (sets_in B region)
true_region a B region up behind =
    let p = cube_holds (literal true a ∷ region) in
    halves a B p
    ∙ (ap (λ zs. zs ++ map (λ J. a ∷ J) (filter (λ J. p (a ∷ J)) (subsets B))) (filter_none p (subsets B) (λ J i. true_of_lacking a J region (lacks_first a B J up i)))
    ∙ ap (λ zs. map (λ J. a ∷ J) zs) (filter_same (λ J. p (a ∷ J)) (cube_holds region) (subsets B) (λ J i. true_of_having a J region behind)))

false_regions : (a : ℕ) (B : List ℕ) (regions : List (List Lit)) → ascends (a ∷ B) ≡ true → flat_map (sets_in (a ∷ B)) (fronted false a regions) ≡ flat_map (sets_in B) regions
false_regions a B regions up =
    flat_map_map (sets_in (a ∷ B)) (λ region. literal false a ∷ region) regions
    ∙ flat_map_same (λ region. sets_in (a ∷ B) (literal false a ∷ region)) (sets_in B) regions (λ region i. false_region a B region up)

true_regions : (a : ℕ) (B : List ℕ) (regions : List (List Lit)) → ascends (a ∷ B) ≡ true → ((r : List Lit) → IsIn r regions → IsIn (atoms_in r) (subsets B))
    → flat_map (sets_in (a ∷ B)) (fronted true a regions) ≡ map (λ J. a ∷ J) (flat_map (sets_in B) regions)
true_regions a B regions up on =
    flat_map_map (sets_in (a ∷ B)) (λ region. literal true a ∷ region) regions
    ∙ (flat_map_same (λ region. sets_in (a ∷ B) (literal true a ∷ region)) (λ region. map (λ J. a ∷ J) (sets_in B region)) regions (λ region i. true_region a B region up (are_behind a B region up (on region i)))
    ∙ map_flat_map (λ J. a ∷ J) (sets_in B) regions)

-- ---- all sets

open_region : (B : List ℕ) → sets_in B [] ++ [] ≡ subsets B
open_region B = append-nil (sets_in B []) ∙ filter_all (cube_holds []) (subsets B) (λ J i. refl)

patterns_part : (split : ℕ) (B : List ℕ) → ascends B ≡ true → flat_map (sets_in B) (patterns split B) ≡ subsets B
patterns_part zero B up = open_region B
patterns_part (suc split) [] up = open_region []
patterns_part (suc split) (a ∷ B) up =
    let rest : flat_map (sets_in B) (patterns split B) ≡ subsets B = patterns_part split B (ascends-tail a B up) in
    flat_map_append (sets_in (a ∷ B)) (fronted false a (patterns split B)) (fronted true a (patterns split B))
    ∙ (ap (λ zs. zs ++ flat_map (sets_in (a ∷ B)) (fronted true a (patterns split B))) (false_regions a B (patterns split B) up ∙ rest)
    ∙ ap (λ zs. subsets B ++ zs) (true_regions a B (patterns split B) up (patterns_on_base split B) ∙ ap (map (λ J. a ∷ J)) rest))

-- ---- the sets after a set

abbrev compared : Ordering → List ℕ → List ℕ → Bool
compared first I J = is_lt (elim first [ Less ↦ Greater | Equal ↦ set_cmp I J | Greater ↦ Less ])

after_same : (a : ℕ) (I J : List ℕ) → comes_after (Some (a ∷ I)) (a ∷ J) ≡ comes_after (Some I) J
after_same a I J = ap (λ first. compared first I J) (sym (nat_cmp_is a a Equal refl))

-- a set that lacks the first atom comes before each that has it
after_lacking : (a : ℕ) (B K J : List ℕ) → ascends (a ∷ B) ≡ true → IsIn K (subsets B) → comes_after (Some K) (a ∷ J) ≡ true
after_lacking a B [] J up i = refl
after_lacking a B (b ∷ K) J up i =
    let above : a < b = ascends-member a B b up (subset-member B (b ∷ K) b i (inl refl)) in
    ap (λ first. compared first K J) (sym (nat_cmp_is b a Greater above))

not_after_having : (a : ℕ) (B K J : List ℕ) → ascends (a ∷ B) ≡ true → IsIn J (subsets B) → comes_after (Some (a ∷ K)) J ≡ false
not_after_having a B K [] up i = refl
not_after_having a B K (b ∷ J) up i =
    let above : a < b = ascends-member a B b up (subset-member B (b ∷ J) b i (inl refl)) in
    ap (λ first. compared first K J) (sym (nat_cmp_is a b Less above))

-- two sets have the same atoms of a base
abbrev AgreeOn : List ℕ → List ℕ → List ℕ → Type 0
AgreeOn B I K = (b : ℕ) → IsIn b B → holds I b ≡ holds K b

behind_lacking : (a : ℕ) (B I K : List ℕ) → ascends (a ∷ B) ≡ true → IsIn K (subsets B)
    → flat_map (sets_in B) (regions_behind I B) ≡ filter (comes_after (Some K)) (subsets B)
    → flat_map (sets_in (a ∷ B)) (with_atom false a (regions_behind I B)) ≡ filter (comes_after (Some K)) (subsets (a ∷ B))
behind_lacking a B I K up i rest =
    let later : sets_in (a ∷ B) (literal true a ∷ []) ++ [] ≡ map (λ J. a ∷ J) (subsets B) =
    append-nil (sets_in (a ∷ B) (literal true a ∷ []))
    ∙ (true_region a B [] up (λ x none. absurd none) ∙ ap (map (λ J. a ∷ J)) (filter_all (cube_holds []) (subsets B) (λ J j. refl))) in
    flat_map_append (sets_in (a ∷ B)) (fronted false a (regions_behind I B)) ((literal true a ∷ []) ∷ [])
    ∙ (ap (λ zs. zs ++ (sets_in (a ∷ B) (literal true a ∷ []) ++ [])) (false_regions a B (regions_behind I B) up ∙ rest)
    ∙ (ap (λ zs. filter (comes_after (Some K)) (subsets B) ++ zs) later
    ∙ sym (halves a B (comes_after (Some K))
    ∙ ap (λ zs. filter (comes_after (Some K)) (subsets B) ++ map (λ J. a ∷ J) zs) (filter_all (λ J. comes_after (Some K) (a ∷ J)) (subsets B) (λ J j. after_lacking a B K J up i)))))

behind_having : (a : ℕ) (B I K : List ℕ) → ascends (a ∷ B) ≡ true
    → flat_map (sets_in B) (regions_behind I B) ≡ filter (comes_after (Some K)) (subsets B)
    → flat_map (sets_in (a ∷ B)) (with_atom true a (regions_behind I B)) ≡ filter (comes_after (Some (a ∷ K))) (subsets (a ∷ B))
behind_having a B I K up rest =
    true_regions a B (regions_behind I B) up (behind_on_base I B)
    ∙ (ap (map (λ J. a ∷ J)) (rest ∙ sym (filter_same (λ J. comes_after (Some (a ∷ K)) (a ∷ J)) (comes_after (Some K)) (subsets B) (λ J j. after_same a K J)))
    ∙ sym (halves a B (comes_after (Some (a ∷ K)))
    ∙ ap (λ zs. zs ++ map (λ J. a ∷ J) (filter (λ J. comes_after (Some (a ∷ K)) (a ∷ J)) (subsets B))) (filter_none (comes_after (Some (a ∷ K))) (subsets B) (λ J j. not_after_having a B K J up j))))

behind_part : (B I K : List ℕ) → ascends B ≡ true → IsIn K (subsets B) → AgreeOn B I K
    → flat_map (sets_in B) (regions_behind I B) ≡ filter (comes_after (Some K)) (subsets B)
behind_part [] I K up (inl e) agree = subst (λ (J : List ℕ). [] ≡ filter (comes_after (Some J)) (subsets [])) (sym e) refl
behind_part [] I K up (inr i) agree = absurd i
behind_part (a ∷ B) I K up i agree = elim (subset_at a B K i) [
  | inl inside ↦
      subst (λ (t : Bool). flat_map (sets_in (a ∷ B)) (with_atom t a (regions_behind I B)) ≡ filter (comes_after (Some K)) (subsets (a ∷ B)))
      (sym (agree a (inl refl) ∙ lacks_first a B K up inside))
      (behind_lacking a B I K up inside (behind_part B I K (ascends-tail a B up) inside (λ b j. agree b (inr j))))
  | inr begins ↦
      let J : List ℕ = begins.0 in
      let rest = behind_part B I J (ascends-tail a B up) begins.1 (λ b j.
      agree b (inr j) ∙ (ap (λ (L : List ℕ). holds L b) begins.2 ∙ holds_later a J b (ascends-member a B b up j))) in
      subst (λ (L : List ℕ). flat_map (sets_in (a ∷ B)) (regions_behind I (a ∷ B)) ≡ filter (comes_after (Some L)) (subsets (a ∷ B))) (sym begins.2)
      (subst (λ (t : Bool). flat_map (sets_in (a ∷ B)) (with_atom t a (regions_behind I B)) ≡ filter (comes_after (Some (a ∷ J))) (subsets (a ∷ B)))
      (sym (agree a (inl refl) ∙ (ap (λ (L : List ℕ). holds L a) begins.2 ∙ holds_first a J)))
      (behind_having a B I J up rest))
]

all_part : (B : List ℕ) (after : Option (List ℕ)) (split : ℕ) → ascends B ≡ true → IfSome after (λ I. is_subset I B ≡ true)
    → flat_map (sets_in B) (regions_of B after split) ≡ filter (comes_after after) (subsets B)
all_part B None split up h = patterns_part split B up ∙ sym (filter_all (comes_after None) (subsets B) (λ J i. refl))
all_part B (Some I) split up h = behind_part B I I up ((subsets_are_listed B I up).1 h) (λ b i. refl)

pub regions_part : RegionsPart
regions_part B after split test up h =
    flat_map_same (λ region. filter (cube_holds region) (filter test (subsets B))) (λ region. filter test (sets_in B region)) (regions_of B after split) (λ region i. filter_swap (cube_holds region) test (subsets B))
    ∙ (filter_flat_map test (sets_in B) (regions_of B after split)
    ∙ (ap (filter test) (all_part B after split up h)
    ∙ filter_swap test (comes_after after) (subsets B)))

-- ---- how many there are

pub length_map : {A B : Type 0} (f : A → B) (xs : List A) → length (map f xs) ≡ length xs
length_map f [] = refl
length_map f (x ∷ xs) = ap suc (length_map f xs)

pub power_more : (n : ℕ) → 2 ^ suc n ≡ 2 ^ n + 2 ^ n
power_more n = grind arith

pub patterns_counted : (split : ℕ) (B : List ℕ) → length (patterns split B) ≡ 2 ^ min split (length B)
patterns_counted zero B = let e : 0 ≡ min 0 (length B) = omega arith in ap (λ k. 2 ^ k) e
patterns_counted (suc split) [] = let e : 0 ≡ min (suc split) 0 = omega arith in ap (λ k. 2 ^ k) e
patterns_counted (suc split) (a ∷ B) =
    let rest : length (patterns split B) ≡ 2 ^ min split (length B) = patterns_counted split B in
    let e : suc (min split (length B)) ≡ min (suc split) (suc (length B)) = omega arith in
    length-append (fronted false a (patterns split B)) (fronted true a (patterns split B))
    ∙ (ap (λ k. k + length (fronted true a (patterns split B))) (length_map (λ region. literal false a ∷ region) (patterns split B) ∙ rest)
    ∙ (ap (λ k. 2 ^ min split (length B) + k) (length_map (λ region. literal true a ∷ region) (patterns split B) ∙ rest)
    ∙ (sym (power_more (min split (length B))) ∙ ap (λ k. 2 ^ k) e)))

counted_with : (inside : Bool) (a : ℕ) (regions : List (List Lit)) (rest : List ℕ) → length regions ≡ length rest
    → length (with_atom inside a regions) ≡ length (cond (not inside) (a ∷ rest) rest)
counted_with true a regions rest h = length_map (λ region. literal true a ∷ region) regions ∙ h
counted_with false a regions rest h =
    length-append (fronted false a regions) ((literal true a ∷ []) ∷ [])
    ∙ (ap (λ k. k + 1) (length_map (λ region. literal false a ∷ region) regions ∙ h) ∙ omega arith)

pub behind_counted : (I B : List ℕ) → length (regions_behind I B) ≡ length (filter (λ a. not (holds I a)) B)
behind_counted I [] = refl
behind_counted I (a ∷ B) =
    counted_with (holds I a) a (regions_behind I B) (filter (λ b. not (holds I b)) B) (behind_counted I B)

pub regions_are_counted : RegionsAreCounted
regions_are_counted B None split = patterns_counted split B
regions_are_counted B (Some I) split = behind_counted I B
