-- The region at a place, atom by atom.
use Rattle.std.proofs.Common.{ℕ, zero, suc, ◌+◌, ◌-◌, ◌/◌, ◌^◌, ◌<◌, ◌≤◌, ◌≡◌, refl, sym, ◌∙◌, ap, subst, inl, inr, Bool, true, false, not, cond, List, [], ◌∷◌, ◌++◌, length, take, drop, get_or, nat_le, Some, min, arith}
use Rattle.std.specs.Prelude.{◌==◌, option_map}
use Rattle.std.specs.List.{filter, slice_get}
use Rattle.std.proofs.lemmas.List.{append_assoc, take_more, drop_more, length-append, length-drop}
use Rattle.std.proofs.lemmas.Option.{slice_get-map}
use Rattle.std.proofs.lemmas.Bool.{ne_eqb, leb-true}
use Rattle.asp_bits.specs.Places.{true_places}
use Rattle.asp_reduct.proofs.Truths.{holds-read}
use Rattle.asp_defs.specs.declared.ground.Lit.{Lit}
use Rattle.asp_defs.specs.Interpretations.{holds}
use Rattle.asp_defs.proofs.Lists.{true_or_false}
use Rattle.asp_pages.specs.Regions.{literal, fronted, patterns, with_atom, regions_behind}
use Rattle.asp_pages.proofs.Filters.{filter_append}
use Rattle.asp_pages.proofs.Parts.{length_map, patterns_counted, behind_counted, power_more}

-- ---- counting

abbrev pub is_false : List ℕ → ℕ → Bool
is_false I a = not (holds I a)

one_more : (p : ℕ → Bool) (x : ℕ) → length (filter p (x ∷ [])) ≡ cond (p x) 1 0
one_more p x = elim (true_or_false (p x)) [
  | inl h ↦ rw h refl
  | inr h ↦ rw h refl
]

pub counted_more : (p : ℕ → Bool) (xs : List ℕ) (i : ℕ) (d : ℕ) → i < length xs
    → length (filter p (take (i + 1) xs)) ≡ length (filter p (take i xs)) + cond (p (get_or xs i d)) 1 0
counted_more p xs i d h =
    ap (λ ys. length (filter p ys)) (take_more xs i d h)
    ∙ (ap length (filter_append p (take i xs) (get_or xs i d ∷ []))
    ∙ (length-append (filter p (take i xs)) (filter p (get_or xs i d ∷ []))
    ∙ ap (λ k. length (filter p (take i xs)) + k) (one_more p (get_or xs i d))))

-- one more atom was counted, or it is true in the set
pub counted : (set : List Bool) (xs : List ℕ) (i d count : ℕ) (v : Bool) → i < length xs → slice_get set (get_or xs i d) ≡ Some v
    → count ≡ length (filter (is_false (true_places set)) (take i xs))
    → count + cond (not v) 1 0 ≡ length (filter (is_false (true_places set)) (take (i + 1) xs))
counted set xs i d count v h read is =
    ap (λ k. k + cond (not v) 1 0) is
    ∙ (ap (λ (t : Bool). length (filter (is_false (true_places set)) (take i xs)) + cond (not t) 1 0) (sym (holds-read set (get_or xs i d) v read))
    ∙ sym (counted_more (is_false (true_places set)) xs i d h))

-- ---- places

get-append_left : {A : Type 0} (xs ys : List A) (i : ℕ) → i < length xs → slice_get (xs ++ ys) i ≡ slice_get xs i
get-append_left [] ys i h = absurd (let none : i < 0 = h in omega arith)
get-append_left (x ∷ xs) ys zero h = refl
get-append_left (x ∷ xs) ys (suc i) h = let less : suc i < suc (length xs) = h in get-append_left xs ys i (omega (arith, less))

get-append_right : {A : Type 0} (xs ys : List A) (i : ℕ) → length xs ≤ i → slice_get (xs ++ ys) i ≡ slice_get ys (i - length xs)
get-append_right [] ys i h = let e : i ≡ i - 0 = omega arith in ap (slice_get ys) e
get-append_right (x ∷ xs) ys zero h = absurd (let more : suc (length xs) ≤ 0 = h in omega (arith, more))
get-append_right (x ∷ xs) ys (suc i) h =
    let more : suc (length xs) ≤ suc i = h in
    let e : i - length xs ≡ suc i - suc (length xs) = omega arith in
    get-append_right xs ys i (omega (arith, more)) ∙ ap (slice_get ys) e

-- ---- patterns

-- the pattern at a place: the first half of them has the first atom false
abbrev pub pattern_at : ℕ → List ℕ → ℕ → List Lit
pattern_at zero B at = []
pattern_at (suc count) [] at = []
pattern_at (suc count) (a ∷ B) at =
    literal (nat_le (2 ^ min count (length B)) at) a
    ∷ pattern_at count B (cond (nat_le (2 ^ min count (length B)) at) (at - 2 ^ min count (length B)) at)

fronted_at : (value : Bool) (a : ℕ) (regions : List (List Lit)) (at : ℕ) (region : List Lit) → slice_get regions at ≡ Some region
    → slice_get (fronted value a regions) at ≡ Some (literal value a ∷ region)
fronted_at value a regions at region h =
    slice_get-map (λ r. literal value a ∷ r) regions at ∙ ap (option_map (λ (r : List Lit). literal value a ∷ r)) h

le_false : (m n : ℕ) → nat_le m n ≡ false → n < m
le_false m n h = grind arith

pub pattern_is : (count : ℕ) (B : List ℕ) (at : ℕ) → at < 2 ^ min count (length B) → slice_get (patterns count B) at ≡ Some (pattern_at count B at)
pattern_is zero B at h =
    let e : min 0 (length B) ≡ 0 = omega arith in
    let one : at < 2 ^ 0 = subst (λ (k : ℕ). at < 2 ^ k) e h in
    let first : at ≡ 0 = omega (arith, one) in
    ap (slice_get {X = List Lit} ([] ∷ [])) first
pattern_is (suc count) [] at h =
    let e : min (suc count) 0 ≡ 0 = omega arith in
    let one : at < 2 ^ 0 = subst (λ (k : ℕ). at < 2 ^ k) e h in
    let first : at ≡ 0 = omega (arith, one) in
    ap (slice_get {X = List Lit} ([] ∷ [])) first
pattern_is (suc count) (a ∷ B) at h =
    let half : ℕ = 2 ^ min count (length B) in
    let P : List (List Lit) = patterns count B in
    let size : length (fronted false a P) ≡ half = length_map (λ r. literal false a ∷ r) P ∙ patterns_counted count B in
    let e : min (suc count) (suc (length B)) ≡ suc (min count (length B)) = omega arith in
    let whole : at < half + half = subst (λ (k : ℕ). at < k) (ap (λ k. 2 ^ k) e ∙ power_more (min count (length B))) h in
    elim (true_or_false (nat_le half at)) [
      | inl upper ↦
          let reached : half ≤ at = leb-true half at upper in
          get-append_right (fronted false a P) (fronted true a P) at (omega (arith, size, reached))
          ∙ (ap (λ k. slice_get (fronted true a P) (at - k)) size
          ∙ (fronted_at true a P (at - half) (pattern_at count B (at - half)) (pattern_is count B (at - half) (omega (arith, whole, reached)))
          ∙ ap (λ (t : Bool). Some (literal t a ∷ pattern_at count B (cond t (at - half) at))) (sym upper)))
      | inr lower ↦
          let before : at < half = le_false half at lower in
          get-append_left (fronted false a P) (fronted true a P) at (omega (arith, size, before))
          ∙ (fronted_at false a P at (pattern_at count B at) (pattern_is count B at before)
          ∙ ap (λ (t : Bool). Some (literal t a ∷ pattern_at count B (cond t (at - half) at))) (sym lower))
    ]

-- half of the patterns that are left
pub doubled : (fixed place half : ℕ) → place < fixed → half ≡ 2 ^ (fixed - place) → half ≡ 2 ^ (fixed - (place + 1)) + 2 ^ (fixed - (place + 1))
doubled fixed place half h is =
    let one : fixed - place ≡ suc (fixed - (place + 1)) = omega (arith, h) in
    is ∙ (ap (λ k. 2 ^ k) one ∙ power_more (fixed - (place + 1)))

pub half_of : (half x : ℕ) → half ≡ x + x → half / 2 ≡ x
half_of half x h = omega (arith, h)

pub left_less : (half x left : ℕ) → half ≡ x + x → left < half → cond (nat_le x left) (left - x) left < x
left_less half x left is h = elim (true_or_false (nat_le x left)) [
  | inl upper ↦
      let reached : x ≤ left = leb-true x left upper in
      let less : left - x < x = omega (arith, is, h, reached) in
      subst (λ (t : Bool). cond t (left - x) left < x) (sym upper) less
  | inr lower ↦ subst (λ (t : Bool). cond t (left - x) left < x) (sym lower) (le_false x left lower)
]

-- one more literal of a pattern
pub pattern_more : (split : ℕ) (B : List ℕ) (place left half : ℕ) (lits : List Lit) (d : ℕ) → place < min split (length B) → half ≡ 2 ^ (min split (length B) - (place + 1))
    → lits ++ pattern_at (split - place) (drop place B) left
    ≡ (lits ++ literal (nat_le half left) (get_or B place d) ∷ []) ++ pattern_at (split - (place + 1)) (drop (place + 1) B) (cond (nat_le half left) (left - half) left)
pattern_more split B place left half lits d h size =
    let within : place < length B = omega (arith, h) in
    let count : split - place ≡ suc (split - (place + 1)) = omega (arith, h) in
    let rest : List ℕ = drop (place + 1) B in
    let long : length rest ≡ length B - (place + 1) = length-drop (place + 1) B in
    let same : min split (length B) - (place + 1) ≡ min (split - (place + 1)) (length rest) = omega (arith, h, long) in
    ap (λ k. lits ++ pattern_at k (drop place B) left) count
    ∙ (ap (λ (xs : List ℕ). lits ++ pattern_at (suc (split - (place + 1))) xs left) (drop_more B place d within)
    ∙ (ap (λ k. lits ++ literal (nat_le k left) (get_or B place d) ∷ pattern_at (split - (place + 1)) rest (cond (nat_le k left) (left - k) left)) (sym (size ∙ ap (λ k. 2 ^ k) same))
    ∙ sym (append_assoc lits (literal (nat_le half left) (get_or B place d) ∷ []) (pattern_at (split - (place + 1)) rest (cond (nat_le half left) (left - half) left)))))

-- nothing is left of a pattern
pub pattern_end : (split : ℕ) (B : List ℕ) (left : ℕ) → min split (length B) ≡ 0 → pattern_at split B left ≡ []
pattern_end zero B left h = refl
pattern_end (suc split) [] left h = refl
pattern_end (suc split) (a ∷ B) left h = absurd (let none : min (suc split) (suc (length B)) ≡ 0 = h in omega (arith, none))

-- ---- regions after a set

-- the region before which so many of the false atoms stay false
abbrev pub region_at : List ℕ → List ℕ → ℕ → List Lit
region_at I [] left = []
region_at I (a ∷ B) left =
    cond (holds I a) (literal true a ∷ region_at I B left) (cond (left == 0) (literal true a ∷ []) (literal false a ∷ region_at I B (left - 1)))

region_with : (inside : Bool) (a : ℕ) (B I : List ℕ) (at left : ℕ)
    → ((l k : ℕ) → k + (l + 1) ≡ length (filter (is_false I) B) → slice_get (regions_behind I B) k ≡ Some (region_at I B l))
    → at + (left + 1) ≡ length (cond (not inside) (a ∷ filter (is_false I) B) (filter (is_false I) B))
    → slice_get (with_atom inside a (regions_behind I B)) at
    ≡ Some (cond inside (literal true a ∷ region_at I B left) (cond (left == 0) (literal true a ∷ []) (literal false a ∷ region_at I B (left - 1))))
region_with true a B I at left rest h = fronted_at true a (regions_behind I B) at (region_at I B left) (rest left at h)
region_with false a B I at zero rest h =
    let R : List (List Lit) = regions_behind I B in
    let all : at + (0 + 1) ≡ suc (length (filter (is_false I) B)) = h in
    let size : length (fronted false a R) ≡ length (filter (is_false I) B) = length_map (λ r. literal false a ∷ r) R ∙ behind_counted I B in
    let e : at - length (fronted false a R) ≡ 0 = omega (arith, all, size) in
    get-append_right (fronted false a R) ((literal true a ∷ []) ∷ []) at (omega (arith, all, size))
    ∙ ap (slice_get ((literal true a ∷ []) ∷ [])) e
region_with false a B I at (suc left) rest h =
    let R : List (List Lit) = regions_behind I B in
    let all : at + (suc left + 1) ≡ suc (length (filter (is_false I) B)) = h in
    let size : length (fronted false a R) ≡ length (filter (is_false I) B) = length_map (λ r. literal false a ∷ r) R ∙ behind_counted I B in
    let before : left ≡ suc left - 1 = omega arith in
    let more : (suc left == 0) ≡ false = ne_eqb (suc left) 0 (omega arith) in
    get-append_left (fronted false a R) ((literal true a ∷ []) ∷ []) at (omega (arith, all, size))
    ∙ (fronted_at false a R at (region_at I B left) (rest left at (omega (arith, all)))
    ∙ (ap (λ k. Some (literal false a ∷ region_at I B k)) before
    ∙ ap (λ (t : Bool). Some (cond t (literal true a ∷ []) (literal false a ∷ region_at I B (suc left - 1)))) (sym more)))

pub region_is : (I B : List ℕ) (left at : ℕ) → at + (left + 1) ≡ length (filter (is_false I) B) → slice_get (regions_behind I B) at ≡ Some (region_at I B left)
region_is I [] left at h = absurd (let none : at + (left + 1) ≡ 0 = h in omega (arith, none))
region_is I (a ∷ B) left at h = region_with (holds I a) a B I at left (region_is I B) h

-- one more literal of a region, and its last one
region_split : (I B : List ℕ) (i left d : ℕ) → i < length B
    → region_at I (drop i B) left
    ≡ cond (holds I (get_or B i d)) (literal true (get_or B i d) ∷ region_at I (drop (i + 1) B) left) (cond (left == 0) (literal true (get_or B i d) ∷ []) (literal false (get_or B i d) ∷ region_at I (drop (i + 1) B) (left - 1)))
region_split I B i left d h = ap (λ (xs : List ℕ). region_at I xs left) (drop_more B i d h)

pub region_inside : (I B : List ℕ) (i left d : ℕ) (lits : List Lit) → i < length B → holds I (get_or B i d) ≡ true
    → lits ++ region_at I (drop i B) left ≡ (lits ++ literal true (get_or B i d) ∷ []) ++ region_at I (drop (i + 1) B) left
region_inside I B i left d lits h inside =
    ap (λ xs. lits ++ xs) (region_split I B i left d h
    ∙ ap (λ (t : Bool). cond t (literal true (get_or B i d) ∷ region_at I (drop (i + 1) B) left) (cond (left == 0) (literal true (get_or B i d) ∷ []) (literal false (get_or B i d) ∷ region_at I (drop (i + 1) B) (left - 1)))) inside)
    ∙ sym (append_assoc lits (literal true (get_or B i d) ∷ []) (region_at I (drop (i + 1) B) left))

pub region_outside : (I B : List ℕ) (i left d : ℕ) (lits : List Lit) → i < length B → holds I (get_or B i d) ≡ false → (left == 0) ≡ false
    → lits ++ region_at I (drop i B) left ≡ (lits ++ literal false (get_or B i d) ∷ []) ++ region_at I (drop (i + 1) B) (left - 1)
region_outside I B i left d lits h outside more =
    ap (λ xs. lits ++ xs) (region_split I B i left d h
    ∙ (ap (λ (t : Bool). cond t (literal true (get_or B i d) ∷ region_at I (drop (i + 1) B) left) (cond (left == 0) (literal true (get_or B i d) ∷ []) (literal false (get_or B i d) ∷ region_at I (drop (i + 1) B) (left - 1)))) outside
    ∙ ap (λ (t : Bool). cond t (literal true (get_or B i d) ∷ []) (literal false (get_or B i d) ∷ region_at I (drop (i + 1) B) (left - 1))) more))
    ∙ sym (append_assoc lits (literal false (get_or B i d) ∷ []) (region_at I (drop (i + 1) B) (left - 1)))

pub region_last : (I B : List ℕ) (i left d : ℕ) (lits : List Lit) → i < length B → holds I (get_or B i d) ≡ false → (left == 0) ≡ true
    → lits ++ region_at I (drop i B) left ≡ lits ++ literal true (get_or B i d) ∷ []
region_last I B i left d lits h outside last =
    ap (λ xs. lits ++ xs) (region_split I B i left d h
    ∙ (ap (λ (t : Bool). cond t (literal true (get_or B i d) ∷ region_at I (drop (i + 1) B) left) (cond (left == 0) (literal true (get_or B i d) ∷ []) (literal false (get_or B i d) ∷ region_at I (drop (i + 1) B) (left - 1)))) outside
    ∙ ap (λ (t : Bool). cond t (literal true (get_or B i d) ∷ []) (literal false (get_or B i d) ∷ region_at I (drop (i + 1) B) (left - 1))) last))
