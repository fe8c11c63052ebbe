-- Steps of the code, over plain values.
use Rattle.std.proofs.Common.{ℕ, zero, suc, ◌≡◌, ◌+◌, ◌*◌, ◌^◌, ◌<◌, ◌≤◌, sym, ◌∙◌, ap, subst, inl, inr, Bool, false, cond, List, [], ◌∷◌, ◌++◌, map, length, get_or, take, drop, arith, length-append, append_assoc, append-nil, pow-suc, mul-zero, mul-le-mul_right, suc-mul, mul_comm, Fits, w32, Result, Ok, Err, Some, None, Option, is_ok, is_some, ℤ, pos, ◌+ℤ◌, ◌≤ℤ◌, ◌<ℤ◌, int_lt}
use Rattle.std.specs.Prelude.{position}
use Rattle.std.specs.List.{flat_map, sum_by}
use Rattle.std.specs.Int.{int_max}
use Rattle.std.specs.Ordering.{is_eq}
use Rattle.std.specs.declared.cmp.Ordering.{Ordering}
use Rattle.std.proofs.lemmas.Bool.{lt-ltb, le-ltb}
use Rattle.std.proofs.lemmas.List.Sums.{sum_by_more_le}
use Rattle.std.proofs.lemmas.List.{take-map, take_more, drop_more, map-append, length-map, get_or-map}
use Rattle.std.proofs.lemmas.List.Concat.{flat_map-append}
use Rattle.std.proofs.Math.Nat.{pow-zero, pow-le-pow_right}
use Rattle.asp_defs.specs.declared.ground.Const.{Const}
use Rattle.asp_defs.specs.declared.ground.Const.TheVariants as const
use Rattle.asp_defs.specs.Constants.{integers_from, interval_length}
use Rattle.asp_atoms.specs.declared.intervals.Interval.{Interval}
use Rattle.asp_atoms.specs.Ascending.{place_in}
use Rattle.asp_atoms.specs.Universes.{between, integers, integers_of}
use Rattle.asp_atoms.specs.Gaps.{apart_at, free_behind, apart_from}
use Rattle.asp_defs.specs.Lists.{IsIn}
use Rattle.asp_defs.proofs.Lists.{map_at, map_from}
use Rattle.asp_atoms.specs.Tuples.{numbers_of}
use Rattle.asp_atoms.specs.Members.{AreRanks, level_numbers, levels_numbers}
use Rattle.asp_atoms.specs.declared.signatures.Signature.{Signature}
use Rattle.asp_atoms.specs.declared.vocabularies.NumberedPredicate.{NumberedPredicate}
use Rattle.asp_atoms.specs.Signatures.{predicate_of, predicates_of}
use Rattle.asp_defs.specs.Bases.{Predicate}
use Rattle.asp_walk.proofs.Lists.{flat_at, get_is_in}
use Rattle.asp_atoms.proofs.Positions.{Finds}
use Rattle.asp_atoms.proofs.Integers.{piece, integers_more, length_interval, lt_false, lt_true}
use Rattle.asp_atoms.specs.Counts.{shown}
use Rattle.asp_atoms.proofs.Counting.{shown_add}

-- ---- one item more

pub flat_more : {A B : Type 0} (f : A → List B) (xs : List A) (i : ℕ) (x d : A) → i < length xs → x ≡ get_or xs i d → flat_map f (take (i + 1) xs) ≡ flat_map f (take i xs) ++ f x
flat_more f xs i x d h is =
    ap (flat_map f) (take_more xs i d h)
    ∙ (flat_map-append f (take i xs) (get_or xs i d ∷ [])
    ∙ ap (λ l. flat_map f (take i xs) ++ l) (append-nil (f (get_or xs i d)) ∙ ap f (sym is)))

-- ---- what a search answers

abbrev some_below : {A : Type 0} → (A → A → Ordering) → List A → A → Bool → Option ℕ
some_below R ks a b = cond b (Some (place_in R ks a)) None

pub finds_at : {A : Type 0} (R : A → A → Ordering) (ks : List A) (a : A) (i : ℕ) → Finds R ks a (Ok i) → position (λ b. is_eq (R a b)) ks ≡ Some i
finds_at R ks a i h =
    let below = h.0 in
    let at = h.1 in
    let inside : place_in R ks a < length ks = omega (arith, below, at) in
    ap (some_below R ks a) (lt-ltb (place_in R ks a) (length ks) inside) ∙ ap Some at

pub finds_none : {A : Type 0} (R : A → A → Ordering) (ks : List A) (a : A) (i : ℕ) → Finds R ks a (Err i) → position (λ b. is_eq (R a b)) ks ≡ None
finds_none R ks a i h =
    let at : place_in R ks a ≡ length ks = h in
    let past : length ks ≤ place_in R ks a = omega (arith, at) in
    ap (some_below R ks a) (le-ltb (place_in R ks a) (length ks) past)

pub finds_some : {A : Type 0} (R : A → A → Ordering) (ks : List A) (a : A) (r : Result ℕ ℕ) → Finds R ks a r → is_ok r ≡ is_some (position (λ b. is_eq (R a b)) ks)
finds_some R ks a (Ok i) h = sym (ap is_some (finds_at R ks a i h))
finds_some R ks a (Err i) h = sym (ap is_some (finds_none R ks a i h))

-- ---- intervals

pub taken : (out new : List Interval) (free : ℤ) (x : Interval) (low high : ℤ) → low ≡ int_max free x.low → high ≡ x.high → low ≤ℤ high → new ≡ out ++ between low high ∷ [] → new ≡ out ++ apart_at free x
taken out new free x low high e f h is =
    is ∙ (ap (λ z. out ++ between z high ∷ []) e
    ∙ (ap (λ z. out ++ between (int_max free x.low) z ∷ []) f
    ∙ ap (λ b. out ++ piece b (int_max free x.low) x.high) (sym (wide (subst (λ z. z ≤ℤ x.high) e (subst (λ z. low ≤ℤ z) f h))))))
  where
    wide : int_max free x.low ≤ℤ x.high → int_lt x.high (int_max free x.low) ≡ false
    wide g = lt_false x.high (int_max free x.low) g

pub skipped : (out new : List Interval) (free : ℤ) (x : Interval) → x.high <ℤ int_max free x.low → new ≡ out → new ≡ out ++ apart_at free x
skipped out new free x h is =
    is ∙ (sym (append-nil out) ∙ ap (λ b. out ++ piece b (int_max free x.low) x.high) (sym (lt_true x.high (int_max free x.low) h)))

pub apart_more : (all xs : List Interval) (i : ℕ) (x d : Interval) (free : ℤ) (out new : List Interval) (next : ℤ) → i < length xs → x ≡ get_or xs i d → out ++ apart_from free (drop i xs) ≡ all → new ≡ out ++ apart_at free x → next ≡ free_behind free x → new ++ apart_from next (drop (i + 1) xs) ≡ all
apart_more all xs i x d free out new next h is whole added goes =
    ap (λ l. l ++ apart_from next (drop (i + 1) xs)) added
    ∙ (append_assoc out (apart_at free x) (apart_from next (drop (i + 1) xs))
    ∙ (ap (λ z. out ++ (apart_at free x ++ apart_from z (drop (i + 1) xs))) goes
    ∙ (ap (λ l. out ++ apart_from free l) (sym here) ∙ whole)))
  where
    here : drop i xs ≡ x ∷ drop (i + 1) xs
    here = drop_more xs i d h ∙ ap (λ y. y ∷ drop (i + 1) xs) (sym is)

pub count_more : (xs : List Interval) (i : ℕ) (x d : Interval) → i < length xs → x ≡ get_or xs i d → (count next : ℕ) → count ≡ shown (length (integers_of (take i xs))) → next ≡ shown (count + interval_length x.low x.high) → next ≡ shown (length (integers_of (take (i + 1) xs)))
count_more xs i x d h is count next so_far goes =
    let long : length (integers_of (take (i + 1) xs)) ≡ length (integers_of (take i xs)) + interval_length x.low x.high =
    ap length (flat_more integers xs i x d h is)
    ∙ (length-append (integers_of (take i xs)) (integers x) ∙ ap (λ n. length (integers_of (take i xs)) + n) (length_interval x)) in
    let cut = shown_add (length (integers_of (take i xs))) (interval_length x.low x.high) in
    goes ∙ (ap (λ n. shown (n + interval_length x.low x.high)) so_far ∙ (cut ∙ ap shown (sym long)))

pub listed_more : (old out new : List Const) (low : ℤ) (k : ℕ) (v : ℤ) → new ≡ out ++ const.Int v ∷ [] → out ≡ old ++ map const.Int (integers_from low k) → v ≡ low +ℤ pos k → new ≡ old ++ map const.Int (integers_from low (k + 1))
listed_more old out new low k v is so_far e =
    is ∙ (ap (λ l. l ++ const.Int v ∷ []) so_far
    ∙ (append_assoc old (map const.Int (integers_from low k)) (const.Int v ∷ [])
    ∙ ap (λ l. old ++ l) (ap (λ z. map const.Int (integers_from low k) ++ const.Int z ∷ []) e
    ∙ (sym (map-append const.Int (integers_from low k) ((low +ℤ pos k) ∷ [])) ∙ ap (map const.Int) (sym (integers_more low k))))))

-- ---- powers

-- a power goes on growing up to its last one
pub pow_step : (s k n : ℕ) → 0 < s → k < n → s ^ k * s ≤ s ^ n
pow_step s k n h g =
    let up : s ^ suc k ≤ s ^ n = pow-le-pow_right h (omega arith) in
    let e = pow-suc s k in
    omega (arith, up, e)

pub pow_fits : (s k n : ℕ) → k < n → s ^ n ≤ 262144 → s ^ k * s ≤ 262144
pow_fits zero k n h g = let z = mul-zero (0 ^ k) in omega (arith, z)
pow_fits (suc s) k n h g = let up = pow_step (suc s) k n (omega arith) h in omega (arith, up, g)

-- a digit before numbers
pub digit_fits : (first base k n rank m : ℕ) → k < n → first + base ^ n ≤ 262144 → rank < base → m < first + base ^ k → rank * base ^ k + m < 262144
digit_fits first base k n rank m h fits low below =
    let some : suc rank * base ^ k ≤ base * base ^ k = mul-le-mul_right (base ^ k) low in
    let split = suc-mul rank (base ^ k) in
    let turn = mul_comm base (base ^ k) in
    let up = pow_step base k n (omega arith) h in
    omega (arith, some, split, turn, up, below, fits)

digit_below : (first base k rank m : ℕ) → rank < base → m < first + base ^ k → rank * base ^ k + m < first + base ^ suc k
digit_below first base k rank m low below =
    let some : suc rank * base ^ k ≤ base * base ^ k = mul-le-mul_right (base ^ k) low in
    let split = suc-mul rank (base ^ k) in
    let turn = mul_comm base (base ^ k) in
    let next = pow-suc base k in
    omega (arith, some, split, turn, next, below)

-- the numbers of tuples lie behind the first as far as there are tuples
pub numbers_below : (first base : ℕ) (ranks : List ℕ) → AreRanks base ranks → (k m : ℕ) → IsIn m (numbers_of first base ranks k) → m < first + base ^ k
numbers_below first base ranks h zero m (inl e) = let one = pow-zero base in omega (arith, one, e)
numbers_below first base ranks h zero m (inr i) = absurd i
numbers_below first base ranks h (suc k) m i =
    let rank = flat_at (λ (r : ℕ). map (λ n. r * base ^ k + n) (numbers_of first base ranks k)) ranks m i in
    let n = map_at (λ n. rank.0 * base ^ k + n) (numbers_of first base ranks k) m rank.2 in
    let low = h rank.0 rank.1 in
    let rest = numbers_below first base ranks h k n.0 n.1 in
    let sum = digit_below first base k rank.0 n.0 low rest in
    let e = n.2 in
    omega (arith, sum, e)

pub sums_fit : (first base arity k weight : ℕ) (ranks numbers slice : List ℕ) → k < arity → first + base ^ arity ≤ 262144 → AreRanks base ranks → weight ≡ base ^ k → slice ≡ numbers → numbers ≡ numbers_of first base ranks k → (rank n : ℕ) → IsIn rank ranks → IsIn n slice → rank * weight + n < 4294967296
sums_fit first base arity k weight ranks numbers slice h fits ranked e same is rank n i j =
    let low = ranked rank i in
    let m : IsIn n (numbers_of first base ranks k) = subst (λ l. IsIn n l) (same ∙ is) j in
    let below = numbers_below first base ranks ranked k n m in
    let sum = digit_fits first base k arity rank n h fits low below in
    let w : rank * weight ≡ rank * base ^ k = ap (λ p. rank * p) e in
    omega (arith, sum, w)

pub multiples_fit : (first base arity k weight : ℕ) (ranks : List ℕ) → k < arity → first + base ^ arity ≤ 262144 → AreRanks base ranks → weight ≡ base ^ k → (rank : ℕ) → IsIn rank ranks → rank * weight < 4294967296
multiples_fit first base arity k weight ranks h fits ranked e rank i =
    let low = ranked rank i in
    let up = pow_step base k arity (omega (arith, low)) h in
    let some : rank * base ^ k ≤ base * base ^ k = mul-le-mul_right (base ^ k) (omega (arith, low)) in
    let turn = mul_comm base (base ^ k) in
    let w : rank * weight ≡ rank * base ^ k = ap (λ p. rank * p) e in
    omega (arith, up, some, turn, w, fits)

-- ---- numbered predicates

pub arity_fits : (signatures : List Signature) (i : ℕ) (d : Signature) → ((q : Predicate) → IsIn q (predicates_of signatures) → q.arity ≤ 16) → i < length signatures → Fits w32 (get_or signatures i d).arity
arity_fits signatures i d short h =
    let s : (get_or signatures i d).arity ≤ 16 =
    short (predicate_of (get_or signatures i d)) (map_from predicate_of signatures (get_or signatures i d) (get_is_in signatures i d h)) in
    omega (arith, s)

abbrev count_of : ℕ → Predicate → ℕ
count_of size q = size ^ q.arity

one_of_sum : (size : ℕ) (signatures : List Signature) (i : ℕ) (d : Signature) → i < length signatures → sum_by (count_of size) (predicates_of (take i signatures)) + size ^ (get_or signatures i d).arity ≤ sum_by (count_of size) (predicates_of signatures)
one_of_sum size signatures i d h =
    let long = length-map signatures predicate_of in
    let more = sum_by_more_le (count_of size) (predicates_of signatures) i (predicate_of d) (omega (arith, long, h)) in
    let here : count_of size (get_or (predicates_of signatures) i (predicate_of d)) ≡ size ^ (get_or signatures i d).arity =
    ap (count_of size) (get_or-map predicate_of signatures i d (predicate_of d) h) in
    let front : sum_by (count_of size) (take i (predicates_of signatures)) ≡ sum_by (count_of size) (predicates_of (take i signatures)) =
    ap (sum_by (count_of size)) (take-map predicate_of i signatures) in
    omega (arith, more, here, front)

pub few_here : (size : ℕ) (signatures : List Signature) (i : ℕ) (d : Signature) → sum_by (λ q. size ^ q.arity) (predicates_of signatures) ≤ 262144 → i < length signatures → size ^ (get_or signatures i d).arity ≤ 262144
few_here size signatures i d few h = let one = one_of_sum size signatures i d h in omega (arith, one, few)

pub next_fits : (size : ℕ) (signatures : List Signature) (i : ℕ) (d : Signature) (first count : ℕ) → sum_by (λ q. size ^ q.arity) (predicates_of signatures) ≤ 262144 → i < length signatures → first ≡ sum_by (λ q. size ^ q.arity) (predicates_of (take i signatures)) → count ≡ size ^ (get_or signatures i d).arity → Fits w32 (first + count)
next_fits size signatures i d first count few h so_far here = let one = one_of_sum size signatures i d h in omega (arith, one, few, so_far, here)

-- ---- members of levels

pub levels_more : (all : List (List ℕ)) (base : ℕ) (qs : List NumberedPredicate) (us : List (List ℕ)) (pss : List (List Predicate)) (at : ℕ) (u : List ℕ) (ps : List Predicate) (out new : List (List ℕ)) (n : List ℕ) → at < length us → at < length pss → u ≡ get_or us at u → ps ≡ get_or pss at ps → out ++ levels_numbers base qs (drop at us) (drop at pss) ≡ all → n ≡ level_numbers base qs u ps → new ≡ out ++ n ∷ [] → new ++ levels_numbers base qs (drop (at + 1) us) (drop (at + 1) pss) ≡ all
levels_more all base qs us pss at u ps out new n h g e f so_far is pushed =
    let one : drop at us ≡ u ∷ drop (at + 1) us = drop_more us at u h ∙ ap (λ y. y ∷ drop (at + 1) us) (sym e) in
    let two : drop at pss ≡ ps ∷ drop (at + 1) pss = drop_more pss at ps g ∙ ap (λ y. y ∷ drop (at + 1) pss) (sym f) in
    let split : levels_numbers base qs (drop at us) (drop at pss) ≡ level_numbers base qs u ps ∷ levels_numbers base qs (drop (at + 1) us) (drop (at + 1) pss) =
    ap (λ l. levels_numbers base qs l (drop at pss)) one ∙ ap (levels_numbers base qs (u ∷ drop (at + 1) us)) two in
    ap (λ l. l ++ levels_numbers base qs (drop (at + 1) us) (drop (at + 1) pss)) pushed
    ∙ (append_assoc out (n ∷ []) (levels_numbers base qs (drop (at + 1) us) (drop (at + 1) pss))
    ∙ (ap (λ m. out ++ m ∷ levels_numbers base qs (drop (at + 1) us) (drop (at + 1) pss)) is
    ∙ (ap (λ l. out ++ l) (sym split) ∙ so_far)))
