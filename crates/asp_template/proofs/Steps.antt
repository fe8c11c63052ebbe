-- Steps of loops, and lists that two calls add to.
use Rattle.std.proofs.Common.{ℕ, zero, suc, ◌≡◌, ◌<◌, ◌≤◌, ◌+◌, refl, sym, ◌∙◌, ap, subst, Bool, true, false, List, [], ◌∷◌, ◌++◌, map, take, length, get_or, arith, append_assoc, append-nil, zero-add}
use Rattle.std.specs.List.{flat_map, sum_by, list_any, position_or_len, enumerate_from}
use Rattle.std.proofs.lemmas.List.{take_more, take_all, get_or-map, length-map, length-take, map-append}
use Rattle.std.proofs.lemmas.List.Concat.{flat_map-append}
use Rattle.std.proofs.lemmas.List.Sums.{position_or_len_is, sum_by_push}
use Rattle.asp_defs.specs.Lists.{numbers_from}
use Rattle.asp_defs.specs.Bases.{product}
use Rattle.asp_defs.proofs.Lists.{or_left, or_right}
use Rattle.asp_atoms.proofs.Choosing.{flat_map_agrees}
use Rattle.asp_atoms.proofs.Levels.{numbers_more}
use Rattle.asp_atoms.specs.Counts.{shown}
use Rattle.asp_template.proofs.Products.{flat_map_map, flat_map_flat_map}

-- ---- places in a list under a function

pub mapped_place : {A B : Type 0} (f : A → B) (p : B → Bool) (xs : List A) (i : ℕ) (d : A) → i < length xs → p (f (get_or xs i d)) ≡ true → ((k : ℕ) (e : A) → k < i → p (f (get_or xs k e)) ≡ false) → position_or_len p (map f xs) ≡ i
mapped_place {A} {B} f p xs i d h here before =
    let long = length-map xs f in
    position_or_len_is p (map f xs) i (f d) (omega (arith, long))
    (λ k l. subst (λ (y : B). p y ≡ false) (sym (get_or-map f xs k d (f d) (omega arith))) (before k d l))
    (λ l. subst (λ (y : B). p y ≡ true) (sym (get_or-map f xs i d (f d) h)) here)

pub mapped_none : {A B : Type 0} (f : A → B) (p : B → Bool) (xs : List A) (n : ℕ) → length xs ≤ n → ((k : ℕ) (e : A) → k < n → p (f (get_or xs k e)) ≡ false) → position_or_len p (map f xs) ≡ length xs
mapped_none f p [] n h none = refl
mapped_none {A} {B} f p (x ∷ xs) n h none =
    let long = length-map (x ∷ xs) f in
    position_or_len_is p (map f (x ∷ xs)) (length (map f (x ∷ xs))) (f x) (omega arith)
    (λ k l. subst (λ (y : B). p y ≡ false) (sym (get_or-map f (x ∷ xs) k x (f x) (omega (arith, long)))) (none k x (omega (arith, long))))
    (λ l. absurd (omega arith))
    ∙ long

pub mapped_any : {A B : Type 0} (f : A → B) (p : B → Bool) (xs : List A) (i : ℕ) (d : A) → i < length xs → p (f (get_or xs i d)) ≡ true → list_any p (map f xs) ≡ true
mapped_any f p [] i d h here = absurd (omega arith)
mapped_any f p (x ∷ xs) zero d h here = or_left (p (f x)) (list_any p (map f xs)) here
mapped_any f p (x ∷ xs) (suc i) d h here = or_right (p (f x)) (list_any p (map f xs)) (mapped_any f p xs i d (omega arith) here)

-- ---- lists that grow

-- a list of what the items give, with one more, and the whole of it
pub maps_item : {A B : Type 0} (f : A → B) (xs : List A) (i : ℕ) (x : A) (now next : List B) (y : B) → i < length xs → x ≡ get_or xs i x → now ≡ map f (take i xs) → next ≡ now ++ y ∷ [] → y ≡ f x → next ≡ map f (take (i + 1) xs)
maps_item f xs i x now next y h is so_far added made =
    added
    ∙ (ap (λ ys. ys ++ y ∷ []) so_far
    ∙ (ap (λ z. map f (take i xs) ++ z ∷ []) made
    ∙ sym (ap (map f) (take_more xs i x h ∙ ap (λ z. take i xs ++ z ∷ []) (sym is)) ∙ map-append f (take i xs) (x ∷ []))))

pub maps_all : {A B : Type 0} (f : A → B) (xs : List A) (i : ℕ) (now all : List B) → length xs ≤ i → all ≡ now → now ≡ map f (take i xs) → all ≡ map f xs
maps_all f xs i now all h same so_far = same ∙ (so_far ∙ ap (map f) (take_all i xs h))

pub grows : {A B : Type 0} (f : A → List B) (old now next : List B) (xs : List A) (i : ℕ) (d : A) → i < length xs → now ≡ old ++ flat_map f (take i xs) → next ≡ now ++ f (get_or xs i d) → next ≡ old ++ flat_map f (take (i + 1) xs)
grows f old now next xs i d h so_far step =
    step
    ∙ (ap (λ ys. ys ++ f (get_or xs i d)) so_far
    ∙ (append_assoc old (flat_map f (take i xs)) (f (get_or xs i d))
    ∙ ap (λ ys. old ++ ys) (sym (ap (flat_map f) (take_more xs i d h) ∙ (flat_map-append f (take i xs) (get_or xs i d ∷ []) ∙ ap (λ ys. flat_map f (take i xs) ++ ys) (append-nil (f (get_or xs i d))))))))

-- the same from what a read of the list gives
pub grows_item : {A B : Type 0} (f : A → List B) (old now next : List B) (xs : List A) (i : ℕ) (x : A) → i < length xs → x ≡ get_or xs i x → now ≡ old ++ flat_map f (take i xs) → next ≡ now ++ f x → next ≡ old ++ flat_map f (take (i + 1) xs)
grows_item f old now next xs i x h is so_far step = grows f old now next xs i x h so_far (step ∙ ap (λ y. now ++ f y) is)

abbrev pub pair : {A : Type 0} → ℕ → A → ℕ × A
pair n x = (n, x)

pub mapped_numbers_more : {A : Type 0} (f : ℕ → A) (n : ℕ) → map f (numbers_from 0 (n + 1)) ≡ map f (numbers_from 0 n) ++ f n ∷ []
mapped_numbers_more f n =
    ap (map f) (numbers_more 0 n)
    ∙ (map-append f (numbers_from 0 n) ((0 + n) ∷ []) ∙ ap (λ m. map f (numbers_from 0 n) ++ f m ∷ []) (zero-add n))

-- ---- levels by their numbers

pub enumerate_more : {A : Type 0} (k : ℕ) (xs : List A) (x : A) → enumerate_from k (xs ++ x ∷ []) ≡ enumerate_from k xs ++ (k + length xs, x) ∷ []
enumerate_more {A} k [] x = let same : k ≡ k + 0 = omega arith in ap (λ (n : ℕ). pair n x ∷ []) same
enumerate_more {A} k (y ∷ xs) x =
    let next : k + 1 + length xs ≡ k + suc (length xs) = omega arith in
    ap (λ ys. pair k y ∷ ys) (enumerate_more (k + 1) xs x ∙ ap (λ (n : ℕ). enumerate_from (k + 1) xs ++ pair n x ∷ []) next)

-- the levels up to one more, and to the last of them
pub enumerated_more : {A B : Type 0} (g : A → B) (xs : List A) (i : ℕ) (x : A) → i < length xs → x ≡ get_or xs i x → enumerate_from 1 (map g (take (i + 1) xs)) ≡ enumerate_from 1 (map g (take i xs)) ++ pair (i + 1) (g x) ∷ []
enumerated_more g xs i x h is =
    let long = length-map (take i xs) g in
    let whole = length-take i xs in
    let number : 1 + length (map g (take i xs)) ≡ i + 1 = omega (arith, long, whole) in
    ap (λ ys. enumerate_from 1 (map g ys)) (take_more xs i x h ∙ ap (λ z. take i xs ++ z ∷ []) (sym is))
    ∙ (ap (λ ys. enumerate_from 1 ys) (map-append g (take i xs) (x ∷ []))
    ∙ (enumerate_more 1 (map g (take i xs)) (g x)
    ∙ ap (λ n. enumerate_from 1 (map g (take i xs)) ++ pair n (g x) ∷ []) number))

pub enumerated_last : {A B : Type 0} (g : A → B) (xs : List A) (last : B) (i : ℕ) → length xs ≤ i → enumerate_from 1 (map g xs ++ last ∷ []) ≡ enumerate_from 1 (map g (take i xs)) ++ pair (length xs + 1) last ∷ []
enumerated_last g xs last i h =
    let long = length-map xs g in
    let number : 1 + length (map g xs) ≡ length xs + 1 = omega (arith, long) in
    enumerate_more 1 (map g xs) last
    ∙ (ap (λ n. enumerate_from 1 (map g xs) ++ pair n last ∷ []) number
    ∙ ap (λ ys. enumerate_from 1 (map g ys) ++ pair (length xs + 1) last ∷ []) (sym (take_all i xs h)))

-- what the levels are made into, with one more, and how much they count
pub mapped_more : {A B : Type 0} (f : A → B) (before after : List A) (x : A) (now next : List B) (y : B) → after ≡ before ++ x ∷ [] → now ≡ map f before → next ≡ now ++ y ∷ [] → y ≡ f x → next ≡ map f after
mapped_more f before after x now next y is so_far added made =
    added
    ∙ (ap (λ ys. ys ++ y ∷ []) so_far
    ∙ (ap (λ z. map f before ++ z ∷ []) made ∙ (sym (map-append f before (x ∷ [])) ∙ ap (map f) (sym is))))

pub shown_more : {A : Type 0} (f : A → ℕ) (before after : List A) (x : A) (count next part : ℕ) → after ≡ before ++ x ∷ [] → count ≡ shown (sum_by f before) → next ≡ shown (count + part) → part ≡ shown (f x) → next ≡ shown (sum_by f after)
shown_more f before after x count next part is so_far added made =
    let total : sum_by f after ≡ sum_by f before + f x = ap (sum_by f) is ∙ sum_by_push f before x in
    omega (arith, total, so_far, added, made)

-- ---- the odometer: the first of some lists runs, and the others behind it

pub odometer : {A B : Type 0} (f : List A → List B) (front : List A) (first : List A) (rest : List (List A)) → flat_map (λ x. flat_map (λ tuple. f ((front ++ x ∷ []) ++ tuple)) (product rest)) first ≡ flat_map (λ tuple. f (front ++ tuple)) (product (first ∷ rest))
odometer {A} f front first rest =
    flat_map_agrees (λ x. flat_map (λ tuple. f ((front ++ x ∷ []) ++ tuple)) (product rest)) (λ x. flat_map (λ tuple. f (front ++ tuple)) (map (λ tuple. x ∷ tuple) (product rest))) first
    (λ x i. flat_map_agrees (λ tuple. f ((front ++ x ∷ []) ++ tuple)) (λ tuple. f (front ++ x ∷ tuple)) (product rest) (λ tuple j. ap f (append_assoc front (x ∷ []) tuple))
    ∙ sym (flat_map_map (λ tuple. f (front ++ tuple)) (λ tuple. x ∷ tuple) (product rest)))
    ∙ sym (flat_map_flat_map (λ tuple. f (front ++ tuple)) (λ x. map (λ tuple. x ∷ tuple) (product rest)) first)
