-- An atom's number is the number of its predicate's first atom and, behind it, the ranks of its arguments read in the base
-- of the number of constants.
use Rattle.std.proofs.Common.{ℕ, zero, suc, ◌≡◌, ◌+◌, ◌*◌, ◌^◌, ◌<◌, ◌≤◌, refl, sym, ◌∙◌, ap, subst, inl, inr, List, [], ◌∷◌, ◌++◌, map, length, get_or, take, arith, length-append, pow-suc, get_or-append-add, mul-le-mul_right, add-mul, mul_assoc, mul_comm, zero-mul, suc-mul}
use Rattle.std.specs.List.{flat_map, fold}
use Rattle.std.proofs.Math.Nat.{pow-zero}
use Rattle.std.proofs.lemmas.List.{length-map, get_or-map, get_or_append_left, length-take-le, map-append}
use Rattle.std.proofs.lemmas.List.Concat.{get_or-flat_map}
use Rattle.asp_defs.specs.declared.ground.Const.{Const}
use Rattle.asp_defs.specs.declared.ground.GroundAtom.{GroundAtom}
use Rattle.asp_defs.specs.Lists.{IsIn}
use Rattle.asp_defs.specs.Constants.{const_cmp}
use Rattle.asp_defs.specs.Bases.{Predicate, predicate_cmp, predicate_atoms, atom_number}
use Rattle.asp_defs.proofs.Lists.{map_at}
use Rattle.asp_walk.proofs.Lists.{flat_at}
use Rattle.asp_atoms.specs.declared.vocabularies.NumberedPredicate.{NumberedPredicate}
use Rattle.asp_atoms.specs.Ascending.{Ascends}
use Rattle.asp_atoms.specs.Tuples.{in_base, shifted, numbers_of}
use Rattle.asp_atoms.specs.Vocabularies.{const_rank, unnumbered, numbered_from}
use Rattle.asp_atoms.proofs.Orders.{const_lawful, atom_lawful}
use Rattle.asp_atoms.proofs.Positions.{place_of, place_below, at_place}
use Rattle.asp_atoms.proofs.Tupling.{before, tuples, applied, length_rows, length_tuples, length_predicate, tuple_wider, atoms_ascend}

-- ---- ranks as digits

-- so many ranks as digits, the first the most significant
abbrev pub value : ℕ → ℕ → List ℕ → ℕ
value base zero ranks = 0
value base (suc arity) [] = 0
value base (suc arity) (rank ∷ ranks) = rank * base ^ arity + value base arity ranks

-- reading goes on behind what is read
read_on : (base a : ℕ) (ranks : List ℕ) → fold (λ n rank. n * base + rank) a ranks ≡ a * base ^ length ranks + value base (length ranks) ranks
read_on base a [] = let e = pow-zero base in let one : a * base ^ 0 ≡ a * 1 = ap (λ n. a * n) e in omega (arith, one)
read_on base a (rank ∷ ranks) =
    read_on base (a * base + rank) ranks
    ∙ step (base ^ length ranks) (base ^ suc (length ranks)) (value base (length ranks) ranks) (pow-suc base (length ranks))
  where
    step : (p q v : ℕ) → q ≡ p * base → (a * base + rank) * p + v ≡ a * q + (rank * p + v)
    step p q v e =
        let one : (a * base + rank) * p ≡ a * base * p + rank * p = add-mul (a * base) rank p in
        let two : a * base * p ≡ a * (base * p) = mul_assoc a base p in
        let three : a * (base * p) ≡ a * q = ap (λ n. a * n) (mul_comm base p ∙ sym e) in
        omega (arith, one, two, three)

pub read_is : (base : ℕ) (ranks : List ℕ) → in_base base ranks ≡ value base (length ranks) ranks
read_is base ranks =
    let e = read_on base 0 ranks in
    let z : 0 * base ^ length ranks ≡ 0 = zero-mul (base ^ length ranks) in omega (arith, e, z)

-- ---- where a tuple stands

pub record Placed (U : List Const) (arity : ℕ) (t : List Const) : Type 0 where
  pub below : value (length U) arity (map (const_rank U) t) < length U ^ arity
  pub is : (d : List Const) → get_or (tuples arity U) (value (length U) arity (map (const_rank U) t)) d ≡ t

room : (i n p j : ℕ) → i < n → j < p → i * p + j < n * p
room i n p j h g =
    let le : suc i * p ≤ n * p = mul-le-mul_right p h in
    let e = suc-mul i p in
    omega (arith, le, e)

pub placed : (U : List Const) → Ascends const_cmp U → (arity : ℕ) (t : List Const) → IsIn t (tuples arity U) → Placed U arity t
placed U up zero t (inl e) = record {
  below = let one = pow-zero (length U) in omega (arith, one);
  is = λ d. sym e;
}
placed U up zero t (inr i) = absurd i
placed U up (suc arity) t i =
    let x = flat_at (before (tuples arity U)) U t i in
    let s = map_at (λ tuple. x.0 ∷ tuple) (tuples arity U) t x.2 in
    subst (Placed U (suc arity)) (sym s.2) (go x.0 s.0 x.1 (placed U up arity s.0 s.1))
  where
    go : (x : Const) (s : List Const) → IsIn x U → Placed U arity s → Placed U (suc arity) (x ∷ s)
    go x s m p =
        let T = tuples arity U in
        let rank = const_rank U x in
        let j = value (length U) arity (map (const_rank U) s) in
        let low : rank < length U = place_below const_lawful U up x m in
        let long : length T ≡ length U ^ arity = length_tuples arity U in
        let rows : length (flat_map (before T) (take rank U)) ≡ length (take rank U) * length T = length_rows T (take rank U) in
        let few : length (take rank U) ≡ rank = length-take-le rank U (omega arith) in
        let start : length (flat_map (before T) (take rank U)) ≡ rank * length U ^ arity =
        rows ∙ (ap (λ n. n * length T) few ∙ ap (λ n. rank * n) long) in
        let here : get_or U rank x ≡ x = at_place const_lawful U up x x m in
        let count : length (before T (get_or U rank x)) ≡ length U ^ arity = length-map T (λ tuple. get_or U rank x ∷ tuple) ∙ long in
        let inside : j < length (before T (get_or U rank x)) = let b = p.below in omega (arith, count, b) in
        let within : j < length T = let b = p.below in omega (arith, long, b) in
        record {
          below =
              let top : length U ^ suc arity ≡ length U * length U ^ arity = pow-suc (length U) arity ∙ mul_comm (length U ^ arity) (length U) in
              let fits : rank * length U ^ arity + j < length U * length U ^ arity = room rank (length U) (length U ^ arity) j low p.below in
              omega (arith, top, fits);
          is = λ d.
              ap (λ n. get_or (tuples (suc arity) U) (n + j) d) (sym start)
              ∙ (get_or-flat_map (before T) U rank j x d low inside
              ∙ (ap (λ w. get_or (before T w) j d) here
              ∙ (get_or-map (λ tuple. x ∷ tuple) T j s d within ∙ ap (λ l. x ∷ l) (p.is s))));
        }

-- ---- where the atoms of a predicate stand

pub record Block (U : List Const) (qs : List Predicate) (first : ℕ) (n : NumberedPredicate) : Type 0 where
  pub skipped : ℕ
  pub first_is : n.first ≡ first + skipped
  pub room : skipped + length U ^ n.arity ≤ length (flat_map (predicate_atoms U) qs)
  pub has : (j : ℕ) (d : GroundAtom) → j < length U ^ n.arity → get_or (flat_map (predicate_atoms U) qs) (skipped + j) d ≡ get_or (predicate_atoms U (unnumbered n)) j d

pub block : (U : List Const) (qs : List Predicate) (first : ℕ) (n : NumberedPredicate) → IsIn n (numbered_from (length U) first qs) → Block U qs first n
block U [] first n i = absurd i
block U (q ∷ qs) first n (inl e) = subst (Block U (q ∷ qs) first) (sym e) (record {
  skipped = 0;
  first_is = omega arith;
  room =
      let all = length-append (predicate_atoms U q) (flat_map (predicate_atoms U) qs) in
      let here = length_predicate U q in omega (arith, all, here);
  has = λ j d h.
      let here = length_predicate U q in
      let z : 0 + j ≡ j = omega arith in
      ap (λ k. get_or (predicate_atoms U q ++ flat_map (predicate_atoms U) qs) k d) z
      ∙ get_or_append_left (predicate_atoms U q) (flat_map (predicate_atoms U) qs) d j (omega (arith, here, h));
})
block U (q ∷ qs) first n (inr i) =
    let rest = block U qs (first + length U ^ q.arity) n i in
    let here = length_predicate U q in
    record {
      skipped = length U ^ q.arity + rest.skipped;
      first_is = let e = rest.first_is in omega (arith, e);
      room =
          let all = length-append (predicate_atoms U q) (flat_map (predicate_atoms U) qs) in
          let r = rest.room in omega (arith, all, here, r);
      has = λ j d h.
          let k : length U ^ q.arity + rest.skipped + j ≡ length (predicate_atoms U q) + (rest.skipped + j) = omega (arith, here) in
          ap (λ m. get_or (predicate_atoms U q ++ flat_map (predicate_atoms U) qs) m d) k
          ∙ (get_or-append-add (predicate_atoms U q) (flat_map (predicate_atoms U) qs) (rest.skipped + j) d ∙ rest.has j d h);
    }

-- ---- the number of an atom

pub atom_number_value : (U : List Const) (qs : List Predicate) → Ascends const_cmp U → Ascends predicate_cmp qs → (n : NumberedPredicate) → IsIn n (numbered_from (length U) 0 qs) → (t : List Const) → IsIn t (tuples n.arity U) → atom_number (flat_map (predicate_atoms U) qs) (applied (unnumbered n) t) ≡ n.first + value (length U) n.arity (map (const_rank U) t)
atom_number_value U qs up rise n i t m =
    let b = block U qs 0 n i in
    let p = placed U up n.arity t m in
    let v = value (length U) n.arity (map (const_rank U) t) in
    let low : v < length U ^ n.arity = p.below in
    let start : n.first + v ≡ b.skipped + v = let e = b.first_is in omega (arith, e) in
    let inside : b.skipped + v < length (flat_map (predicate_atoms U) qs) = let r = b.room in omega (arith, r, low) in
    let long = length_tuples n.arity U in
    let within : v < length (tuples n.arity U) = omega (arith, long, low) in
    let is : (d : GroundAtom) → get_or (flat_map (predicate_atoms U) qs) (b.skipped + v) d ≡ applied (unnumbered n) t =
    λ d. b.has v d low ∙ (get_or-map (applied (unnumbered n)) (tuples n.arity U) v t d within ∙ ap (applied (unnumbered n)) (p.is t)) in
    place_of atom_lawful (flat_map (predicate_atoms U) qs) (atoms_ascend U qs up rise) (applied (unnumbered n) t) (b.skipped + v) inside is ∙ sym start

-- ---- the numbers of all atoms of a predicate over some of the constants

abbrev part : List Const → ℕ → ℕ → List Const → ℕ
part U first arity t = first + value (length U) arity (map (const_rank U) t)

abbrev row : List Const → ℕ → ℕ → List (List Const) → ℕ → List ℕ
row U first arity T rank = map (λ n. rank * length U ^ arity + n) (map (part U first arity) T)

swapped_sum : (a b c : ℕ) → a + (b + c) ≡ b + (a + c)
swapped_sum a b c = omega arith

row_is : (U : List Const) (first arity : ℕ) (x : Const) (T : List (List Const)) → row U first arity T (const_rank U x) ≡ map (part U first (suc arity)) (before T x)
row_is U first arity x [] = refl
row_is U first arity x (t ∷ T) =
    ap (λ n. n ∷ row U first arity T (const_rank U x)) (swapped_sum (const_rank U x * length U ^ arity) first (value (length U) arity (map (const_rank U) t)))
    ∙ ap (λ l. part U first (suc arity) (x ∷ t) ∷ l) (row_is U first arity x T)

rows_are : (U : List Const) (first arity : ℕ) (T : List (List Const)) (V : List Const) → flat_map (row U first arity T) (map (const_rank U) V) ≡ map (part U first (suc arity)) (flat_map (before T) V)
rows_are U first arity T [] = refl
rows_are U first arity T (x ∷ V) =
    ap (λ l. l ++ flat_map (row U first arity T) (map (const_rank U) V)) (row_is U first arity x T)
    ∙ (ap (λ l. map (part U first (suc arity)) (before T x) ++ l) (rows_are U first arity T V)
    ∙ sym (map-append (part U first (suc arity)) (before T x) (flat_map (before T) V)))

numbers_are : (U V : List Const) (first arity : ℕ) → numbers_of first (length U) (map (const_rank U) V) arity ≡ map (part U first arity) (tuples arity V)
numbers_are U V first zero = let e : first ≡ first + 0 = omega arith in ap (λ n. n ∷ []) e
numbers_are U V first (suc arity) =
    ap (λ l. shifted (length U ^ arity) l (map (const_rank U) V)) (numbers_are U V first arity)
    ∙ rows_are U first arity (tuples arity V) V

pub map_agrees : {A B : Type 0} (f g : A → B) (xs : List A) → ((x : A) → IsIn x xs → f x ≡ g x) → map f xs ≡ map g xs
map_agrees f g [] h = refl
map_agrees f g (x ∷ xs) h =
    ap (λ y. y ∷ map f xs) (h x (inl refl)) ∙ ap (λ ys. g x ∷ ys) (map_agrees f g xs (λ z i. h z (inr i)))

pub map_map : {A B C : Type 0} (f : B → C) (g : A → B) (xs : List A) → map f (map g xs) ≡ map (λ x. f (g x)) xs
map_map f g [] = refl
map_map f g (x ∷ xs) = ap (λ ys. f (g x) ∷ ys) (map_map f g xs)

pub predicate_is : (U V : List Const) (qs : List Predicate) → Ascends const_cmp U → Ascends predicate_cmp qs → ((x : Const) → IsIn x V → IsIn x U) → (n : NumberedPredicate) → IsIn n (numbered_from (length U) 0 qs) → map (atom_number (flat_map (predicate_atoms U) qs)) (predicate_atoms V (unnumbered n)) ≡ numbers_of n.first (length U) (map (const_rank U) V) n.arity
predicate_is U V qs up rise wider n i =
    map_map (atom_number (flat_map (predicate_atoms U) qs)) (applied (unnumbered n)) (tuples n.arity V)
    ∙ (map_agrees (λ t. atom_number (flat_map (predicate_atoms U) qs) (applied (unnumbered n) t)) (part U n.first n.arity) (tuples n.arity V)
    (λ t m. atom_number_value U qs up rise n i t (tuple_wider n.arity V U wider t m))
    ∙ sym (numbers_are U V n.first n.arity))
