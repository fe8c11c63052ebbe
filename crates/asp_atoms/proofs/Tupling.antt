-- Tuples of constants, and the atoms of predicates over them: how many there are, that they ascend, and where they stand.
use Rattle.std.proofs.Common.{ℕ, zero, suc, ◌≡◌, ◌+◌, ◌*◌, ◌^◌, refl, sym, ◌∙◌, ap, subst, inl, inr, List, [], ◌∷◌, map, length, replicate, arith, length-append, pow-suc, suc-mul, zero-mul, mul_comm}
use Rattle.std.specs.List.{flat_map, sum_by}
use Rattle.std.specs.Ordering.{nat_cmp, ordering_then}
use Rattle.std.specs.declared.cmp.Ordering.{Ordering}
use Rattle.std.specs.declared.cmp.Ordering.TheVariants.{Less, Equal, Greater}
use Rattle.std.specs.Cmp.Lexicographic.{slice_cmp}
use Rattle.std.proofs.Math.Nat.{pow-zero}
use Rattle.std.proofs.lemmas.Cmp.{tied_itself}
use Rattle.std.proofs.lemmas.List.{length-map}
use Rattle.std.proofs.lemmas.List.Sums.{sum_by-cons}
use Rattle.asp_defs.specs.declared.ground.Const.{Const}
use Rattle.asp_defs.specs.declared.ground.GroundAtom.{GroundAtom}
use Rattle.asp_defs.specs.Lists.{IsIn}
use Rattle.asp_defs.specs.Constants.{const_cmp, atom_cmp}
use Rattle.asp_defs.specs.Bases.{Predicate, predicate_cmp, product, predicate_atoms}
use Rattle.asp_defs.proofs.Lists.{map_at, map_from}
use Rattle.asp_walk.proofs.Lists.{flat_at, flat_from}
use Rattle.asp_atoms.specs.Ascending.{Ascends}
use Rattle.asp_atoms.proofs.Orders.{bytes_lawful, nat_lawful, const_lawful, lists_lawful, atom_lawful}
use Rattle.asp_atoms.proofs.Ascending.{ascends_flat_map, ascends_map}

-- a constant before each of some tuples
abbrev pub before : List (List Const) → Const → List (List Const)
before tuples x = map (λ tuple. x ∷ tuple) tuples

abbrev pub tuples : ℕ → List Const → List (List Const)
tuples arity U = product (replicate arity U)

abbrev pub applied : Predicate → List Const → GroundAtom
applied q args = record { name = q.name; args = args }

-- ---- how many there are

pub length_rows : (T : List (List Const)) (U : List Const) → length (flat_map (before T) U) ≡ length U * length T
length_rows T [] = sym (zero-mul (length T))
length_rows T (x ∷ U) =
    length-append (before T x) (flat_map (before T) U)
    ∙ (ap (λ n. n + length (flat_map (before T) U)) (length-map T (λ tuple. x ∷ tuple))
    ∙ (ap (λ n. length T + n) (length_rows T U) ∙ split))
  where
    split : length T + length U * length T ≡ suc (length U) * length T
    split = let e = suc-mul (length U) (length T) in omega (arith, e)

pub length_tuples : (arity : ℕ) (U : List Const) → length (tuples arity U) ≡ length U ^ arity
length_tuples zero U = sym (pow-zero (length U))
length_tuples (suc arity) U =
    length_rows (tuples arity U) U
    ∙ (ap (λ n. length U * n) (length_tuples arity U)
    ∙ (mul_comm (length U) (length U ^ arity) ∙ sym (pow-suc (length U) arity)))

pub length_predicate : (U : List Const) (q : Predicate) → length (predicate_atoms U q) ≡ length U ^ q.arity
length_predicate U q = length-map (tuples q.arity U) (applied q) ∙ length_tuples q.arity U

pub length_atoms : (U : List Const) (qs : List Predicate) → length (flat_map (predicate_atoms U) qs) ≡ sum_by (λ q. length U ^ q.arity) qs
length_atoms U [] = refl
length_atoms U (q ∷ qs) =
    length-append (predicate_atoms U q) (flat_map (predicate_atoms U) qs)
    ∙ (ap (λ n. n + length (flat_map (predicate_atoms U) qs)) (length_predicate U q)
    ∙ (ap (λ n. length U ^ q.arity + n) (length_atoms U qs)
    ∙ sym (sum_by-cons (λ (r : Predicate). length U ^ r.arity) q qs)))

-- ---- tuples of some constants

-- a tuple that is longer by one
record Longer (T : List (List Const)) (U : List Const) (t : List Const) : Type 0 where
  head : Const
  tail : List Const
  member : IsIn head U
  rest : IsIn tail T
  is : t ≡ head ∷ tail

longer_at : (T : List (List Const)) (U : List Const) (t : List Const) → IsIn t (flat_map (before T) U) → Longer T U t
longer_at T U t i =
    let x = flat_at (before T) U t i in
    let s = map_at (λ tuple. x.0 ∷ tuple) T t x.2 in
    record { head = x.0; tail = s.0; member = x.1; rest = s.1; is = s.2 }

longer_from : (T : List (List Const)) (U : List Const) (x : Const) (s : List Const) → IsIn x U → IsIn s T → IsIn (x ∷ s) (flat_map (before T) U)
longer_from T U x s i j = flat_from (before T) U x (x ∷ s) i (map_from (λ tuple. x ∷ tuple) T s j)

pub tuple_long : (arity : ℕ) (U : List Const) (t : List Const) → IsIn t (tuples arity U) → length t ≡ arity
tuple_long zero U t (inl e) = ap length e
tuple_long zero U t (inr i) = absurd i
tuple_long (suc arity) U t i =
    let l = longer_at (tuples arity U) U t i in
    ap length l.is ∙ ap suc (tuple_long arity U l.tail l.rest)

pub tuple_wider : (arity : ℕ) (V U : List Const) → ((x : Const) → IsIn x V → IsIn x U) → (t : List Const) → IsIn t (tuples arity V) → IsIn t (tuples arity U)
tuple_wider zero V U wider t i = i
tuple_wider (suc arity) V U wider t i =
    let l = longer_at (tuples arity V) V t i in
    subst (λ s. IsIn s (tuples (suc arity) U)) (sym l.is)
    (longer_from (tuples arity U) U l.head l.tail (wider l.head l.member) (tuple_wider arity V U wider l.tail l.rest))

-- ---- tuples ascend

abbrev tuple_cmp : List Const → List Const → Ordering
tuple_cmp = slice_cmp const_cmp

one_before : (x : Const) (s t : List Const) → tuple_cmp s t ≡ Less → tuple_cmp (x ∷ s) (x ∷ t) ≡ Less
one_before x s t h = ap (λ o. ordering_then o (tuple_cmp s t)) (tied_itself const_lawful.total x) ∙ h

first_less : (x z : Const) (T : List (List Const)) → const_cmp x z ≡ Less → (a b : List Const) → IsIn a (before T x) → IsIn b (before T z) → tuple_cmp a b ≡ Less
first_less x z T h a b i j =
    let s = map_at (λ tuple. x ∷ tuple) T a i in
    let t = map_at (λ tuple. z ∷ tuple) T b j in
    ap (λ l. tuple_cmp l b) s.2
    ∙ (ap (tuple_cmp (x ∷ s.0)) t.2 ∙ ap (λ o. ordering_then o (tuple_cmp s.0 t.0)) h)

pub tuples_ascend : (arity : ℕ) (U : List Const) → Ascends const_cmp U → Ascends (slice_cmp const_cmp) (tuples arity U)
tuples_ascend zero U up = (tt, tt)
tuples_ascend (suc arity) U up =
    ascends_flat_map const_cmp (lists_lawful const_lawful) (before (tuples arity U)) U up
    (λ x. ascends_map tuple_cmp tuple_cmp (λ tuple. x ∷ tuple) (tuples arity U) (λ s t i j h. one_before x s t h) (tuples_ascend arity U up))
    (λ x z h a b i j. first_less x z (tuples arity U) h a b i j)

-- ---- atoms ascend

same_length : (arity : ℕ) (s t : List Const) → length s ≡ arity → length t ≡ arity → nat_cmp (length s) (length t) ≡ Equal
same_length arity s t e f = ap (λ n. nat_cmp n (length t)) e ∙ (ap (nat_cmp arity) f ∙ tied_itself nat_lawful.total arity)

same_predicate : (q : Predicate) (s t : List Const) → length s ≡ q.arity → length t ≡ q.arity → tuple_cmp s t ≡ Less → atom_cmp (applied q s) (applied q t) ≡ Less
same_predicate q s t e f h =
    ap (λ o. ordering_then o (ordering_then (nat_cmp (length s) (length t)) (tuple_cmp s t))) (tied_itself bytes_lawful.total q.name)
    ∙ (ap (λ o. ordering_then o (tuple_cmp s t)) (same_length q.arity s t e f) ∙ h)

predicate_ascends : (U : List Const) → Ascends const_cmp U → (q : Predicate) → Ascends atom_cmp (predicate_atoms U q)
predicate_ascends U up q =
    ascends_map tuple_cmp atom_cmp (applied q) (tuples q.arity U)
    (λ s t i j h. same_predicate q s t (tuple_long q.arity U s i) (tuple_long q.arity U t j) h)
    (tuples_ascend q.arity U up)

then_less : (o p x : Ordering) → ordering_then o p ≡ Less → ordering_then o (ordering_then p x) ≡ Less
then_less Less p x h = refl
then_less Equal p x h = ap (λ r. ordering_then r x) h
then_less Greater p x h = h

less_predicate : (U : List Const) (q r : Predicate) → predicate_cmp q r ≡ Less → (a b : GroundAtom) → IsIn a (predicate_atoms U q) → IsIn b (predicate_atoms U r) → atom_cmp a b ≡ Less
less_predicate U q r h a b i j =
    let s = map_at (applied q) (tuples q.arity U) a i in
    let t = map_at (applied r) (tuples r.arity U) b j in
    let first : nat_cmp (length s.0) (length t.0) ≡ nat_cmp q.arity r.arity =
    ap (λ n. nat_cmp n (length t.0)) (tuple_long q.arity U s.0 s.1) ∙ ap (nat_cmp q.arity) (tuple_long r.arity U t.0 t.1) in
    ap (λ c. atom_cmp c b) s.2
    ∙ (ap (atom_cmp (applied q s.0)) t.2
    ∙ (ap (λ o. ordering_then (slice_cmp nat_cmp q.name r.name) (ordering_then o (tuple_cmp s.0 t.0))) first
    ∙ then_less (slice_cmp nat_cmp q.name r.name) (nat_cmp q.arity r.arity) (tuple_cmp s.0 t.0) h))

pub atoms_ascend : (U : List Const) (qs : List Predicate) → Ascends const_cmp U → Ascends predicate_cmp qs → Ascends atom_cmp (flat_map (predicate_atoms U) qs)
atoms_ascend U qs up rise =
    ascends_flat_map predicate_cmp atom_lawful (predicate_atoms U) qs rise (predicate_ascends U up) (λ q r h a b i j. less_predicate U q r h a b i j)

-- a tuple of as many of these constants
pub tuple_from : (arity : ℕ) (U : List Const) (t : List Const) → length t ≡ arity → ((x : Const) → IsIn x t → IsIn x U) → IsIn t (tuples arity U)
tuple_from zero U [] e h = inl refl
tuple_from zero U (x ∷ t) e h = absurd (omega (arith, e))
tuple_from (suc arity) U [] e h = absurd (omega (arith, e))
tuple_from (suc arity) U (x ∷ t) e h =
    longer_from (tuples arity U) U x t (h x (inl refl)) (tuple_from arity U t (omega (arith, e)) (λ z i. h z (inr i)))
