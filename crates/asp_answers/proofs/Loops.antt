-- The steps of loops over assumptions, cores and true atoms.
use Rattle.std.proofs.Common.{◌≡◌, ℕ, zero, suc, ◌+◌, ◌/◌, ◌<◌, ◌≤◌, Bool, true, false, ◌||◌, cond, List, [], ◌∷◌, ◌++◌, map, length, get_or, set, take, replicate, refl, sym, ap, ◌∙◌, subst, inl, inr, arith}
use Rattle.std.specs.Prelude.{◌==◌, Some}
use Rattle.std.specs.List.{filter, slice_get}
use Rattle.std.proofs.lemmas.Bool.{cases_eq, eq-eqb, ne_eqb}
use Rattle.std.proofs.lemmas.List.{map_more, map-append, get_or-set_same, get_or-set_other, get_or_default, length-take-le}
use Rattle.std.proofs.lemmas.List.Elements.{filter-append}
use Rattle.std.proofs.lemmas.List.Filters.{length-filter_more}
use Rattle.asp_defs.specs.declared.ground.Lit.{Lit}
use Rattle.asp_defs.specs.Interpretations.{holds}
use Rattle.asp_bits.specs.Places.{true_places}
use Rattle.asp_bits.proofs.TruePlaces.{any-read}
use Rattle.asp_search.specs.Cores.{IsCore}
use Rattle.asp_search.specs.Seen.{AreCodes}
use Rattle.asp_completion.specs.Codes.{rank, code, codes, literal}
use Rattle.asp_answers.specs.Assumptions.{literals_in, names, outer_part, assumed_literals}
use Rattle.asp_completion.proofs.Loops.{map-twice}

-- ---- assumptions

-- the code of an outer literal, whose truth was read
pub outer-code : (B : List ℕ) (values : List Bool) (a r : ℕ) (p : Bool) → slice_get values a ≡ Some p
    → r ≡ code B (literal p a) → r ≡ code B (literal (holds (true_places values) a) a)
outer-code B values a r p read e = e ∙ ap (λ q. code B (literal q a)) (sym (any-read values a p read))

pub assumed-codes : (B L M : List ℕ) (region : List Lit) (i0 i1 i2 : List ℕ) → i0 ≡ []
    → i1 ≡ i0 ++ map (λ a. code B (literal (holds M a) a)) L → i2 ≡ i1 ++ codes B region
    → i2 ≡ codes B (assumed_literals L M region)
assumed-codes B L M region i0 i1 i2 none one two =
    let f : ℕ → ℕ = λ a. code B (literal (holds M a) a) in
    let outer : codes B (literals_in L M) ≡ map f L = map-twice (code B) (λ a. literal (holds M a) a) L in
    two ∙ (ap (λ (t : List ℕ). t ++ codes B region) (one ∙ ap (λ (t : List ℕ). t ++ map f L) none)
    ∙ (ap (λ (t : List ℕ). t ++ codes B region) (sym outer) ∙ sym (map-append (code B) (literals_in L M) region)))

-- ---- cores

-- no place of a list of false values is true
pub none-true : (n a : ℕ) → get_or (replicate n false) a false ≡ false
none-true zero a = refl
none-true (suc n) zero = refl
none-true (suc n) (suc a) = none-true n a

-- one more code of a core is marked, or is the code of no atom of the search
pub names-step : (core : List ℕ) (i d k : ℕ) → i < length core
    → names (take (i + 1) core) k ≡ (names (take i core) k || (get_or core i d / 2 == k))
names-step [] i d k h = absurd (omega arith)
names-step (c ∷ core) zero d k h = go (c / 2 == k)
  where
    go : (p : Bool) → (p || false) ≡ (false || p)
    go true = refl
    go false = refl
names-step (c ∷ core) (suc i) d k h =
    let step : names (take (i + 1) core) k ≡ (names (take i core) k || (get_or core i d / 2 == k)) = names-step core i d k (omega arith) in
    let e : suc i + 1 ≡ suc (i + 1) = omega arith in
    ap (λ (n : ℕ). names (take n (c ∷ core)) k) e
    ∙ (ap (λ (t : Bool). (c / 2 == k) || t) step ∙ go (c / 2 == k) (names (take i core) k) (get_or core i d / 2 == k))
  where
    go : (p q r : Bool) → (p || (q || r)) ≡ ((p || q) || r)
    go true q r = refl
    go false q r = refl

or_true : (p : Bool) → (p || true) ≡ true
or_true true = refl
or_true false = refl

or_false : (p : Bool) → (p || false) ≡ p
or_false true = refl
or_false false = refl

pub marked-step : (core : List ℕ) (i d atoms : ℕ) (marks : List Bool) → i < length core → length marks ≡ atoms
    → ((k : ℕ) → k < atoms → get_or marks k false ≡ names (take i core) k) → get_or core i d / 2 < atoms
    → (k : ℕ) → k < atoms → get_or (set marks (get_or core i d / 2) true) k false ≡ names (take (i + 1) core) k
marked-step core i d atoms marks h size before fits k less =
    let c : ℕ = get_or core i d / 2 in
    elim (cases_eq k c) [
      | inl here ↦
          ap (λ n. get_or (set marks c true) n false) here
          ∙ (get_or-set_same marks c true false (omega arith)
          ∙ (sym (or_true (names (take i core) k))
          ∙ (ap (λ t. names (take i core) k || t) (sym (eq-eqb c k (sym here))) ∙ sym (names-step core i d k h))))
      | inr other ↦
          get_or-set_other marks c k true false other
          ∙ (before k less
          ∙ (sym (or_false (names (take i core) k))
          ∙ (ap (λ t. names (take i core) k || t) (sym (ne_eqb c k (λ e. other (sym e)))) ∙ sym (names-step core i d k h))))
    ]

pub unmarked-step : (core : List ℕ) (i d atoms : ℕ) (marks : List Bool) → i < length core
    → ((k : ℕ) → k < atoms → get_or marks k false ≡ names (take i core) k) → atoms ≤ get_or core i d / 2
    → (k : ℕ) → k < atoms → get_or marks k false ≡ names (take (i + 1) core) k
unmarked-step core i d atoms marks h before past k less =
    before k less
    ∙ (sym (or_false (names (take i core) k))
    ∙ (ap (λ t. names (take i core) k || t) (sym (ne_eqb (get_or core i d / 2) k (λ e. omega arith))) ∙ sym (names-step core i d k h)))

-- a part of what is assumed has codes of the search
pub core-codes : (clauses : List (List ℕ)) (assumed core : List ℕ) (n : ℕ) → IsCore clauses assumed core → AreCodes n assumed
    → AreCodes n core
core-codes clauses assumed core n is_core fits i h =
    let found = is_core.part (get_or core i 0) (i, h, get_or_default core i (get_or core i 0) 0 h) in
    let at : get_or assumed found.0 0 ≡ get_or core i 0 =
    get_or_default assumed found.0 0 (get_or core i 0) found.1 ∙ found.2 in
    subst (λ (c : ℕ). c < n) at (fits found.0 found.1)

-- the outer literals whose atoms are named, one atom further
pub part-step : (B L M core : List ℕ) (i d : ℕ) → i < length L
    → outer_part B (take (i + 1) L) M core
    ≡ outer_part B (take i L) M core
    ++ cond (names core (rank B (get_or L i d))) (literal (holds M (get_or L i d)) (get_or L i d) ∷ []) []
part-step B L M core i d h =
    let lit : ℕ → Lit = λ a. literal (holds M a) a in
    let test : Lit → Bool = λ l. names core (rank B l.atom) in
    ap (filter test) (map_more lit L i d h)
    ∙ filter-append test (map lit (take i L)) (lit (get_or L i d) ∷ [])

pub part-next : (B L M core : List ℕ) (part : List Lit) (i d : ℕ) (p t : Bool) → i < length L
    → holds M (get_or L i d) ≡ p → names core (rank B (get_or L i d)) ≡ t → part ≡ outer_part B (take i L) M core
    → part ++ cond t (literal p (get_or L i d) ∷ []) [] ≡ outer_part B (take (i + 1) L) M core
part-next B L M core part i d p t h value test before =
    let a : ℕ = get_or L i d in
    ap (λ (ls : List Lit). ls ++ cond t (literal p a ∷ []) []) before
    ∙ (ap (λ q. outer_part B (take i L) M core ++ cond t (literal q a ∷ []) []) (sym value)
    ∙ (ap (λ q. outer_part B (take i L) M core ++ cond q (literal (holds M a) a ∷ []) []) (sym test)
    ∙ sym (part-step B L M core i d h)))

-- ---- counting

pub count-next : (p : ℕ → Bool) (xs : List ℕ) (k d count : ℕ) → k < length xs → p (get_or xs k d) ≡ true
    → count ≡ length (filter p (take k xs)) → count + 1 ≡ length (filter p (take (k + 1) xs))
count-next p xs k d count h test e =
    ap (λ n. n + 1) e
    ∙ (ap (λ t. length (filter p (take k xs)) + cond t 1 0) (sym test) ∙ sym (length-filter_more p xs k d h))

pub count-stays : (p : ℕ → Bool) (xs : List ℕ) (k d count : ℕ) → k < length xs → p (get_or xs k d) ≡ false
    → count ≡ length (filter p (take k xs)) → count ≡ length (filter p (take (k + 1) xs))
count-stays p xs k d count h test e =
    let more : length (filter p (take (k + 1) xs)) ≡ length (filter p (take k xs)) + cond (p (get_or xs k d)) 1 0 =
    length-filter_more p xs k d h in
    let none : cond {A = ℕ} (p (get_or xs k d)) 1 0 ≡ 0 = ap (λ (t : Bool). cond {A = ℕ} t 1 0) test in
    omega arith

filter-few : (p : ℕ → Bool) (xs : List ℕ) → length (filter p xs) ≤ length xs
filter-few p [] = omega arith
filter-few p (x ∷ xs) = go (p x) (filter-few p xs)
  where
    go : (t : Bool) → length (filter p xs) ≤ length xs → length (cond t (x ∷ filter p xs) (filter p xs)) ≤ suc (length xs)
    go true h = omega arith
    go false h = omega arith

pub count-few : (p : ℕ → Bool) (xs : List ℕ) (k count : ℕ) → k ≤ length xs → count ≡ length (filter p (take k xs)) → count ≤ k
count-few p xs k count h e =
    let few : length (filter p (take k xs)) ≤ length (take k xs) = filter-few p (take k xs) in
    let taken : length (take k xs) ≡ k = length-take-le k xs h in
    omega arith
