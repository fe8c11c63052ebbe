-- Candidates as truth values of all atoms, and how many atoms they have.
use Rattle.std.proofs.Common.{◌≡◌, ℕ, suc, ◌+◌, ◌<◌, ◌≤◌, Bool, true, false, not, List, [], ◌∷◌, length, get_or, set, refl, sym, ap, ◌∙◌, subst, inl, inr, arith}
use Rattle.std.specs.List.{filter}
use Rattle.std.proofs.lemmas.Bool.{lt-ltb, cases_eq}
use Rattle.std.proofs.lemmas.List.{get_or-set_same, get_or-set_other, length-set}
use Rattle.std.proofs.lemmas.List.Filters.{length-filter_both}
use Rattle.asp_bits.specs.Places.{true_from, true_places}
use Rattle.asp_bits.proofs.TruePlaces.{any-true_places}
use Rattle.asp_defs.specs.Lists.{IsIn}
use Rattle.asp_defs.specs.Interpretations.{holds, subsets}
use Rattle.asp_defs.specs.Games.{ascends}
use Rattle.asp_defs.proofs.Lists.{filter_at, filter_from}
use Rattle.asp_defs.proofs.Subsets.{holds_at, holds_from, subset-member, filter-subset, subset_full}
use Rattle.asp_defs.proofs.CellLaws.{subset_from, length-subset}
use Rattle.asp_search.specs.Found.{assignment_of}
use Rattle.asp_minimal.specs.Choices.{bound_atoms}
use Rattle.asp_completion.specs.Codes.{rank, Agrees}
use Rattle.asp_answers.specs.Works.{IsRead}
use Rattle.asp_completion.proofs.Places.{rank-within, get_or-rank, in_at}
use Rattle.asp_completion.proofs.Moves.{ascends-cons, subset-ascends}
use Rattle.asp_completion.proofs.Bases.{ascends-places}

-- ---- true places

from_below : (first : ℕ) (values : List Bool) (a : ℕ) → IsIn a (true_from first values) → first ≤ a
from_below first [] a i = absurd i
from_below first (true ∷ values) a (inl e) = omega arith
from_below first (true ∷ values) a (inr i) = let h : suc first ≤ a = from_below (suc first) values a i in omega arith
from_below first (false ∷ values) a i = let h : suc first ≤ a = from_below (suc first) values a i in omega arith

from_ascends : (first : ℕ) (values : List Bool) → ascends (true_from first values) ≡ true
from_ascends first [] = refl
from_ascends first (true ∷ values) =
    ascends-cons first (true_from (suc first) values) (from_ascends (suc first) values)
    (λ a i. lt-ltb first a (let h : suc first ≤ a = from_below (suc first) values a i in omega arith))
from_ascends first (false ∷ values) = from_ascends (suc first) values

pub true_places-ascend : (values : List Bool) → ascends (true_places values) ≡ true
true_places-ascend values = from_ascends 0 values

pub holds-places : (values : List Bool) (a : ℕ) → holds (true_places values) a ≡ get_or values a false
holds-places values a = any-true_places values a

-- truth values that are false outside a base are a subset of it
pub inside-subset : (B : List ℕ) (values : List Bool) → ascends B ≡ true
    → ((a : ℕ) → get_or values a false ≡ true → holds B a ≡ true) → IsIn (true_places values) (subsets B)
inside-subset B values up inside =
    subset_from B (true_places values) up (true_places-ascend values)
    (λ a i. holds_at B a (inside a (sym (holds-places values a) ∙ holds_from (true_places values) a i)))

-- ---- reading

pub read-agrees : (B : List ℕ) (atoms : ℕ) (trail : List ℕ) (values : List Bool) → IsRead B atoms trail values
    → Agrees B (assignment_of trail) (true_places values)
read-agrees B atoms trail values r = record {
  value = λ a h.
      let i : IsIn a B = holds_at B a h in
      holds-places values a
      ∙ (ap (λ b. get_or values b false) (sym (get_or-rank B a i)) ∙ r.values (rank B a) (rank-within B a i));
}

-- the part of the base before a place was read
pub record IsReadTo (B : List ℕ) (atoms : ℕ) (trail : List ℕ) (values : List Bool) (end : ℕ) : Type 0 where
  pub places : length values ≡ atoms
  pub inside : (a : ℕ) → get_or values a false ≡ true → holds B a ≡ true
  pub values_at : (k : ℕ) → k < end → get_or values (get_or B k 0) false ≡ assignment_of trail k

pub read-step : (B : List ℕ) (atoms : ℕ) (trail : List ℕ) (values : List Bool) (i : ℕ) (value : Bool)
    → ascends B ≡ true → i < length B → get_or B i 0 < atoms → value ≡ assignment_of trail i
    → IsReadTo B atoms trail values i → IsReadTo B atoms trail (set values (get_or B i 0) value) (i + 1)
read-step B atoms trail values i value up h fits e r =
    let within : get_or B i 0 < length values = let s = r.places in omega arith in
    record {
      places = length-set values (get_or B i 0) value ∙ r.places;
      inside = λ a held.
          elim (cases_eq a (get_or B i 0)) [
            | inl here ↦ ap (holds B) here ∙ holds_from B (get_or B i 0) (in_at B i h)
            | inr other ↦ r.inside a (sym (get_or-set_other values (get_or B i 0) a value false other) ∙ held)
          ];
      values_at = λ k less.
          elim (cases_eq k i) [
            | inl same ↦
                ap (λ n. get_or (set values (get_or B i 0) value) (get_or B n 0) false) same
                ∙ (get_or-set_same values (get_or B i 0) value false within ∙ (e ∙ ap (assignment_of trail) (sym same)))
            | inr later ↦
                let earlier : k < i = omega arith in
                let below : get_or B k 0 < get_or B i 0 = ascends-places B k i up earlier h in
                get_or-set_other values (get_or B i 0) (get_or B k 0) value false (λ q. omega arith) ∙ r.values_at k earlier
          ];
    }

pub read-init : (B : List ℕ) (atoms : ℕ) (trail : List ℕ) (values : List Bool) → length values ≡ atoms
    → ((a : ℕ) → get_or values a false ≡ true → holds B a ≡ true) → IsReadTo B atoms trail values 0
read-init B atoms trail values places inside =
    record { places = places; inside = inside; values_at = λ k h. absurd (omega arith) }

pub read-next : (B : List ℕ) (atoms : ℕ) (trail : List ℕ) (xs : List ℕ) (old new : List Bool) (i : ℕ) (value : Bool)
    → ascends B ≡ true → ((a : ℕ) → holds B a ≡ true → a < atoms) → xs ≡ B → i < length xs → value ≡ assignment_of trail i
    → new ≡ set old (get_or xs i 0) value → IsReadTo B atoms trail old i → IsReadTo B atoms trail new (i + 1)
read-next B atoms trail xs old new i value up below same h e changed r =
    let sizes : length xs ≡ length B = ap (λ (ys : List ℕ). length ys) same in
    let within : i < length B = omega arith in
    subst (λ (vs : List Bool). IsReadTo B atoms trail vs (i + 1))
    (sym (changed ∙ ap (λ (ys : List ℕ). set old (get_or ys i 0) value) same))
    (read-step B atoms trail old i value up within (below (get_or B i 0) (holds_from B (get_or B i 0) (in_at B i within))) e r)

pub read-done : (B : List ℕ) (atoms : ℕ) (trail : List ℕ) (xs : List ℕ) (values : List Bool) (end : ℕ) → xs ≡ B → length xs ≤ end
    → IsReadTo B atoms trail values end → IsRead B atoms trail values
read-done B atoms trail xs values end same past r =
    let sizes : length xs ≡ length B = ap (λ (ys : List ℕ). length ys) same in
    record { places = r.places; inside = r.inside; values = λ k h. r.values_at k (omega arith) }

-- ---- counting

-- two ascending lists with the same members are equal
pub same_members : (X Y : List ℕ) → ascends X ≡ true → ascends Y ≡ true → ((a : ℕ) → IsIn a X → IsIn a Y)
    → ((a : ℕ) → IsIn a Y → IsIn a X) → X ≡ Y
same_members X Y upX upY there back = subset_full Y X upY (subset_from Y X upY upX there) back

filter-ascends : (p : ℕ → Bool) (B : List ℕ) → ascends B ≡ true → ascends (filter p B) ≡ true
filter-ascends p B up = subset-ascends B (filter p B) up (filter-subset p B)

-- the atoms of a subset are those of the base that it has; those of a lower base, too, are counted from either side
base-count : (B J : List ℕ) → ascends B ≡ true → IsIn J (subsets B) → filter (holds J) B ≡ J
base-count B J up i =
    same_members (filter (holds J) B) J (filter-ascends (holds J) B up) (subset-ascends B J up i)
    (λ a h. holds_at J a ((filter_at (holds J) B a h).1))
    (λ a h. filter_from (holds J) B a (subset-member B J a i h) (holds_from J a h))

lower-count : (L J : List ℕ) → ascends L ≡ true → ascends J ≡ true → filter (holds J) L ≡ filter (holds L) J
lower-count L J up upJ =
    same_members (filter (holds J) L) (filter (holds L) J) (filter-ascends (holds J) L up) (filter-ascends (holds L) J upJ)
    (λ a h. let parts = filter_at (holds J) L a h in filter_from (holds L) J a (holds_at J a parts.1) (holds_from L a parts.0))
    (λ a h. let parts = filter_at (holds L) J a h in filter_from (holds J) L a (holds_at L a parts.1) (holds_from J a parts.0))

pub bound-count : (B L J : List ℕ) → ascends B ≡ true → ascends L ≡ true → IsIn J (subsets B)
    → length (filter (holds J) B) ≡ length (filter (holds J) L) + length (bound_atoms L J)
bound-count B L J up upL i =
    let all : length (filter (holds J) B) ≡ length J = ap length (base-count B J up i) in
    let low : length (filter (holds J) L) ≡ length (filter (holds L) J) =
    ap length (lower-count L J upL (subset-ascends B J up i)) in
    let both_parts : length (filter (holds L) J) + length (filter (λ a. not (holds L a)) J) ≡ length J =
    length-filter_both (holds L) (λ a. not (holds L a)) (λ a. refl) J in
    omega arith

-- no more atoms than the base has
pub bound-few : (B L J : List ℕ) → ascends B ≡ true → ascends L ≡ true → IsIn J (subsets B)
    → length (bound_atoms L J) ≤ length B
bound-few B L J up upL i =
    let parts : length (filter (holds J) B) ≡ length (filter (holds J) L) + length (bound_atoms L J) = bound-count B L J up upL i in
    let all : length (filter (holds J) B) ≡ length J = ap length (base-count B J up i) in
    let most : length J ≤ length B = length-subset B J i in
    omega arith
