-- The masks that `remove_non_minimal` is called with once an atom is decided.
use Rattle.std.proofs.Common.{◌≡◌, ◌≤◌, ℕ, Bool, true, false, not, ◌&&◌, ◌||◌, refl, sym, ap, ◌∙◌, subst, inl, inr, arith}
use Rattle.std.specs.Int.{bit_at}
use Rattle.std.specs.Int.RustNames.{bit_and, bit_or, bit_xor}
use Rattle.std.proofs.lemmas.Nat.{and_le_r}
use Rattle.std.proofs.lemmas.Bool.{eqb-true, cases_eq, cases_Bool, both_ways, and_parts, and_from, or_cases, or_left, or_right, false_from_ne_true}
use Rattle.asp_plain.specs.Masks.{IsBitOf}
use Rattle.asp_plain.proofs.Atoms.{bit, or_false, same_masks, bit-and, bit-or, bit-rest, covers, covers_back, no_common, no_common_back}
use Rattle.asp_plain.proofs.Cubes.{is_place, open_bit, b_on, bit-left, left_off}

-- ---- the masks, as the contract has them and atom by atom

pub record Fit (lower set small rest loose : ℕ) : Type 0 where
  pub apart : bit_and set rest ≡ 0
  pub part : bit_and small set ≡ small
  pub free : bit_and small loose ≡ 0
  pub within : bit_and loose (bit_or set rest) ≡ loose
  pub settled : bit_and (bit_and loose lower) set ≡ 0

pub fit_of : (lower set small rest loose : ℕ) → bit_and set rest ≡ 0 → bit_and small set ≡ small → bit_and small loose ≡ 0
    → bit_and loose (bit_or set rest) ≡ loose → bit_and (bit_and loose lower) set ≡ 0 → Fit lower set small rest loose
fit_of lower set small rest loose apart part free within settled = record {
  apart = apart;
  part = part;
  free = free;
  within = within;
  settled = settled;
}

-- S, m, r, o and l say whether an atom is in the set, in the part, open for the set, open for the part, and in `lower`
record FitAt (S m r o l : Bool) : Type 0 where
  apart : S ≡ true → r ≡ false
  part : m ≡ true → S ≡ true
  free : m ≡ true → o ≡ false
  within : o ≡ true → (S || r) ≡ true
  settled : o ≡ true → l ≡ true → S ≡ false

fit_at : (lower set small rest loose : ℕ) → Fit lower set small rest loose → (a : ℕ)
    → FitAt (bit set a) (bit small a) (bit rest a) (bit loose a) (bit lower a)
fit_at lower set small rest loose fit a = record {
  apart = no_common_back set rest fit.apart a;
  part = covers_back small set fit.part a;
  free = no_common_back small loose fit.free a;
  within = λ h. sym (bit-or set rest a) ∙ covers_back loose (bit_or set rest) fit.within a h;
  settled = λ h k.
      no_common_back (bit_and loose lower) set fit.settled a
      (bit-and loose lower a ∙ and_from (bit loose a) (bit lower a) h k);
}

fit_from : (lower set small rest loose : ℕ)
    → ((a : ℕ) → FitAt (bit set a) (bit small a) (bit rest a) (bit loose a) (bit lower a)) → Fit lower set small rest loose
fit_from lower set small rest loose at = record {
  apart = no_common set rest (λ a. (at a).apart);
  part = covers small set (λ a. (at a).part);
  free = no_common small loose (λ a. (at a).free);
  within = covers loose (bit_or set rest) (λ a h. bit-or set rest a ∙ (at a).within h);
  settled = no_common (bit_and loose lower) set (λ a h.
      let both = and_parts (bit loose a) (bit lower a) (sym (bit-and loose lower a) ∙ h) in
      (at a).settled both.0 both.1);
}

same_fit : (S m r o l S' m' r' o' : Bool) → S' ≡ S → m' ≡ m → r' ≡ r → o' ≡ o → FitAt S m r o l → FitAt S' m' r' o' l
same_fit S m r o l S' m' r' o' es em er eo fit = record {
  apart = λ h. er ∙ fit.apart (sym es ∙ h);
  part = λ h. es ∙ fit.part (sym em ∙ h);
  free = λ h. eo ∙ fit.free (sym em ∙ h);
  within = λ h. ap (λ (x : Bool). x || r') es ∙ (ap (λ (x : Bool). S || x) er ∙ fit.within (sym eo ∙ h));
  settled = λ h k. es ∙ fit.settled (sym eo ∙ h) k;
}

-- an atom that isn't open for the part any more
shut_at : (S m r o l : Bool) → (S ≡ true → r ≡ false) → (m ≡ true → S ≡ true) → o ≡ false → FitAt S m r o l
shut_at S m r o l apart part shut = record {
  apart = apart;
  part = part;
  free = λ h. shut;
  within = λ h. absurd (both_ways o shut h);
  settled = λ h k. absurd (both_ways o shut h);
}

-- masks that differ at one atom
fit_next : (lower set small rest loose set' small' rest' loose' place : ℕ) → Fit lower set small rest loose
    → ((a : ℕ) → (place ≡ a → ⊥) → bit set' a ≡ bit set a) → ((a : ℕ) → (place ≡ a → ⊥) → bit small' a ≡ bit small a)
    → ((a : ℕ) → (place ≡ a → ⊥) → bit rest' a ≡ bit rest a) → ((a : ℕ) → (place ≡ a → ⊥) → bit loose' a ≡ bit loose a)
    → FitAt (bit set' place) (bit small' place) (bit rest' place) (bit loose' place) (bit lower place)
    → Fit lower set' small' rest' loose'
fit_next lower set small rest loose set' small' rest' loose' place fit same_set same_small same_rest same_loose there =
    fit_from lower set' small' rest' loose' (λ a.
    elim (cases_eq place a) [
      | inl same ↦ subst (λ (x : ℕ). FitAt (bit set' x) (bit small' x) (bit rest' x) (bit loose' x) (bit lower x)) same there
      | inr other ↦
          same_fit (bit set a) (bit small a) (bit rest a) (bit loose a) (bit lower a)
          (bit set' a) (bit small' a) (bit rest' a) (bit loose' a)
          (same_set a other) (same_small a other) (same_rest a other) (same_loose a other)
          (fit_at lower set small rest loose fit a)
    ])

-- ---- an atom more and an atom less

pub and_true : (p : Bool) → (p && true) ≡ p
and_true true = refl
and_true false = refl

module _ (m b : ℕ) (one : IsBitOf m b) where
  b_off : (a : ℕ) → (one.place ≡ a → ⊥) → bit b a ≡ false
  b_off a other = false_from_ne_true (bit b a) (λ e. other (is_place m b one a e))

  more_beside : (k a : ℕ) → (one.place ≡ a → ⊥) → bit (bit_or k b) a ≡ bit k a
  more_beside k a other = bit-or k b a ∙ (ap (λ (x : Bool). bit k a || x) (b_off a other) ∙ or_false (bit k a))

  pub more_there : (k : ℕ) → bit (bit_or k b) one.place ≡ true
  more_there k = bit-or k b one.place ∙ or_right (bit k one.place) (bit b one.place) (b_on m b one)

  less_beside : (a : ℕ) → (one.place ≡ a → ⊥) → bit (bit_xor m b) a ≡ bit m a
  less_beside a other = bit-left m b one a ∙ (ap (λ (x : Bool). bit m a && not x) (b_off a other) ∙ and_true (bit m a))

  -- the same bit of another mask
  abbrev pub moved : (k : ℕ) → bit k one.place ≡ true → IsBitOf k b
  moved k on = record { place = one.place; power = one.power; there = eqb-true (bit_at k one.place) 1 on }

  -- a mask without what it has of the atom
  abbrev pub without_both : ℕ → ℕ
  without_both k = bit_xor k (bit_and b k)

  without-bits : (k a : ℕ) → bit (without_both k) a ≡ (bit k a && not (bit b a && bit k a))
  without-bits k a =
      bit-rest k (bit_and b k) a (λ h. (and_parts (bit b a) (bit k a) (sym (bit-and b k a) ∙ h)).1)
      ∙ ap (λ (x : Bool). bit k a && not x) (bit-and b k a)

  without_beside : (k a : ℕ) → (one.place ≡ a → ⊥) → bit (without_both k) a ≡ bit k a
  without_beside k a other =
      without-bits k a ∙ (ap (λ (x : Bool). bit k a && not (x && bit k a)) (b_off a other) ∙ and_true (bit k a))

  without_there : (k : ℕ) → bit (without_both k) one.place ≡ false
  without_there k =
      without-bits k one.place
      ∙ (ap (λ (x : Bool). bit k one.place && not (x && bit k one.place)) (b_on m b one) ∙ never (bit k one.place))
    where
      never : (p : Bool) → (p && not (true && p)) ≡ false
      never true = refl
      never false = refl

  pub without_le : (k : ℕ) → without_both k ≤ k
  without_le k =
      let part = covers (without_both k) k (λ a h.
      (and_parts (bit k a) (not (bit b a && bit k a)) (sym (without-bits k a) ∙ h)).0) in
      let le = and_le_r (without_both k) k in
      omega arith

  some_beside : (k j a : ℕ) → (one.place ≡ a → ⊥) → bit (bit_or k (bit_and b j)) a ≡ bit k a
  some_beside k j a other =
      bit-or k (bit_and b j) a
      ∙ (ap (λ (x : Bool). bit k a || x) (bit-and b j a ∙ ap (λ (x : Bool). x && bit j a) (b_off a other)) ∙ or_false (bit k a))

-- ---- the calls

module _ (lower set small rest loose b : ℕ) (fit : Fit lower set small rest loose) where
  -- an atom that is open for the part is decided for it alone
  module _ (one : IsBitOf loose b) where
    fit_there : FitAt (bit set one.place) (bit small one.place) (bit rest one.place) (bit loose one.place) (bit lower one.place)
    fit_there = fit_at lower set small rest loose fit one.place

    abbrev one_more : IsBitOf (bit_or rest b) b
    one_more = moved loose b one (bit_or rest b) (more_there loose b one rest)

    again_beside : (a : ℕ) → (one.place ≡ a → ⊥) → bit (bit_xor (bit_or rest b) b) a ≡ bit rest a
    again_beside a other = less_beside (bit_or rest b) b one_more a other ∙ more_beside loose b one rest a other

    pub fit_alone_without : Fit lower set small rest (bit_xor loose b)
    fit_alone_without =
        fit_next lower set small rest loose set small rest (bit_xor loose b) one.place fit
        (λ a other. refl) (λ a other. refl) (λ a other. refl) (less_beside loose b one)
        (shut_at (bit set one.place) (bit small one.place) (bit rest one.place) (bit (bit_xor loose b) one.place)
        (bit lower one.place) fit_there.apart fit_there.part (left_off loose b one))

    pub fit_alone_with : Fit lower (bit_or set b) (bit_or small b) (bit_xor (bit_or rest b) b) (bit_xor loose b)
    fit_alone_with =
        fit_next lower set small rest loose (bit_or set b) (bit_or small b) (bit_xor (bit_or rest b) b) (bit_xor loose b) one.place fit
        (more_beside loose b one set) (more_beside loose b one small) again_beside (less_beside loose b one)
        (shut_at (bit (bit_or set b) one.place) (bit (bit_or small b) one.place) (bit (bit_xor (bit_or rest b) b) one.place)
        (bit (bit_xor loose b) one.place) (bit lower one.place) (λ h. left_off (bit_or rest b) b one_more)
        (λ h. more_there loose b one set) (left_off loose b one))

    pub rest_alone : bit_xor (bit_or rest b) b ≤ rest
    rest_alone =
        let part = covers (bit_xor (bit_or rest b) b) rest (λ a h.
        elim (cases_eq one.place a) [
          | inl same ↦
              absurd (both_ways (bit (bit_xor (bit_or rest b) b) a)
              (subst (λ (x : ℕ). bit (bit_xor (bit_or rest b) b) x ≡ false) same (left_off (bit_or rest b) b one_more)) h)
          | inr other ↦ sym (again_beside a other) ∙ h
        ]) in
        let le = and_le_r (bit_xor (bit_or rest b) b) rest in
        omega arith

    pub whole_alone : bit_or (bit_or set b) (bit_xor (bit_or rest b) b) ≡ bit_or set rest
    whole_alone =
        same_masks (bit_or (bit_or set b) (bit_xor (bit_or rest b) b)) (bit_or set rest) (λ a.
        elim (cases_eq one.place a) [
          | inl same ↦
              subst (λ (x : ℕ). bit (bit_or (bit_or set b) (bit_xor (bit_or rest b) b)) x ≡ bit (bit_or set rest) x) same
              (bit-or (bit_or set b) (bit_xor (bit_or rest b) b) one.place
              ∙ (or_left (bit (bit_or set b) one.place) (bit (bit_xor (bit_or rest b) b) one.place) (more_there loose b one set)
              ∙ sym (covers_back loose (bit_or set rest) fit.within one.place (open_bit loose b one))))
          | inr other ↦
              bit-or (bit_or set b) (bit_xor (bit_or rest b) b) a
              ∙ (ap (λ (x : Bool). x || bit (bit_xor (bit_or rest b) b) a) (more_beside loose b one set a other)
              ∙ (ap (λ (x : Bool). bit set a || x) (again_beside a other) ∙ sym (bit-or set rest a)))
        ])

  -- one that is open for the set is decided for it, and for the part where it is open for both
  module _ (one : IsBitOf rest b) where
    pub fit_without : Fit lower set small (bit_xor rest b) (bit_xor loose (bit_and b loose))
    fit_without =
        let there = fit_at lower set small rest loose fit one.place in
        fit_next lower set small rest loose set small (bit_xor rest b) (bit_xor loose (bit_and b loose)) one.place fit
        (λ a other. refl) (λ a other. refl) (less_beside rest b one) (without_beside rest b one loose)
        (shut_at (bit set one.place) (bit small one.place) (bit (bit_xor rest b) one.place)
        (bit (bit_xor loose (bit_and b loose)) one.place) (bit lower one.place) (λ h. left_off rest b one) there.part
        (without_there rest b one loose))

    pub fit_with : Fit lower (bit_or set b) (bit_or small (bit_and b loose)) (bit_xor rest b) (bit_xor loose (bit_and b loose))
    fit_with =
        fit_next lower set small rest loose (bit_or set b) (bit_or small (bit_and b loose)) (bit_xor rest b)
        (bit_xor loose (bit_and b loose)) one.place fit
        (more_beside rest b one set) (some_beside rest b one small loose) (less_beside rest b one) (without_beside rest b one loose)
        (shut_at (bit (bit_or set b) one.place) (bit (bit_or small (bit_and b loose)) one.place) (bit (bit_xor rest b) one.place)
        (bit (bit_xor loose (bit_and b loose)) one.place) (bit lower one.place) (λ h. left_off rest b one)
        (λ h. more_there rest b one set) (without_there rest b one loose))

  -- an open atom that isn't decided for the part alone is open for the set
  module _ (one : IsBitOf (bit_or rest loose) b) (fixed : bit loose one.place ≡ true → bit lower one.place ≡ true) where
    pub rest_bit : bit rest one.place ≡ true
    rest_bit =
        let there = fit_at lower set small rest loose fit one.place in
        elim (cases_Bool (bit loose one.place)) [
          | inl on ↦
              elim (or_cases (bit set one.place) (bit rest one.place) (there.within on)) [
                | inl e ↦ absurd (both_ways (bit set one.place) (there.settled on (fixed on)) e)
                | inr e ↦ e
              ]
          | inr off ↦
              elim (or_cases (bit rest one.place) (bit loose one.place)
              (sym (bit-or rest loose one.place) ∙ open_bit (bit_or rest loose) b one)) [
                | inl e ↦ e
                | inr e ↦ absurd (both_ways (bit loose one.place) off e)
              ]
        ]

    abbrev pub rest_of : IsBitOf rest b
    rest_of = moved (bit_or rest loose) b one rest rest_bit
