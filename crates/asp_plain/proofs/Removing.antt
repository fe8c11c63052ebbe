-- Tables that lost the beaten sets of a cube, by the atom that is decided.
use Rattle.std.proofs.Common.{◌≡◌, ℕ, Bool, true, false, not, ◌&&◌, ◌||◌, eqb, List, [], get_or, refl, sym, ap, ◌∙◌, subst, inl, inr}
use Rattle.std.specs.Int.RustNames.{bit_and, bit_or, bit_xor}
use Rattle.std.proofs.lemmas.Bool.{eqb-true, eq-eqb, cases_Bool, both_ways, and_parts, and_from, or_cases, or_left, or_right, not_from_false, false_from_ne_true}
use Rattle.asp_plain.specs.declared.masks.MaskedRule.{MaskedRule}
use Rattle.asp_plain.specs.Masks.{HaveSameMembers, IsBitOf}
use Rattle.asp_plain.specs.Cubes.{in_cube, rule_atoms, left_of, Sifted, least_of, is_spared, is_beaten}
use Rattle.asp_plain.proofs.Atoms.{bit, or_false, same_test, same_masks, bit-and, bit-or, bit-rest, covers, covers_back, no_common_back}
use Rattle.asp_plain.proofs.Beside.{Within, outer-within}
use Rattle.asp_plain.proofs.Cubes.{cube_bits, cube_from, cube_has, is_place, b_in, b_within, bit-left, least_bits, no_bit, sifted_none, sifted_same, sifted_then, sifted_halves, half_without, half_with}
use Rattle.asp_plain.proofs.Beaten.{small-least, none_between, none_beaten, beaten_without, beaten_fixed, beaten_with, beaten_left}
use Rattle.asp_plain.proofs.Calls.{Fit, and_true, more_there, moved}

twice : (p : Bool) → not (not p) ≡ p
twice true = refl
twice false = refl

not_either : (p q : Bool) → not (p || q) ≡ (not p && not q)
not_either true q = refl
not_either false q = refl

-- what is left of the rules, as a slice
pub same_list : (kept left rules : List MaskedRule) → kept ≡ left → HaveSameMembers left rules → HaveSameMembers kept rules
same_list kept left rules are = subst (λ (rs : List MaskedRule). HaveSameMembers rs rules) (sym are)

-- ---- nothing can differ

pub same_unbeaten : (rules : List MaskedRule) (lower set small rest loose : ℕ) (table : List Bool) → bit_and small set ≡ small
    → bit_or small loose ≡ bit_or set rest → bit_and loose lower ≡ loose
    → Sifted set rest (λ s. not (is_beaten rules lower small loose s)) table table
same_unbeaten rules lower set small rest loose table part same fixed =
    sifted_none set rest (λ s. not (is_beaten rules lower small loose s)) table (λ s inside there.
    let low : Within small s = λ a e. cube_has set rest s inside a (covers_back small set part a e) in
    let open_least : (a : ℕ) → bit s a ≡ true → bit (bit_or set rest) a ≡ true → bit (least_of lower small loose s) a ≡ true =
    λ a h e.
    elim (or_cases (bit small a) (bit loose a) (sym (bit-or small loose a) ∙ (ap (λ (x : ℕ). bit x a) same ∙ e))) [
      | inl k ↦ small-least lower small loose s a k
      | inr k ↦
          least_bits lower small loose s a
          ∙ or_right (bit small a) ((bit s a && bit loose a) && bit lower a)
          (and_from (bit s a && bit loose a) (bit lower a) (and_from (bit s a) (bit loose a) h k) (covers_back loose lower fixed a k))
    ] in
    not_from_false (is_beaten rules lower small loose s)
    (none_between rules lower small loose s low
    (same_masks s (least_of lower small loose s) (λ a.
    same_test (bit s a) (bit (least_of lower small loose s) a)
    (λ h.
    open_least a h
    (bit-or set rest a
    ∙ elim (or_cases (bit set a) (bit s a && bit rest a) (sym (cube_bits set rest s inside a) ∙ h)) [
      | inl e ↦ or_left (bit set a) (bit rest a) e
      | inr e ↦ or_right (bit set a) (bit rest a) (and_parts (bit s a) (bit rest a) e).1
    ]))
    (λ h.
    elim (or_cases (bit small a) ((bit s a && bit loose a) && bit lower a) (sym (least_bits lower small loose s a) ∙ h)) [
      | inl e ↦ low a e
      | inr e ↦ (and_parts (bit s a) (bit loose a) ((and_parts (bit s a && bit loose a) (bit lower a) e).0)).0
    ])))))

-- ---- no rule is left

-- m, s, r, l and o say whether an atom is in the part, in the set, open for the set, in `lower`, and open for the part
fixed_least : (m s r l o : Bool) → (o ≡ true → l ≡ true → r ≡ true) → (m || ((s && r) && (l && o))) ≡ (m || ((s && o) && l))
fixed_least true s r l o f = refl
fixed_least false false r l o f = refl
fixed_least false true r true true f = ap (λ (x : Bool). x && true) (f refl refl)
fixed_least false true true true false f = refl
fixed_least false true false true false f = refl
fixed_least false true true false true f = refl
fixed_least false true false false true f = refl
fixed_least false true true false false f = refl
fixed_least false true false false false f = refl

module _ (rules left : List MaskedRule) (lower set small rest loose : ℕ)
    (members : HaveSameMembers left (left_of set small rest loose rules)) (fit : Fit lower set small rest loose) where
  -- an open atom of the lower base isn't in the set, and so is open for it
  not_set : (a : ℕ) → bit loose a ≡ true → bit lower a ≡ true → bit set a ≡ true → ⊥
  not_set a h k e =
      both_ways (bit set a)
      (no_common_back (bit_and loose lower) set fit.settled a (bit-and loose lower a ∙ and_from (bit loose a) (bit lower a) h k)) e

  open_for_set : (a : ℕ) → bit loose a ≡ true → bit lower a ≡ true → bit rest a ≡ true
  open_for_set a h k =
      elim (or_cases (bit set a) (bit rest a) (sym (bit-or set rest a) ∙ covers_back loose (bit_or set rest) fit.within a h)) [
        | inl e ↦ absurd (not_set a h k e)
        | inr e ↦ e
      ]

  same_least : (m s : ℕ) → least_of (bit_and lower loose) m rest s ≡ least_of lower m loose s
  same_least m s =
      same_masks (least_of (bit_and lower loose) m rest s) (least_of lower m loose s) (λ a.
      least_bits (bit_and lower loose) m rest s a
      ∙ (ap (λ (x : Bool). bit m a || ((bit s a && bit rest a) && x)) (bit-and lower loose a)
      ∙ (fixed_least (bit m a) (bit s a) (bit rest a) (bit lower a) (bit loose a) (open_for_set a)
      ∙ sym (least_bits lower m loose s a))))

  spared : (s : ℕ) → in_cube set rest s ≡ true
      → is_spared (eqb small set) (bit_and lower loose) set rest s ≡ eqb s (least_of lower small loose s)
  spared s inside =
      ap (λ (m : ℕ). eqb small set && eqb s m) (same_least set s)
      ∙ same_test (eqb small set && eqb s (least_of lower set loose s)) (eqb s (least_of lower small loose s))
      (λ h.
      let parts = and_parts (eqb small set) (eqb s (least_of lower set loose s)) h in
      subst (λ (m : ℕ). eqb s (least_of lower m loose s) ≡ true) (sym (eqb-true small set parts.0)) parts.1)
      (λ h.
      let is_least = eqb-true s (least_of lower small loose s) h in
      let is_set : small ≡ set =
      same_masks small set (λ a.
      same_test (bit small a) (bit set a) (covers_back small set fit.part a)
      (λ k.
      elim (or_cases (bit small a) ((bit s a && bit loose a) && bit lower a)
      (sym (least_bits lower small loose s a) ∙ subst (λ (m : ℕ). bit m a ≡ true) is_least (cube_has set rest s inside a k))) [
        | inl e ↦ e
        | inr e ↦
            let parts = and_parts (bit s a && bit loose a) (bit lower a) e in
            absurd (not_set a (and_parts (bit s a) (bit loose a) parts.0).1 parts.1 k)
      ])) in
      and_from (eqb small set) (eqb s (least_of lower set loose s)) (eq-eqb small set is_set)
      (subst (λ (m : ℕ). eqb s (least_of lower m loose s) ≡ true) is_set h))

  pub cleared : (old new : List Bool) → left ≡ [] → Sifted set rest (is_spared (eqb small set) (bit_and lower loose) set rest) old new
      → Sifted set rest (λ s. not (is_beaten rules lower small loose s)) old new
  cleared old new none sifted =
      sifted_same sifted (λ s inside.
      spared s inside
      ∙ (sym (twice (eqb s (least_of lower small loose s)))
      ∙ ap not (sym (none_beaten lower small loose s (λ a e. cube_has set rest s inside a (covers_back small set fit.part a e)))
      ∙ (ap (λ (rs : List MaskedRule). is_beaten rs lower small loose s) (sym none)
      ∙ beaten_left rules left lower set small rest loose members s inside))))

-- ---- an atom is decided for the part alone

-- at an atom, for a set with the bit s, where S, B and r say whether it is in `set`, is the one, and is open for the set
rejoined : (s S B r : Bool) → (B ≡ true → (S || r) ≡ true) → s ≡ ((S || B) || (s && ((r || B) && not B))) → s ≡ (S || (s && r))
rejoined s true B r f h = h
rejoined false false B r f h = refl
rejoined true false true r f h = sym (f refl)
rejoined true false false true f h = refl
rejoined true false false false f h = h

parted : (s S B r : Bool) → (B ≡ true → s ≡ true) → s ≡ (S || (s && r)) → s ≡ ((S || B) || (s && ((r || B) && not B)))
parted s true B r f h = h
parted s false true r f h = f refl
parted false false false r f h = refl
parted true false false true f h = refl
parted true false false false f h = h

module _ (set rest loose b : ℕ) (within : bit_and loose (bit_or set rest) ≡ loose) (one : IsBitOf loose b) where
  abbrev place : ℕ
  place = one.place

  -- the sets of the cube with the atom
  abbrev others : ℕ
  others = bit_xor (bit_or rest b) b

  bit-others : (a : ℕ) → bit others a ≡ ((bit rest a || bit b a) && not (bit b a))
  bit-others a =
      bit-left (bit_or rest b) b (moved loose b one (bit_or rest b) (more_there loose b one rest)) a
      ∙ ap (λ (x : Bool). x && not (bit b a)) (bit-or rest b a)

  part_bits : (s a : ℕ) → (bit (bit_or set b) a || (bit s a && bit others a))
      ≡ ((bit set a || bit b a) || (bit s a && ((bit rest a || bit b a) && not (bit b a))))
  part_bits s a =
      ap (λ (x : Bool). x || (bit s a && bit others a)) (bit-or set b a)
      ∙ ap (λ (x : Bool). (bit set a || bit b a) || (bit s a && x)) (bit-others a)

  in_part : (s : ℕ) → in_cube set rest s ≡ true → bit s place ≡ true → in_cube (bit_or set b) others s ≡ true
  in_part s inside on =
      cube_from (bit_or set b) others s (λ a.
      parted (bit s a) (bit set a) (bit b a) (bit rest a) (b_within loose b one s on a) (cube_bits set rest s inside a)
      ∙ sym (part_bits s a))

  of_part : (s : ℕ) → in_cube (bit_or set b) others s ≡ true → (in_cube set rest s ≡ true) × (bit s place ≡ true)
  of_part s inside = (
    cube_from set rest s (λ a.
        rejoined (bit s a) (bit set a) (bit b a) (bit rest a)
        (λ e. sym (bit-or set rest a) ∙ covers_back loose (bit_or set rest) within a (b_in loose b one a e))
        (cube_bits (bit_or set b) others s inside a ∙ part_bits s a)),
    cube_has (bit_or set b) others s inside place (more_there loose b one set),
  )

  pub sifted_part : (q : ℕ → Bool) (old new : List Bool) → Sifted (bit_or set b) others q old new
      → Sifted set rest (λ s. not (bit s place) || q s) old new
  sifted_part q old new sifted = record {
    long = sifted.long;
    inside = λ s inside.
        elim (cases_Bool (bit s place)) [
          | inl on ↦
              sifted.inside s (in_part s inside on)
              ∙ ap (λ (t : Bool). get_or old s false && (not t || q s)) (sym on)
          | inr off ↦
              sifted.beside s (false_from_ne_true (in_cube (bit_or set b) others s) (λ h.
              both_ways (bit s place) off (of_part s h).1))
              ∙ sym (ap (λ (t : Bool). get_or old s false && (not t || q s)) off ∙ and_true (get_or old s false))
        ];
    beside = λ s out.
        sifted.beside s (false_from_ne_true (in_cube (bit_or set b) others s) (λ h.
        both_ways (in_cube set rest s) out (of_part s h).0));
  }

-- ---- by what is left of the rules

module _ (rules left : List MaskedRule) (lower set small rest loose : ℕ)
    (members : HaveSameMembers left (left_of set small rest loose rules)) (fit : Fit lower set small rest loose) (b : ℕ) where
  -- the sets by parts without the atom, and those with it by parts with it
  pub removed_alone : (one : IsBitOf loose b) → bit lower one.place ≡ false → (old middle new : List Bool)
      → Sifted set rest (λ s. not (is_beaten left lower small (bit_xor loose b) s)) old middle
      → Sifted (bit_or set b) (bit_xor (bit_or rest b) b) (λ s. not (is_beaten left lower (bit_or small b) (bit_xor loose b) s)) middle new
      → Sifted set rest (λ s. not (is_beaten rules lower small loose s)) old new
  removed_alone one out old middle new without with_one =
      let first : ℕ → Bool = λ s. is_beaten left lower small (bit_xor loose b) s in
      let second : ℕ → Bool = λ s. is_beaten left lower (bit_or small b) (bit_xor loose b) s in
      sifted_same
      (sifted_then without (sifted_part set rest loose b fit.within one (λ s. not (second s)) middle new with_one)) (λ s inside.
      elim (cases_Bool (bit s one.place)) [
        | inl on ↦
            ap (λ (t : Bool). not (first s) && (not t || not (second s))) on
            ∙ (sym (not_either (first s) (second s))
            ∙ ap not (sym (beaten_with small loose b one left lower s on out)
            ∙ beaten_left rules left lower set small rest loose members s inside))
        | inr off ↦
            ap (λ (t : Bool). not (first s) && (not t || not (second s))) off
            ∙ (and_true (not (first s))
            ∙ ap not (beaten_without small loose b one left lower s off
            ∙ beaten_left rules left lower set small rest loose members s inside))
      ])

  -- the sets without an atom that is open for them, and those with it
  module _ (one : IsBitOf rest b) (fixed : bit loose one.place ≡ true → bit lower one.place ≡ true) where
    abbrev both : ℕ
    both = bit_and b loose

    both_on : bit loose one.place ≡ true → both ≡ b
    both_on on = covers b loose (b_within rest b one loose on)

    both_off : bit loose one.place ≡ false → both ≡ 0
    both_off off =
        same_masks both 0 (λ a.
        bit-and b loose a ∙ (false_from_ne_true (bit b a && bit loose a) (λ h.
        let parts = and_parts (bit b a) (bit loose a) h in
        both_ways (bit loose a) (subst (λ (x : ℕ). bit loose x ≡ false) (is_place rest b one a parts.0) off) parts.1)
        ∙ sym (no_bit a)))

    less_none : (m : ℕ) → bit_xor m 0 ≡ m
    less_none m =
        same_masks (bit_xor m 0) m (λ a.
        bit-rest m 0 a (λ h. absurd (both_ways (bit 0 a) (no_bit a) h))
        ∙ (ap (λ (x : Bool). bit m a && not x) (no_bit a) ∙ and_true (bit m a)))

    more_none : (m : ℕ) → bit_or m 0 ≡ m
    more_none m = same_masks (bit_or m 0) m (λ a. bit-or m 0 a ∙ (ap (λ (x : Bool). bit m a || x) (no_bit a) ∙ or_false (bit m a)))

    lacking : (s : ℕ) → bit s one.place ≡ false
        → is_beaten left lower small (bit_xor loose both) s ≡ is_beaten left lower small loose s
    lacking s off =
        elim (cases_Bool (bit loose one.place)) [
          | inl open_part ↦
              ap (λ (m : ℕ). is_beaten left lower small (bit_xor loose m) s) (both_on open_part)
              ∙ beaten_without small loose b (moved rest b one loose open_part) left lower s off
          | inr closed ↦
              ap (λ (m : ℕ). is_beaten left lower small m s)
              (ap (λ (m : ℕ). bit_xor loose m) (both_off closed) ∙ less_none loose)
        ]

    having : (s : ℕ) → bit s one.place ≡ true
        → is_beaten left lower (bit_or small both) (bit_xor loose both) s ≡ is_beaten left lower small loose s
    having s on =
        elim (cases_Bool (bit loose one.place)) [
          | inl open_part ↦
              ap (λ (m : ℕ). is_beaten left lower (bit_or small m) (bit_xor loose m) s) (both_on open_part)
              ∙ beaten_fixed small loose b (moved rest b one loose open_part) left lower s on (fixed open_part)
          | inr closed ↦
              ap (λ (m : ℕ). is_beaten left lower (bit_or small m) (bit_xor loose m) s) (both_off closed)
              ∙ (ap (λ (m : ℕ). is_beaten left lower m (bit_xor loose 0) s) (more_none small)
              ∙ ap (λ (m : ℕ). is_beaten left lower small m s) (less_none loose))
        ]

    pub removed : (old middle new : List Bool)
        → Sifted set (bit_xor rest b) (λ s. not (is_beaten left lower small (bit_xor loose both) s)) old middle
        → Sifted (bit_or set b) (bit_xor rest b) (λ s. not (is_beaten left lower (bit_or small both) (bit_xor loose both) s)) middle new
        → Sifted set rest (λ s. not (is_beaten rules lower small loose s)) old new
    removed old middle new without with_one =
        sifted_halves set rest b fit.apart one (λ s. not (is_beaten left lower small (bit_xor loose both) s))
        (λ s. not (is_beaten left lower (bit_or small both) (bit_xor loose both) s))
        (λ s. not (is_beaten rules lower small loose s)) old middle new without with_one
        (λ s inside.
        let half = half_without set rest b fit.apart one s inside in
        ap not (sym (beaten_left rules left lower set small rest loose members s half.0) ∙ sym (lacking s half.1)))
        (λ s inside.
        let half = half_with set rest b fit.apart one s inside in
        ap not (sym (beaten_left rules left lower set small rest loose members s half.0) ∙ sym (having s half.1)))

-- ---- the atoms that are tried first

pub within_atoms : (rule : MaskedRule) (loose : ℕ) → Within (bit_and (bit_or rule.positive rule.head) loose) (rule_atoms rule)
within_atoms rule loose a h =
    let head_or = and_parts (bit (bit_or rule.positive rule.head) a) (bit loose a)
    (sym (bit-and (bit_or rule.positive rule.head) loose a) ∙ h) in
    let body = bit_or rule.positive rule.negative in
    elim (or_cases (bit rule.positive a) (bit rule.head a) (sym (bit-or rule.positive rule.head a) ∙ head_or.0)) [
      | inl e ↦ outer-within body rule.head a (outer-within rule.positive rule.negative a e)
      | inr e ↦ bit-or body rule.head a ∙ or_right (bit body a) (bit rule.head a) e
    ]
