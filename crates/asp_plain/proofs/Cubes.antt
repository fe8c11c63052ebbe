-- Cubes of sets by bits, their two halves at one of the open atoms, and tables that lost sets of a cube.
use Rattle.std.proofs.Common.{◌≡◌, ◌<◌, ◌≤◌, ℕ, Bool, true, false, not, ◌&&◌, ◌||◌, eqb, List, length, get_or, set as with_entry, length-set, get_or-set_same, get_or-set_other, refl, sym, ap, ◌∙◌, subst, inl, inr, arith}
use Rattle.std.specs.Int.{bit_at}
use Rattle.std.specs.Int.RustNames.{bit_and, bit_or, bit_xor}
use Rattle.std.proofs.lemmas.Nat.{and_le_r}
use Rattle.std.proofs.lemmas.Nat.Bits.{bit_at-zero, bit_at-pow_same, bit_at-pow_other}
use Rattle.std.proofs.lemmas.Bool.{eqb-true, eq-eqb, ne_eqb, cases_eq, cases_Bool, both_ways, and_parts, and_left, and_right, or_cases, or_from, or_left, or_right, not_from_true, false_from_ne_true, not-true, not_from_false}
use Rattle.asp_plain.specs.Masks.{IsBitOf}
use Rattle.asp_plain.specs.Cubes.{in_cube, Sifted, HasNone, least_of, is_spared}
use Rattle.asp_plain.proofs.Atoms.{bit, same_test, same_masks, bit-and, bit-or, bit-rest, covers, no_common, no_common_back}
use Rattle.asp_plain.proofs.Beside.{Within}
use Rattle.asp_plain.proofs.Minimal.{less_part}

-- ---- a cube by bits

pub cube_bits : (set rest s : ℕ) → in_cube set rest s ≡ true → (a : ℕ) → bit s a ≡ (bit set a || (bit s a && bit rest a))
cube_bits set rest s h a =
    ap (λ (x : ℕ). bit x a) (sym (eqb-true (bit_or set (bit_and s rest)) s h))
    ∙ (bit-or set (bit_and s rest) a ∙ ap (λ (t : Bool). bit set a || t) (bit-and s rest a))

pub cube_from : (set rest s : ℕ) → ((a : ℕ) → bit s a ≡ (bit set a || (bit s a && bit rest a))) → in_cube set rest s ≡ true
cube_from set rest s h =
    eq-eqb (bit_or set (bit_and s rest)) s
    (same_masks (bit_or set (bit_and s rest)) s (λ a.
    bit-or set (bit_and s rest) a ∙ (ap (λ (t : Bool). bit set a || t) (bit-and s rest a) ∙ sym (h a))))

-- a set of a cube has the set that the cube begins with
pub cube_has : (set rest s : ℕ) → in_cube set rest s ≡ true → Within set s
cube_has set rest s h a e = cube_bits set rest s h a ∙ or_left (bit set a) (bit s a && bit rest a) e

-- with no open atom it has one set
and_all : (p : Bool) → (p && true) ≡ p
and_all true = refl
and_all false = refl

and_none : (p : Bool) → (p && false) ≡ false
and_none p = and_right p false refl

pub no_bit : (a : ℕ) → bit 0 a ≡ false
no_bit a = ap (λ (x : ℕ). eqb x 1) (bit_at-zero a)

pub only_set : (set s : ℕ) → in_cube set 0 s ≡ true → s ≡ set
only_set set s h =
    same_masks s set (λ a.
    cube_bits set 0 s h a
    ∙ (ap (λ (t : Bool). bit set a || (bit s a && t)) (no_bit a) ∙ none_more (bit set a) (bit s a)))
  where
    none_more : (p q : Bool) → (p || (q && false)) ≡ p
    none_more true q = refl
    none_more false q = and_none q

-- its least set
pub least_in : (set rest : ℕ) → in_cube set rest set ≡ true
least_in set rest = cube_from set rest set (λ a. itself (bit set a) (bit rest a))
  where
    itself : (p q : Bool) → p ≡ (p || (p && q))
    itself true q = refl
    itself false q = refl

-- ---- a bit of a part

pub IsBit-within : (m rest b : ℕ) → Within m rest → IsBitOf m b → IsBitOf rest b
IsBit-within m rest b within one = record {
  place = one.place;
  power = one.power;
  there = eqb-true (bit_at rest one.place) 1 (within one.place (eq-eqb (bit_at m one.place) 1 one.there));
}

-- ---- tables

kept : (p q : Bool) → (p ≡ true → q ≡ true) → p ≡ (p && q)
kept true q h = sym (h refl)
kept false q h = refl

pub both_kept : (p q r : Bool) → ((p && q) && r) ≡ (p && (q && r))
both_kept true q r = refl
both_kept false q r = refl

-- nothing is taken out
pub sifted_none : (set rest : ℕ) (keeps : ℕ → Bool) (table : List Bool)
    → ((s : ℕ) → in_cube set rest s ≡ true → get_or table s false ≡ true → keeps s ≡ true) → Sifted set rest keeps table table
sifted_none set rest keeps table h = record {
  long = refl;
  inside = λ s within. kept (get_or table s false) (keeps s) (h s within);
  beside = λ s out. refl;
}

-- of the one set of a cube
pub sifted_one : (set : ℕ) (keeps : ℕ → Bool) (table : List Bool) → set < length table → keeps set ≡ false
    → Sifted set 0 keeps table (with_entry table set false)
sifted_one set keeps table inside drops = record {
  long = length-set table set false;
  inside = λ s within.
      let same = only_set set s within in
      ap (λ (x : ℕ). get_or (with_entry table set false) x false) same
      ∙ (get_or-set_same table set false false inside
      ∙ sym (and_right (get_or table s false) (keeps s) (ap keeps same ∙ drops)));
  beside = λ s out.
      get_or-set_other table set s false false (λ e.
      both_ways (in_cube set 0 s) out (subst (λ (x : ℕ). in_cube set 0 x ≡ true) (sym e) (least_in set 0)));
}

-- a test that is the same in the cube
pub sifted_same : {set rest : ℕ} {p q : ℕ → Bool} {old new : List Bool} → Sifted set rest p old new
    → ((s : ℕ) → in_cube set rest s ≡ true → p s ≡ q s) → Sifted set rest q old new
sifted_same {set} {rest} {p} {q} {old} {new} sifted same = record {
  long = sifted.long;
  inside = λ s within. sifted.inside s within ∙ ap (λ (t : Bool). get_or old s false && t) (same s within);
  beside = sifted.beside;
}

-- one test and then another
pub sifted_then : {set rest : ℕ} {p q : ℕ → Bool} {old middle new : List Bool} → Sifted set rest p old middle
    → Sifted set rest q middle new → Sifted set rest (λ s. p s && q s) old new
sifted_then {set} {rest} {p} {q} {old} {middle} {new} one two = record {
  long = two.long ∙ one.long;
  inside = λ s within.
      two.inside s within
      ∙ (ap (λ (t : Bool). t && q s) (one.inside s within) ∙ both_kept (get_or old s false) (p s) (q s));
  beside = λ s out. two.beside s out ∙ one.beside s out;
}

-- ---- the two halves of a cube at one of the open atoms

-- at an atom, for a set with the bit s, where S, B and r say whether it is in `set`, is the one, and is open
lost : (s S B r : Bool) → s ≡ (S || (s && (r && not B))) → s ≡ (S || (s && r))
lost s true B r h = h
lost false false B r h = refl
lost true false B true h = refl
lost true false B false h = h

joined : (s S B r : Bool) → (B ≡ true → r ≡ true) → s ≡ ((S || B) || (s && (r && not B))) → s ≡ (S || (s && r))
joined s true B r f h = h
joined false false B r f h = refl
joined true false true r f h = sym (f refl)
joined true false false true f h = refl
joined true false false false f h = h

stays_out : (s S B r : Bool) → (B ≡ true → s ≡ false) → s ≡ (S || (s && r)) → s ≡ (S || (s && (r && not B)))
stays_out s true B r f h = h
stays_out false false B r f h = refl
stays_out true false true r f h = absurd (both_ways true (f refl) refl)
stays_out true false false true f h = refl
stays_out true false false false f h = h

stays_in : (s S B r : Bool) → (B ≡ true → s ≡ true) → s ≡ (S || (s && r)) → s ≡ ((S || B) || (s && (r && not B)))
stays_in s true B r f h = h
stays_in s false true r f h = f refl
stays_in false false false r f h = refl
stays_in true false false true f h = refl
stays_in true false false false f h = h

whole : (S B r : Bool) → (B ≡ true → r ≡ true) → ((S || B) || (r && not B)) ≡ (S || r)
whole true B r f = refl
whole false true r f = sym (f refl)
whole false false true f = refl
whole false false false f = refl

-- ---- the least part of a set

pub least_bits : (lower small rest s a : ℕ)
    → bit (least_of lower small rest s) a ≡ (bit small a || ((bit s a && bit rest a) && bit lower a))
least_bits lower small rest s a =
    bit-or small (bit_and (bit_and s rest) lower) a
    ∙ (ap (λ (x : Bool). bit small a || x) (bit-and (bit_and s rest) lower a)
    ∙ ap (λ (x : Bool). bit small a || (x && bit lower a)) (bit-and s rest a))

-- where nothing is open
pub least_closed : (lower small s : ℕ) → least_of lower small 0 s ≡ small
least_closed lower small s =
    same_masks (least_of lower small 0 s) small (λ a.
    least_bits lower small 0 s a
    ∙ (ap (λ (x : Bool). bit small a || ((bit s a && x) && bit lower a)) (no_bit a) ∙ closed_of (bit small a) (bit s a) (bit lower a)))
  where
    closed_of : (m s l : Bool) → (m || ((s && false) && l)) ≡ m
    closed_of true s l = refl
    closed_of false true l = refl
    closed_of false false l = refl

-- at an atom, m, s, r, l and B say whether it is in the part, in the set, open, in `lower`, and the one
out_of : (m s r l B : Bool) → (B ≡ true → s ≡ false) → (m || ((s && (r && not B)) && l)) ≡ (m || ((s && r) && l))
out_of true s r l B f = refl
out_of false false r l B f = refl
out_of false true r l true f = absurd (both_ways true (f refl) refl)
out_of false true true l false f = refl
out_of false true false l false f = refl

apart_of : (m s r l B : Bool) → (B ≡ true → l ≡ false) → (m || ((s && (r && not B)) && l)) ≡ (m || ((s && r) && l))
apart_of true s r l B f = refl
apart_of false false r l B f = refl
apart_of false true r true true f = absurd (both_ways true (f refl) refl)
apart_of false true true false true f = refl
apart_of false true false false true f = refl
apart_of false true true l false f = refl
apart_of false true false l false f = refl

fixed_of : (m s r l B : Bool) → (B ≡ true → s ≡ true) → (B ≡ true → r ≡ true) → (B ≡ true → l ≡ true)
    → ((m || B) || ((s && (r && not B)) && l)) ≡ (m || ((s && r) && l))
fixed_of true s r l B f g h = refl
fixed_of false s r l true f g h = sym (ap (λ (x : Bool). (x && r) && l) (f refl) ∙ (ap (λ (x : Bool). x && l) (g refl) ∙ h refl))
fixed_of false s true l false f g h = refl
fixed_of false s false l false f g h = refl

added_of : (m s r l B : Bool) → (B ≡ true → l ≡ false)
    → ((m || B) || ((s && (r && not B)) && l)) ≡ ((m || ((s && r) && l)) || B)
added_of true s r l B f = refl
added_of false true true l true f = sym (joined_to l)
  where
    joined_to : (p : Bool) → (p || true) ≡ true
    joined_to true = refl
    joined_to false = refl
added_of false true false l true f = refl
added_of false false r l true f = refl
added_of false true true l false f = same_or l
  where
    same_or : (p : Bool) → p ≡ (p || false)
    same_or true = refl
    same_or false = refl
added_of false true false l false f = refl
added_of false false r l false f = refl

module _ (rest b : ℕ) (one : IsBitOf rest b) where
  abbrev t : ℕ
  t = one.place

  pub open_bit : bit rest t ≡ true
  open_bit = eq-eqb (bit_at rest t) 1 one.there

  pub is_place : (a : ℕ) → bit b a ≡ true → t ≡ a
  is_place a h =
      elim (cases_eq t a) [
        | inl same ↦ same
        | inr other ↦
            let off : bit_at b a ≡ 0 = ap (λ (x : ℕ). bit_at x a) one.power ∙ bit_at-pow_other t a (λ e. other (sym e)) in
            let on = eqb-true (bit_at b a) 1 h in
            absurd (omega arith)
      ]

  pub b_on : bit b t ≡ true
  b_on = eq-eqb (bit_at b t) 1 (ap (λ (x : ℕ). bit_at x t) one.power ∙ bit_at-pow_same t)

  -- it lies in each mask that has its place
  pub b_within : (k : ℕ) → bit k t ≡ true → Within b k
  b_within k on a h = subst (λ (x : ℕ). bit k x ≡ true) (is_place a h) on

  pub b_in : Within b rest
  b_in = b_within rest open_bit

  -- what is open without it
  pub bit-left : (a : ℕ) → bit (bit_xor rest b) a ≡ (bit rest a && not (bit b a))
  bit-left a = bit-rest rest b a (b_in a)

  pub left_off : bit (bit_xor rest b) t ≡ false
  left_off = bit-left t ∙ and_right (bit rest t) (not (bit b t)) (not_from_true (bit b t) b_on)

  pub left-in : Within (bit_xor rest b) rest
  left-in a h = (and_parts (bit rest a) (not (bit b a)) (sym (bit-left a) ∙ h)).0

  pub rest_less : bit_xor rest b < rest
  rest_less =
      less_part (bit_xor rest b) rest left-in (λ e.
      both_ways (bit (bit_xor rest b) t) left_off (ap (λ (x : ℕ). bit x t) e ∙ open_bit))

  -- whether the atom is one of some others
  pub lies_in : (lower : ℕ) → (bit_and b lower ≡ 0 → ⊥) → bit lower t ≡ true
  lies_in lower some =
      elim (cases_Bool (bit lower t)) [
        | inl on ↦ on
        | inr off ↦ absurd (some (no_common b lower (λ a h. subst (λ (x : ℕ). bit lower x ≡ false) (is_place a h) off)))
      ]

  pub lies_out : (lower : ℕ) → bit_and b lower ≡ 0 → bit lower t ≡ false
  lies_out lower none = no_common_back b lower none t b_on

  pub lies_test : (lower : ℕ) → not (eqb (bit_and b lower) 0) ≡ bit lower t
  lies_test lower =
      same_test (not (eqb (bit_and b lower) 0)) (bit lower t)
      (λ h. lies_in lower (λ e. both_ways (eqb (bit_and b lower) 0) (not-true (eqb (bit_and b lower) 0) h) (eq-eqb (bit_and b lower) 0 e)))
      (λ on. not_from_false (eqb (bit_and b lower) 0) (ne_eqb (bit_and b lower) 0 (λ e. both_ways (bit lower t) (lies_out lower e) on)))

  -- the least part of a set without the atom, of one with it where it is in `lower`, and where it isn't
  module _ (lower small s : ℕ) where
    pub least_without : bit s t ≡ false → least_of lower small (bit_xor rest b) s ≡ least_of lower small rest s
    least_without off =
        same_masks (least_of lower small (bit_xor rest b) s) (least_of lower small rest s) (λ a.
        least_bits lower small (bit_xor rest b) s a
        ∙ (ap (λ (x : Bool). bit small a || ((bit s a && x) && bit lower a)) (bit-left a)
        ∙ (out_of (bit small a) (bit s a) (bit rest a) (bit lower a) (bit b a)
        (λ h. subst (λ (x : ℕ). bit s x ≡ false) (is_place a h) off)
        ∙ sym (least_bits lower small rest s a))))

    pub least_other : bit lower t ≡ false → least_of lower small (bit_xor rest b) s ≡ least_of lower small rest s
    least_other off =
        same_masks (least_of lower small (bit_xor rest b) s) (least_of lower small rest s) (λ a.
        least_bits lower small (bit_xor rest b) s a
        ∙ (ap (λ (x : Bool). bit small a || ((bit s a && x) && bit lower a)) (bit-left a)
        ∙ (apart_of (bit small a) (bit s a) (bit rest a) (bit lower a) (bit b a)
        (λ h. subst (λ (x : ℕ). bit lower x ≡ false) (is_place a h) off)
        ∙ sym (least_bits lower small rest s a))))

    pub least_fixed : bit s t ≡ true → bit lower t ≡ true → least_of lower (bit_or small b) (bit_xor rest b) s ≡ least_of lower small rest s
    least_fixed on in_lower =
        same_masks (least_of lower (bit_or small b) (bit_xor rest b) s) (least_of lower small rest s) (λ a.
        least_bits lower (bit_or small b) (bit_xor rest b) s a
        ∙ (ap (λ (x : Bool). x || ((bit s a && bit (bit_xor rest b) a) && bit lower a)) (bit-or small b a)
        ∙ (ap (λ (x : Bool). (bit small a || bit b a) || ((bit s a && x) && bit lower a)) (bit-left a)
        ∙ (fixed_of (bit small a) (bit s a) (bit rest a) (bit lower a) (bit b a)
        (b_within s on a) (b_in a) (b_within lower in_lower a)
        ∙ sym (least_bits lower small rest s a)))))

    pub least_added : bit lower t ≡ false
        → least_of lower (bit_or small b) (bit_xor rest b) s ≡ bit_or (least_of lower small rest s) b
    least_added off =
        same_masks (least_of lower (bit_or small b) (bit_xor rest b) s) (bit_or (least_of lower small rest s) b) (λ a.
        least_bits lower (bit_or small b) (bit_xor rest b) s a
        ∙ (ap (λ (x : Bool). x || ((bit s a && bit (bit_xor rest b) a) && bit lower a)) (bit-or small b a)
        ∙ (ap (λ (x : Bool). (bit small a || bit b a) || ((bit s a && x) && bit lower a)) (bit-left a)
        ∙ (added_of (bit small a) (bit s a) (bit rest a) (bit lower a) (bit b a)
        (λ h. subst (λ (x : ℕ). bit lower x ≡ false) (is_place a h) off)
        ∙ (ap (λ (x : Bool). x || bit b a) (sym (least_bits lower small rest s a))
        ∙ sym (bit-or (least_of lower small rest s) b a))))))

module _ (set rest b : ℕ) (apart : bit_and set rest ≡ 0) (one : IsBitOf rest b) where
  abbrev place : ℕ
  place = one.place

  closed_bit : bit set place ≡ false
  closed_bit =
      false_from_ne_true (bit set place) (λ e.
      both_ways (bit rest place) (no_common_back set rest apart place e) (open_bit rest b one))

  -- what lies in a half lies in the cube
  pub half_without : (s : ℕ) → in_cube set (bit_xor rest b) s ≡ true → (in_cube set rest s ≡ true) × (bit s place ≡ false)
  half_without s h = (
    cube_from set rest s (λ a.
        lost (bit s a) (bit set a) (bit b a) (bit rest a)
        (cube_bits set (bit_xor rest b) s h a ∙ ap (λ (x : Bool). bit set a || (bit s a && x)) (bit-left rest b one a))),
    cube_bits set (bit_xor rest b) s h place
        ∙ or_from (bit set place) (bit s place && bit (bit_xor rest b) place) closed_bit
        (and_right (bit s place) (bit (bit_xor rest b) place) (left_off rest b one)),
  )

  pub half_with : (s : ℕ) → in_cube (bit_or set b) (bit_xor rest b) s ≡ true → (in_cube set rest s ≡ true) × (bit s place ≡ true)
  half_with s h = (
    cube_from set rest s (λ a.
        joined (bit s a) (bit set a) (bit b a) (bit rest a) (b_in rest b one a)
        (cube_bits (bit_or set b) (bit_xor rest b) s h a
        ∙ (ap (λ (x : Bool). x || (bit s a && bit (bit_xor rest b) a)) (bit-or set b a)
        ∙ ap (λ (x : Bool). (bit set a || bit b a) || (bit s a && x)) (bit-left rest b one a)))),
    cube_bits (bit_or set b) (bit_xor rest b) s h place
        ∙ or_left (bit (bit_or set b) place) (bit s place && bit (bit_xor rest b) place)
        (bit-or set b place ∙ or_right (bit set place) (bit b place) (b_on rest b one)),
  )

  -- and what lies in the cube lies in the half that has its bit at the atom
  pub in_without : (s : ℕ) → in_cube set rest s ≡ true → bit s place ≡ false → in_cube set (bit_xor rest b) s ≡ true
  in_without s h off =
      cube_from set (bit_xor rest b) s (λ a.
      stays_out (bit s a) (bit set a) (bit b a) (bit rest a)
      (λ e. subst (λ (x : ℕ). bit s x ≡ false) (is_place rest b one a e) off) (cube_bits set rest s h a)
      ∙ ap (λ (x : Bool). bit set a || (bit s a && x)) (sym (bit-left rest b one a)))

  pub in_with : (s : ℕ) → in_cube set rest s ≡ true → bit s place ≡ true → in_cube (bit_or set b) (bit_xor rest b) s ≡ true
  in_with s h on =
      cube_from (bit_or set b) (bit_xor rest b) s (λ a.
      stays_in (bit s a) (bit set a) (bit b a) (bit rest a)
      (λ e. subst (λ (x : ℕ). bit s x ≡ true) (is_place rest b one a e) on) (cube_bits set rest s h a)
      ∙ (ap (λ (x : Bool). (bit set a || bit b a) || (bit s a && x)) (sym (bit-left rest b one a))
      ∙ ap (λ (x : Bool). x || (bit s a && bit (bit_xor rest b) a)) (sym (bit-or set b a))))

  not_without : (s : ℕ) → bit s place ≡ true → in_cube set (bit_xor rest b) s ≡ false
  not_without s on =
      false_from_ne_true (in_cube set (bit_xor rest b) s) (λ h. both_ways (bit s place) (half_without s h).1 on)

  not_with : (s : ℕ) → bit s place ≡ false → in_cube (bit_or set b) (bit_xor rest b) s ≡ false
  not_with s off =
      false_from_ne_true (in_cube (bit_or set b) (bit_xor rest b) s) (λ h. both_ways (bit s place) off (half_with s h).1)

  -- what is spared in the halves is spared in the cube
  pub spared_without : (spared : Bool) (lower s : ℕ) → in_cube set (bit_xor rest b) s ≡ true
      → is_spared spared lower set rest s ≡ is_spared spared lower set (bit_xor rest b) s
  spared_without spared lower s h =
      ap (λ (m : ℕ). spared && eqb s m) (sym (least_without rest b one lower set s (half_without s h).1))

  pub spared_with : (spared here : Bool) (lower s : ℕ) → here ≡ (spared && bit lower place)
      → in_cube (bit_or set b) (bit_xor rest b) s ≡ true
      → is_spared spared lower set rest s ≡ is_spared here lower (bit_or set b) (bit_xor rest b) s
  spared_with spared here lower s is h =
      let on = (half_with s h).1 in
      elim (cases_Bool (bit lower place)) [
        | inl fixed ↦
            ap (λ (m : ℕ). spared && eqb s m) (sym (least_fixed rest b one lower set s on fixed))
            ∙ ap (λ (x : Bool). x && eqb s (least_of lower (bit_or set b) (bit_xor rest b) s))
            (sym (is ∙ (ap (λ (x : Bool). spared && x) fixed ∙ and_all spared)))
        | inr out ↦
            and_right spared (eqb s (least_of lower set rest s))
            (ne_eqb s (least_of lower set rest s) (λ e.
            both_ways (bit (least_of lower set rest s) place)
            (least_bits lower set rest s place
            ∙ or_from (bit set place) ((bit s place && bit rest place) && bit lower place) closed_bit
            (and_right (bit s place && bit rest place) (bit lower place) out))
            (subst (λ (x : ℕ). bit x place ≡ true) e on)))
            ∙ sym (ap (λ (x : Bool). x && eqb s (least_of lower (bit_or set b) (bit_xor rest b) s))
            (is ∙ (ap (λ (x : Bool). spared && x) out ∙ and_none spared)))
      ]

  -- a table that lost sets of the one half and then of the other
  pub sifted_halves : (p q keeps : ℕ → Bool) (old middle new : List Bool) → Sifted set (bit_xor rest b) p old middle
      → Sifted (bit_or set b) (bit_xor rest b) q middle new
      → ((s : ℕ) → in_cube set (bit_xor rest b) s ≡ true → keeps s ≡ p s)
      → ((s : ℕ) → in_cube (bit_or set b) (bit_xor rest b) s ≡ true → keeps s ≡ q s) → Sifted set rest keeps old new
  sifted_halves p q keeps old middle new without with_one same_p same_q = record {
    long = with_one.long ∙ without.long;
    inside = λ s within.
        elim (cases_Bool (bit s place)) [
          | inl on ↦
              let half = in_with s within on in
              with_one.inside s half
              ∙ (ap (λ (x : Bool). x && q s) (without.beside s (not_without s on))
              ∙ ap (λ (x : Bool). get_or old s false && x) (sym (same_q s half)))
          | inr off ↦
              let half = in_without s within off in
              with_one.beside s (not_with s off)
              ∙ (without.inside s half ∙ ap (λ (x : Bool). get_or old s false && x) (sym (same_p s half)))
        ];
    beside = λ s out.
        with_one.beside s (false_from_ne_true (in_cube (bit_or set b) (bit_xor rest b) s) (λ h.
        both_ways (in_cube set rest s) out (half_with s h).0))
        ∙ without.beside s (false_from_ne_true (in_cube set (bit_xor rest b) s) (λ h.
        both_ways (in_cube set rest s) out (half_without s h).0));
  }

  -- a table that has no set of either half
  pub none_halves : (table : List Bool) → HasNone set (bit_xor rest b) table → HasNone (bit_or set b) (bit_xor rest b) table
      → HasNone set rest table
  none_halves table without with_one s within =
      elim (cases_Bool (bit s place)) [
        | inl on ↦ with_one s (in_with s within on)
        | inr off ↦ without s (in_without s within off)
      ]

  -- what calls over the halves need
  pub apart_without : bit_and set (bit_xor rest b) ≡ 0
  apart_without =
      no_common set (bit_xor rest b) (λ a h.
      bit-left rest b one a ∙ and_left (bit rest a) (not (bit b a)) (no_common_back set rest apart a h))

  pub apart_with : bit_and (bit_or set b) (bit_xor rest b) ≡ 0
  apart_with =
      no_common (bit_or set b) (bit_xor rest b) (λ a h.
      bit-left rest b one a
      ∙ elim (or_cases (bit set a) (bit b a) (sym (bit-or set b a) ∙ h)) [
        | inl e ↦ and_left (bit rest a) (not (bit b a)) (no_common_back set rest apart a e)
        | inr e ↦ and_right (bit rest a) (not (bit b a)) (not_from_true (bit b a) e)
      ])

  pub whole_without : bit_or set (bit_xor rest b) ≤ bit_or set rest
  whole_without =
      let part = covers (bit_or set (bit_xor rest b)) (bit_or set rest) (λ a h.
      bit-or set rest a
      ∙ elim (or_cases (bit set a) (bit (bit_xor rest b) a) (sym (bit-or set (bit_xor rest b) a) ∙ h)) [
        | inl e ↦ or_left (bit set a) (bit rest a) e
        | inr e ↦ or_right (bit set a) (bit rest a) (left-in rest b one a e)
      ]) in
      let le = and_le_r (bit_or set (bit_xor rest b)) (bit_or set rest) in
      omega arith

  pub whole_with : bit_or (bit_or set b) (bit_xor rest b) ≡ bit_or set rest
  whole_with =
      same_masks (bit_or (bit_or set b) (bit_xor rest b)) (bit_or set rest) (λ a.
      bit-or (bit_or set b) (bit_xor rest b) a
      ∙ (ap (λ (x : Bool). x || bit (bit_xor rest b) a) (bit-or set b a)
      ∙ (ap (λ (x : Bool). (bit set a || bit b a) || x) (bit-left rest b one a)
      ∙ (whole (bit set a) (bit b a) (bit rest a) (b_in rest b one a) ∙ sym (bit-or set rest a)))))
