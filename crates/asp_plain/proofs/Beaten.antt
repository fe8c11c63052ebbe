-- Sets of a cube that another model of their reduct beats: by what is left of the rules, and in the cube's two halves.
use Rattle.std.proofs.Common.{◌≡◌, ℕ, Bool, true, false, not, ◌&&◌, ◌||◌, eqb, List, [], refl, sym, ap, ◌∙◌, subst, inl, inr}
use Rattle.std.specs.Prelude.{Contains}
use Rattle.std.specs.List.{list_any}
use Rattle.std.specs.Int.RustNames.{bit_and, bit_or, bit_xor}
use Rattle.std.proofs.lemmas.Bool.{eq-eqb, ne_eqb, cases_Bool, both_ways, and_parts, and_from, or_cases, or_left, or_right, not_from_false, false_from_ne_true, cases_eq}
use Rattle.asp_plain.specs.declared.masks.MaskedRule.{MaskedRule}
use Rattle.asp_plain.specs.Masks.{HaveSameMembers, IsBitOf, is_model_of_reduct, has_other_model}
use Rattle.asp_plain.specs.Cubes.{in_cube, rule_atoms, is_bare, left_of, Sifted, least_of, is_beaten}
use Rattle.asp_plain.proofs.Atoms.{bit, same_test, same_masks, bit-and, bit-or}
use Rattle.asp_plain.proofs.Beside.{Within, outer-within, or-within}
use Rattle.asp_plain.proofs.Between.{other_model, other_from}
use Rattle.asp_plain.proofs.Cubes.{cube_from, is_place, b_within, b_in, bit-left, left-in, least_bits, least_without, least_other, least_fixed, least_added, IsBit-within, sifted_none}
use Rattle.asp_plain.proofs.LeftRules.{member_at, models_left, atoms_open, bare_broken}

-- ---- the sets that are tried

-- the greatest set that has `small` and beside it only atoms of `s` that are open
abbrev most : ℕ → ℕ → ℕ → ℕ
most small loose s = bit_or small (bit_and s loose)

bit-most : (small loose s a : ℕ) → bit (most small loose s) a ≡ (bit small a || (bit s a && bit loose a))
bit-most small loose s a = bit-or small (bit_and s loose) a ∙ ap (λ t. bit small a || t) (bit-and s loose a)

most-small : (small loose s : ℕ) → Within small (most small loose s)
most-small small loose s = outer-within small (bit_and s loose)

-- what is within it where the two parts are
most-within : (small loose s k : ℕ) → Within small k → ((a : ℕ) → bit s a ≡ true → bit loose a ≡ true → bit k a ≡ true)
    → Within (most small loose s) k
most-within small loose s k low open_low a h =
    elim (or_cases (bit small a) (bit s a && bit loose a) (sym (bit-most small loose s a) ∙ h)) [
      | inl e ↦ low a e
      | inr e ↦ let parts = and_parts (bit s a) (bit loose a) e in open_low a parts.0 parts.1
    ]

most-open : (small loose s a : ℕ) → bit s a ≡ true → bit loose a ≡ true → bit (most small loose s) a ≡ true
most-open small loose s a in_s in_rest =
    bit-most small loose s a
    ∙ or_right (bit small a) (bit s a && bit loose a) (and_from (bit s a) (bit loose a) in_s in_rest)

-- each of the sets lies in the cube of `small`
between-cube : (small loose s k : ℕ) → Within small k → Within k (most small loose s) → in_cube small loose k ≡ true
between-cube small loose s k low high =
    cube_from small loose k (λ a.
    same_test (bit k a) (bit small a || (bit k a && bit loose a))
    (λ h.
    elim (or_cases (bit small a) (bit s a && bit loose a) (sym (bit-most small loose s a) ∙ high a h)) [
      | inl e ↦ or_left (bit small a) (bit k a && bit loose a) e
      | inr e ↦
          or_right (bit small a) (bit k a && bit loose a)
          (and_from (bit k a) (bit loose a) h (and_parts (bit s a) (bit loose a) e).1)
    ])
    (λ h.
    elim (or_cases (bit small a) (bit k a && bit loose a) h) [
      | inl e ↦ low a e
      | inr e ↦ (and_parts (bit k a) (bit loose a) e).0
    ]))

-- rules with the same models among the sets
others_same : (rules left : List MaskedRule) (s least greatest : ℕ)
    → ((k : ℕ) → Within least k → Within k greatest → is_model_of_reduct left s k ≡ is_model_of_reduct rules s k)
    → has_other_model left s least greatest ≡ has_other_model rules s least greatest
others_same rules left s least greatest same =
    same_test (has_other_model left s least greatest) (has_other_model rules s least greatest)
    (λ h.
    let w = other_model left s least greatest h in
    other_from rules s least greatest w.0 w.1 w.2 w.3 (sym (same w.0 w.1 w.2) ∙ w.4))
    (λ h.
    let w = other_model rules s least greatest h in
    other_from left s least greatest w.0 w.1 w.2 w.3 (same w.0 w.1 w.2 ∙ w.4))

-- the least part lies between
least-most : (lower small loose s : ℕ) → Within (least_of lower small loose s) (most small loose s)
least-most lower small loose s a h =
    elim (or_cases (bit small a) ((bit s a && bit loose a) && bit lower a) (sym (least_bits lower small loose s a) ∙ h)) [
      | inl e ↦ most-small small loose s a e
      | inr e ↦
          let parts = and_parts (bit s a) (bit loose a) ((and_parts (bit s a && bit loose a) (bit lower a) e).0) in
          most-open small loose s a parts.0 parts.1
    ]

pub small-least : (lower small loose s : ℕ) → Within small (least_of lower small loose s)
small-least lower small loose s = outer-within small (bit_and (bit_and s loose) lower)

-- no other set lies between where the set is its own least part
pub none_between : (rules : List MaskedRule) (lower small loose s : ℕ) → Within small s → s ≡ least_of lower small loose s
    → is_beaten rules lower small loose s ≡ false
none_between rules lower small loose s part is =
    false_from_ne_true (is_beaten rules lower small loose s) (λ h.
    let w = other_model rules s (least_of lower small loose s) (most small loose s) h in
    w.3 (same_masks w.0 s (λ a.
    same_test (bit w.0 a) (bit s a)
    (λ k. most-within small loose s s part (λ c i j. i) a (w.2 a k))
    (λ k. w.1 a (subst (λ (m : ℕ). bit m a ≡ true) is k)))))

-- where there are no rules, the least part beats each other set
pub none_beaten : (lower small loose s : ℕ) → Within small s
    → is_beaten [] lower small loose s ≡ not (eqb s (least_of lower small loose s))
none_beaten lower small loose s part =
    elim (cases_eq s (least_of lower small loose s)) [
      | inl is ↦
          none_between [] lower small loose s part is
          ∙ sym (ap not (eq-eqb s (least_of lower small loose s) is))
      | inr other ↦
          other_from [] s (least_of lower small loose s) (most small loose s) (least_of lower small loose s) (λ a k. k)
          (least-most lower small loose s) (λ e. other (sym e)) refl
          ∙ sym (ap not (ne_eqb s (least_of lower small loose s) other))
    ]

-- ---- one atom is left out or put in

module _ (small loose b : ℕ) (one : IsBitOf loose b) where
  abbrev t : ℕ
  t = one.place

  lacks_b : (k : ℕ) → bit k t ≡ false → (a : ℕ) → bit k a ≡ true → bit b a ≡ false
  lacks_b k off a h =
      false_from_ne_true (bit b a) (λ e.
      both_ways (bit k a) (subst (λ (x : ℕ). bit k x ≡ false) (is_place loose b one a e) off) h)

  in_less : (a : ℕ) → bit loose a ≡ true → bit b a ≡ false → bit (bit_xor loose b) a ≡ true
  in_less a h off = bit-left loose b one a ∙ and_from (bit loose a) (not (bit b a)) h (not_from_false (bit b a) off)

  module _ (rules : List MaskedRule) (lower s : ℕ) where
    abbrev least : ℕ
    least = least_of lower small loose s

    -- a set without the atom
    pub beaten_without : bit s t ≡ false → is_beaten rules lower small (bit_xor loose b) s ≡ is_beaten rules lower small loose s
    beaten_without off =
        ap (λ (m : ℕ). has_other_model rules s m (bit_or small (bit_and s (bit_xor loose b)))) (least_without loose b one lower small s off)
        ∙ ap (λ (m : ℕ). has_other_model rules s least (bit_or small m))
        (same_masks (bit_and s (bit_xor loose b)) (bit_and s loose) (λ a.
        bit-and s (bit_xor loose b) a
        ∙ (same_test (bit s a && bit (bit_xor loose b) a) (bit s a && bit loose a)
        (λ h.
        let parts = and_parts (bit s a) (bit (bit_xor loose b) a) h in
        and_from (bit s a) (bit loose a) parts.0 (left-in loose b one a parts.1))
        (λ h.
        let parts = and_parts (bit s a) (bit loose a) h in
        and_from (bit s a) (bit (bit_xor loose b) a) parts.0 (in_less a parts.1 (lacks_b s off a parts.0)))
        ∙ sym (bit-and s loose a))))

    -- one with it, where it is fixed, and where it is beaten by a set without it or by one with it
    module _ (on : bit s t ≡ true) where
      less_below : Within (most small (bit_xor loose b) s) (most small loose s)
      less_below =
          most-within small (bit_xor loose b) s (most small loose s) (most-small small loose s)
          (λ a i j. most-open small loose s a i (left-in loose b one a j))

      with_below : Within (most (bit_or small b) (bit_xor loose b) s) (most small loose s)
      with_below =
          most-within (bit_or small b) (bit_xor loose b) s (most small loose s)
          (or-within small b (most small loose s) (most-small small loose s)
          (λ a i. most-open small loose s a (b_within loose b one s on a i) (b_in loose b one a i)))
          (λ a i j. most-open small loose s a i (left-in loose b one a j))

      below_with : (k : ℕ) → Within k (most small loose s) → Within k (most (bit_or small b) (bit_xor loose b) s)
      below_with k high a h =
          most-within small loose s (most (bit_or small b) (bit_xor loose b) s)
          (λ c i. most-small (bit_or small b) (bit_xor loose b) s c (outer-within small b c i))
          (λ c i j.
          elim (cases_Bool (bit b c)) [
            | inl e ↦
                most-small (bit_or small b) (bit_xor loose b) s c
                (bit-or small b c ∙ or_right (bit small c) (bit b c) e)
            | inr off ↦ most-open (bit_or small b) (bit_xor loose b) s c i (in_less c j off)
          ]) a (high a h)

      below_without : (k : ℕ) → Within k (most small loose s) → bit k t ≡ false → Within k (most small (bit_xor loose b) s)
      below_without k high off a h =
          elim (or_cases (bit small a) (bit s a && bit loose a) (sym (bit-most small loose s a) ∙ high a h)) [
            | inl e ↦ most-small small (bit_xor loose b) s a e
            | inr e ↦
                let parts = and_parts (bit s a) (bit loose a) e in
                most-open small (bit_xor loose b) s a parts.0 (in_less a parts.1 (lacks_b k off a h))
          ]

      pub beaten_fixed : bit lower t ≡ true
          → is_beaten rules lower (bit_or small b) (bit_xor loose b) s ≡ is_beaten rules lower small loose s
      beaten_fixed in_lower =
          ap (λ (m : ℕ). has_other_model rules s m (most (bit_or small b) (bit_xor loose b) s)) (least_fixed loose b one lower small s on in_lower)
          ∙ ap (has_other_model rules s least)
          (same_masks (most (bit_or small b) (bit_xor loose b) s) (most small loose s) (λ a.
          same_test (bit (most (bit_or small b) (bit_xor loose b) s) a) (bit (most small loose s) a)
          (with_below a) (below_with (most small loose s) (λ c k. k) a)))

      pub beaten_with : bit lower t ≡ false
          → is_beaten rules lower small loose s
          ≡ (is_beaten rules lower small (bit_xor loose b) s || is_beaten rules lower (bit_or small b) (bit_xor loose b) s)
      beaten_with out =
          let first = is_beaten rules lower small (bit_xor loose b) s in
          let second = is_beaten rules lower (bit_or small b) (bit_xor loose b) s in
          let other : least_of lower small (bit_xor loose b) s ≡ least = least_other loose b one lower small s out in
          let added : least_of lower (bit_or small b) (bit_xor loose b) s ≡ bit_or least b = least_added loose b one lower small s out in
          same_test (is_beaten rules lower small loose s) (first || second)
          (λ h.
          let w = other_model rules s least (most small loose s) h in
          elim (cases_Bool (bit w.0 t)) [
            | inl has ↦
                or_right first second
                (other_from rules s (least_of lower (bit_or small b) (bit_xor loose b) s) (most (bit_or small b) (bit_xor loose b) s) w.0
                (subst (λ (m : ℕ). Within m w.0) (sym added) (or-within least b w.0 w.1 (b_within loose b one w.0 has)))
                (below_with w.0 w.2) w.3 w.4)
            | inr lacks ↦
                or_left first second
                (other_from rules s (least_of lower small (bit_xor loose b) s) (most small (bit_xor loose b) s) w.0
                (subst (λ (m : ℕ). Within m w.0) (sym other) w.1) (below_without w.0 w.2 lacks) w.3 w.4)
          ])
          (λ h.
          elim (or_cases first second h) [
            | inl e ↦
                let w = other_model rules s (least_of lower small (bit_xor loose b) s) (most small (bit_xor loose b) s) e in
                other_from rules s least (most small loose s) w.0 (subst (λ (m : ℕ). Within m w.0) other w.1)
                (λ a i. less_below a (w.2 a i)) w.3 w.4
            | inr e ↦
                let w = other_model rules s (least_of lower (bit_or small b) (bit_xor loose b) s) (most (bit_or small b) (bit_xor loose b) s) e in
                let has : Within (bit_or least b) w.0 = subst (λ (m : ℕ). Within m w.0) added w.1 in
                other_from rules s least (most small loose s) w.0 (λ a i. has a (outer-within least b a i))
                (λ a i. with_below a (w.2 a i)) w.3 w.4
          ])

-- ---- by what is left of the rules

module _ (rules left : List MaskedRule) (lower set small rest loose : ℕ)
    (members : HaveSameMembers left (left_of set small rest loose rules)) where
  pub beaten_left : (s : ℕ) → in_cube set rest s ≡ true → is_beaten left lower small loose s ≡ is_beaten rules lower small loose s
  beaten_left s inside =
      others_same rules left s (least_of lower small loose s) (most small loose s) (λ k low high.
      models_left rules left set small rest loose members s k inside
      (between-cube small loose s k (λ a e. low a (small-least lower small loose s a e)) high))

  -- an atom of a rule that is left is open for the set or for the smaller set
  pub one_open : (rule : MaskedRule) (items : List MaskedRule) (atoms b : ℕ) → items ≡ left → Contains items rule
      → atoms ≡ rule_atoms rule → IsBitOf atoms b → IsBitOf (bit_or rest loose) b
  one_open rule items atoms b are there is one =
      let inside : Contains left rule = subst (λ (rs : List MaskedRule). Contains rs rule) are there in
      IsBit-within (rule_atoms rule) (bit_or rest loose) b
      (atoms_open rules left set small rest loose members rule (member_at left rule inside.0 inside.1 inside.2))
      (subst (λ (m : ℕ). IsBitOf m b) is one)

-- where a rule without atoms is left, none is beaten
pub never_beaten : (rules : List MaskedRule) (lower set small rest loose : ℕ)
    → list_any is_bare (left_of set small rest loose rules) ≡ true
    → (s : ℕ) → in_cube set rest s ≡ true → is_beaten rules lower small loose s ≡ false
never_beaten rules lower set small rest loose bare s inside =
    false_from_ne_true (is_beaten rules lower small loose s) (λ h.
    let w = other_model rules s (least_of lower small loose s) (most small loose s) h in
    both_ways (is_model_of_reduct rules s w.0)
    (bare_broken rules set small rest loose bare s w.0 inside
    (between-cube small loose s w.0 (λ a e. w.1 a (small-least lower small loose s a e)) w.2))
    w.4)

pub unbeaten : (rules : List MaskedRule) (lower set small rest loose : ℕ) (table : List Bool)
    → list_any is_bare (left_of set small rest loose rules) ≡ true
    → Sifted set rest (λ s. not (is_beaten rules lower small loose s)) table table
unbeaten rules lower set small rest loose table bare =
    sifted_none set rest (λ s. not (is_beaten rules lower small loose s)) table (λ s inside there.
    not_from_false (is_beaten rules lower small loose s) (never_beaten rules lower set small rest loose bare s inside))
