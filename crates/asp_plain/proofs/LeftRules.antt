-- What is left of rules in a cube of sets and a cube of their parts.
use Rattle.std.proofs.Common.{◌≡◌, ◌<◌, ℕ, zero, suc, Bool, true, false, not, ◌&&◌, ◌||◌, if◌then◌else◌, cond, eqb, ◌⊎◌, List, [], ◌∷◌, length, get_or, map, refl, sym, ap, ◌∙◌, subst, inl, inr, arith}
use Rattle.std.specs.Prelude.{Contains}
use Rattle.std.specs.List.{filter, list_any, list_all}
use Rattle.std.specs.Int.RustNames.{bit_and, bit_or}
use Rattle.std.proofs.lemmas.Bool.{eqb-true, eq-eqb, cases_Bool, both_ways, and_parts, and_from, or_cases, or_left, or_right, not-true, not_from_false, false_from_ne_true}
use Rattle.std.proofs.lemmas.Nat.Bits.{bit_at-zero}
use Rattle.asp_defs.specs.Lists.{IsIn}
use Rattle.asp_defs.proofs.Lists.{all_at, any_at, any_from, filter_at, filter_from, map_at, map_from}
use Rattle.asp_plain.specs.declared.masks.MaskedRule.{MaskedRule}
use Rattle.asp_plain.specs.Cubes.{in_cube, rule_atoms, is_bare, can_matter, narrowed, left_of, IsWhole}
use Rattle.asp_plain.specs.Masks.{HaveSameMembers, satisfies_part, is_model_of_reduct}
use Rattle.asp_plain.proofs.Atoms.{bit, same_test, bit-and, bit-or, covers, covers_back, no_common, no_common_back}
use Rattle.asp_plain.proofs.Beside.{Within, outer-within, or-within}
use Rattle.asp_plain.proofs.Cubes.{both_kept, cube_bits, cube_has}
use Rattle.asp_plain.proofs.Repeated.{all-members}

-- ---- members, by their places

place_of : {X : Type 0} (xs : List X) (x : X) → IsIn x xs → Contains xs x
place_of [] x i = absurd i
place_of (y ∷ ys) x (inl e) = (0, omega arith, sym e)
place_of (y ∷ ys) x (inr i) = let there = place_of ys x i in (suc there.0, omega (arith, there.1), there.2)

pub member_at : {X : Type 0} (xs : List X) (x : X) (k : ℕ) → k < length xs → get_or xs k x ≡ x → IsIn x xs
member_at [] x k l e = absurd (omega arith)
member_at (y ∷ ys) x zero l e = inl (sym e)
member_at (y ∷ ys) x (suc k) l e = inr (member_at ys x k (omega arith) e)

-- ---- masks

part_left : (m k : ℕ) → Within (bit_and m k) m
part_left m k a h = (and_parts (bit m a) (bit k a) (sym (bit-and m k a) ∙ h)).0

part_right : (m k : ℕ) → Within (bit_and m k) k
part_right m k a h = (and_parts (bit m a) (bit k a) (sym (bit-and m k a) ∙ h)).1

none_within : (m s t : ℕ) → Within s t → eqb (bit_and m t) 0 ≡ true → eqb (bit_and m s) 0 ≡ true
none_within m s t part h =
    let apart = no_common_back m t (eqb-true (bit_and m t) 0 h) in
    eq-eqb (bit_and m s) 0 (no_common m s (λ a k.
    false_from_ne_true (bit s a) (λ e. both_ways (bit t a) (apart a k) (part a e))))

all_within : (m s t : ℕ) → Within s t → eqb (bit_and m s) m ≡ true → eqb (bit_and m t) m ≡ true
all_within m s t part h =
    let inside = covers_back m s (eqb-true (bit_and m s) m h) in
    eq-eqb (bit_and m t) m (covers m t (λ a k. part a (inside a k)))

-- ---- a set of a cube

module _ (set rest s : ℕ) (inside : in_cube set rest s ≡ true) where
  -- each of its atoms lies in `set` or is open
  set_or_rest : (a : ℕ) → bit s a ≡ true → (bit set a ≡ true) ⊎ (bit rest a ≡ true)
  set_or_rest a h =
      elim (or_cases (bit set a) (bit s a && bit rest a) (sym (cube_bits set rest s inside a) ∙ h)) [
        | inl e ↦ inl e
        | inr e ↦ inr (and_parts (bit s a) (bit rest a) e).1
      ]

  in_whole : Within s (bit_or set rest)
  in_whole a h =
      elim (set_or_rest a h) [
        | inl e ↦ bit-or set rest a ∙ or_left (bit set a) (bit rest a) e
        | inr e ↦ bit-or set rest a ∙ or_right (bit set a) (bit rest a) e
      ]

  -- it has none of some atoms where `set` has none of them and it has none of those among them that are open, or of
  -- these and more
  none_split : (m some : ℕ) → Within rest some
      → eqb (bit_and m s) 0 ≡ (eqb (bit_and m set) 0 && eqb (bit_and (bit_and m some) s) 0)
  none_split m some part =
      same_test (eqb (bit_and m s) 0) (eqb (bit_and m set) 0 && eqb (bit_and (bit_and m some) s) 0)
      (λ h.
      let apart = no_common_back m s (eqb-true (bit_and m s) 0 h) in
      and_from (eqb (bit_and m set) 0) (eqb (bit_and (bit_and m some) s) 0) (none_within m set s (cube_has set rest s inside) h)
      (eq-eqb (bit_and (bit_and m some) s) 0 (no_common (bit_and m some) s (λ a k. apart a (part_left m some a k)))))
      (λ h.
      let parts = and_parts (eqb (bit_and m set) 0) (eqb (bit_and (bit_and m some) s) 0) h in
      let none_set = no_common_back m set (eqb-true (bit_and m set) 0 parts.0) in
      let none_some = no_common_back (bit_and m some) s (eqb-true (bit_and (bit_and m some) s) 0 parts.1) in
      eq-eqb (bit_and m s) 0 (no_common m s (λ a k.
      false_from_ne_true (bit s a) (λ e.
      elim (set_or_rest a e) [
        | inl low ↦ both_ways (bit set a) (none_set a k) low
        | inr high ↦
            both_ways (bit s a)
            (none_some a (bit-and m some a ∙ and_from (bit m a) (bit some a) k (part a high))) e
      ]))))

  -- it has all of some atoms, each in `set` or open, where it has the open ones among them
  all_split : (m : ℕ) → eqb (bit_and m (bit_or set rest)) m ≡ true
      → eqb (bit_and m s) m ≡ eqb (bit_and (bit_and m rest) s) (bit_and m rest)
  all_split m whole =
      same_test (eqb (bit_and m s) m) (eqb (bit_and (bit_and m rest) s) (bit_and m rest))
      (λ h.
      let all = covers_back m s (eqb-true (bit_and m s) m h) in
      eq-eqb (bit_and (bit_and m rest) s) (bit_and m rest)
      (covers (bit_and m rest) s (λ a k. all a (part_left m rest a k))))
      (λ h.
      let all = covers_back (bit_and m rest) s (eqb-true (bit_and (bit_and m rest) s) (bit_and m rest) h) in
      let in_both = covers_back m (bit_or set rest) (eqb-true (bit_and m (bit_or set rest)) m whole) in
      eq-eqb (bit_and m s) m (covers m s (λ a k.
      elim (or_cases (bit set a) (bit rest a) (sym (bit-or set rest a) ∙ in_both a k)) [
        | inl low ↦ cube_has set rest s inside a low
        | inr high ↦ all a (bit-and m rest a ∙ and_from (bit m a) (bit rest a) k high)
      ])))

-- ---- one rule

unmattering : (n c p h sn sc sp sh : Bool) → (sn ≡ true → n ≡ true) → (c ≡ true → sc ≡ true) → (sp ≡ true → p ≡ true)
    → (sh ≡ true → h ≡ true) → (n && (not c && (p && h))) ≡ false → (not sn || (sc || (not sp || not sh))) ≡ true
unmattering n c p h false sc sp sh fn fc fp fh e = refl
unmattering n c p h true true sp sh fn fc fp fh e = refl
unmattering n c p h true false false sh fn fc fp fh e = refl
unmattering n c p h true false true false fn fc fp fh e = refl
unmattering n c p h true false true true fn fc fp fh e =
    absurd (both_ways (n && (not c && (p && h))) e
    (and_from n (not c && (p && h)) (fn refl)
    (and_from (not c) (p && h) (not_from_false c (false_from_ne_true c (λ k. both_ways false refl (fc k))))
    (and_from p h (fp refl) (fh refl)))))

same_sat : (n n' c c' p p' h h' : Bool) → n' ≡ n → c' ≡ c → p' ≡ p → h' ≡ h
    → (not n' || (c' || (not p' || not h'))) ≡ (not n || (c || (not p || not h)))
same_sat n n' c c' p p' h h' en ec ep eh =
    ap (λ t. not t || (c' || (not p' || not h'))) en
    ∙ ap (λ t. not n || (t || (not p' || not h'))) ec
    ∙ ap (λ t. not n || (c || (not t || not h'))) ep
    ∙ ap (λ t. not n || (c || (not p || not t))) eh

-- the parts of the test whether a rule can matter
record Matters (rule : MaskedRule) (set small rest loose : ℕ) : Type 0 where
  negative : eqb (bit_and rule.negative set) 0 ≡ true
  choice : (rule.choice && eqb (bit_and rule.head (bit_or set rest)) 0) ≡ false
  positive : eqb (bit_and rule.positive (bit_or small loose)) rule.positive ≡ true
  head : eqb (bit_and rule.head small) 0 ≡ true

matters_at : (rule : MaskedRule) (set small rest loose : ℕ) → can_matter rule set small rest loose ≡ true
    → Matters rule set small rest loose
matters_at rule set small rest loose h =
    let choice = rule.choice && eqb (bit_and rule.head (bit_or set rest)) 0 in
    let positive = eqb (bit_and rule.positive (bit_or small loose)) rule.positive in
    let head = eqb (bit_and rule.head small) 0 in
    let all = and_parts (eqb (bit_and rule.negative set) 0) (not choice && (positive && head)) h in
    let more = and_parts (not choice) (positive && head) all.1 in
    let last = and_parts positive head more.1 in
    record { negative = all.0; choice = not-true choice more.0; positive = last.0; head = last.1 }

-- the atoms that a head may keep: those that are open for the smaller set, and where it is of a choice that may still
-- lack it, those that are open for the set
abbrev kept_heads : ℕ → ℕ → Bool → ℕ
kept_heads rest loose choice = if choice then bit_or rest loose else loose

open_kept : (rest loose : ℕ) (choice : Bool) → Within loose (kept_heads rest loose choice)
open_kept rest loose true a h = bit-or rest loose a ∙ or_right (bit rest a) (bit loose a) h
open_kept rest loose false a h = h

kept_within : (rest loose : ℕ) (choice : Bool) → Within (kept_heads rest loose choice) (bit_or rest loose)
kept_within rest loose true a h = h
kept_within rest loose false a h = bit-or rest loose a ∙ or_right (bit rest a) (bit loose a) h

and_itself : (p : Bool) (f : Bool → Bool) → (p && f p) ≡ (p && f true)
and_itself true f = refl
and_itself false f = refl

module _ (set small rest loose s k : ℕ) (in_s : in_cube set rest s ≡ true) (in_k : in_cube small loose k ≡ true) where
  -- a rule that can't matter is satisfied
  unmattering_held : (rule : MaskedRule) → can_matter rule set small rest loose ≡ false → satisfies_part rule s k ≡ true
  unmattering_held rule =
      unmattering (eqb (bit_and rule.negative set) 0) (rule.choice && eqb (bit_and rule.head (bit_or set rest)) 0)
      (eqb (bit_and rule.positive (bit_or small loose)) rule.positive) (eqb (bit_and rule.head small) 0)
      (eqb (bit_and rule.negative s) 0) (rule.choice && eqb (bit_and rule.head s) 0)
      (eqb (bit_and rule.positive k) rule.positive) (eqb (bit_and rule.head k) 0)
      (none_within rule.negative set s (cube_has set rest s in_s))
      (λ h.
      let parts = and_parts rule.choice (eqb (bit_and rule.head (bit_or set rest)) 0) h in
      and_from rule.choice (eqb (bit_and rule.head s) 0) parts.0
      (none_within rule.head s (bit_or set rest) (in_whole set rest s in_s) parts.1))
      (all_within rule.positive k (bit_or small loose) (in_whole small loose k in_k))
      (none_within rule.head small k (cube_has small loose k in_k))

  -- one that can is satisfied where what is left of it is
  narrowed_same : (rule : MaskedRule) → can_matter rule set small rest loose ≡ true
      → satisfies_part (narrowed set rest loose rule) s k ≡ satisfies_part rule s k
  narrowed_same rule h =
      let matters = matters_at rule set small rest loose h in
      let choice = rule.choice && eqb (bit_and rule.head set) 0 in
      let head = bit_and rule.head (kept_heads rest loose choice) in
      same_sat (eqb (bit_and rule.negative s) 0) (eqb (bit_and (bit_and rule.negative rest) s) 0)
      (rule.choice && eqb (bit_and rule.head s) 0) (choice && eqb (bit_and head s) 0)
      (eqb (bit_and rule.positive k) rule.positive)
      (eqb (bit_and (bit_and rule.positive loose) k) (bit_and rule.positive loose))
      (eqb (bit_and rule.head k) 0) (eqb (bit_and head k) 0)
      (sym (none_split set rest s in_s rule.negative rest (λ a e. e)
      ∙ ap (λ t. t && eqb (bit_and (bit_and rule.negative rest) s) 0) matters.negative))
      (and_itself choice (λ t. eqb (bit_and (bit_and rule.head (kept_heads rest loose t)) s) 0)
      ∙ (both_kept rule.choice (eqb (bit_and rule.head set) 0) (eqb (bit_and (bit_and rule.head (bit_or rest loose)) s) 0)
      ∙ ap (λ t. rule.choice && t)
      (sym (none_split set rest s in_s rule.head (bit_or rest loose) (outer-within rest loose)))))
      (sym (all_split small loose k in_k rule.positive matters.positive))
      (sym (none_split small loose k in_k rule.head (kept_heads rest loose choice) (open_kept rest loose choice)
      ∙ ap (λ t. t && eqb (bit_and head k) 0) matters.head))

  -- so are all rules
  left_same : (rules : List MaskedRule)
      → is_model_of_reduct (left_of set small rest loose rules) s k ≡ is_model_of_reduct rules s k
  left_same [] = refl
  left_same (rule ∷ rules) =
      let kept = filter (λ (r : MaskedRule). can_matter r set small rest loose) rules in
      let after_test = λ (t : Bool). is_model_of_reduct (map (narrowed set rest loose) (cond t (rule ∷ kept) kept)) s k in
      elim (cases_Bool (can_matter rule set small rest loose)) [
        | inl matters ↦
            ap after_test matters
            ∙ (ap (λ t. t && is_model_of_reduct (left_of set small rest loose rules) s k) (narrowed_same rule matters)
            ∙ ap (λ t. satisfies_part rule s k && t) (left_same rules))
        | inr never ↦
            ap after_test never
            ∙ (left_same rules ∙ sym (ap (λ t. t && is_model_of_reduct rules s k) (unmattering_held rule never)))
      ]

-- ---- a rule whose atoms are all decided

no_bits : (m whole : ℕ) → Within m whole → whole ≡ 0 → (a : ℕ) → bit m a ≡ false
no_bits m whole part e a =
    false_from_ne_true (bit m a) (λ h.
    both_ways (bit whole a) (ap (λ (x : ℕ). bit x a) e ∙ ap (λ (x : ℕ). eqb x 1) (bit_at-zero a)) (part a h))

none_test : (m k : ℕ) → ((a : ℕ) → bit m a ≡ false) → eqb (bit_and m k) 0 ≡ true
none_test m k none = eq-eqb (bit_and m k) 0 (no_common m k (λ a h. absurd (both_ways (bit m a) (none a) h)))

all_test : (m k : ℕ) → ((a : ℕ) → bit m a ≡ false) → eqb (bit_and m k) m ≡ true
all_test m k none = eq-eqb (bit_and m k) m (covers m k (λ a h. absurd (both_ways (bit m a) (none a) h)))

-- where it can matter, what is left of it is broken
decided_broken : (rule : MaskedRule) (set small rest loose s k : ℕ) → can_matter rule set small rest loose ≡ true
    → rule_atoms (narrowed set rest loose rule) ≡ 0 → satisfies_part (narrowed set rest loose rule) s k ≡ false
decided_broken rule set small rest loose s k h none =
    let matters = matters_at rule set small rest loose h in
    let choice = rule.choice && eqb (bit_and rule.head set) 0 in
    let positive = bit_and rule.positive loose in
    let negative = bit_and rule.negative rest in
    let head = bit_and rule.head (kept_heads rest loose choice) in
    let body = bit_or positive negative in
    let no_positive = no_bits positive (bit_or body head) (λ a e. outer-within body head a (outer-within positive negative a e)) none in
    let no_negative =
    no_bits negative (bit_or body head)
    (λ a e. outer-within body head a (bit-or positive negative a ∙ or_right (bit positive a) (bit negative a) e)) none in
    let no_head = no_bits head (bit_or body head) (λ a e. bit-or body head a ∙ or_right (bit body a) (bit head a) e) none in
    let no_choice : (choice && eqb (bit_and head s) 0) ≡ false =
    false_from_ne_true (choice && eqb (bit_and head s) 0) (λ e.
    let is_choice = (and_parts choice (eqb (bit_and head s) 0) e).0 in
    let parts = and_parts rule.choice (eqb (bit_and rule.head set) 0) is_choice in
    let none_set = no_common_back rule.head set (eqb-true (bit_and rule.head set) 0 parts.1) in
    let none_open : (a : ℕ) → bit (bit_and rule.head (bit_or rest loose)) a ≡ false =
    subst (λ (t : Bool). (a : ℕ) → bit (bit_and rule.head (kept_heads rest loose t)) a ≡ false) is_choice no_head in
    both_ways (rule.choice && eqb (bit_and rule.head (bit_or set rest)) 0) matters.choice
    (and_from rule.choice (eqb (bit_and rule.head (bit_or set rest)) 0) parts.0
    (eq-eqb (bit_and rule.head (bit_or set rest)) 0 (no_common rule.head (bit_or set rest) (λ a there.
    false_from_ne_true (bit (bit_or set rest) a) (λ w.
    elim (or_cases (bit set a) (bit rest a) (sym (bit-or set rest a) ∙ w)) [
      | inl low ↦ both_ways (bit set a) (none_set a there) low
      | inr high ↦
          both_ways (bit (bit_and rule.head (bit_or rest loose)) a) (none_open a)
          (bit-and rule.head (bit_or rest loose) a
          ∙ and_from (bit rule.head a) (bit (bit_or rest loose) a) there (outer-within rest loose a high))
    ])))))) in
    same_sat true (eqb (bit_and negative s) 0) false (choice && eqb (bit_and head s) 0)
    true (eqb (bit_and positive k) positive) true (eqb (bit_and head k) 0) (none_test negative s no_negative) no_choice
    (all_test positive k no_positive) (none_test head k no_head)

module _ (rules left : List MaskedRule) (set small rest loose : ℕ) (members : HaveSameMembers left (left_of set small rest loose rules)) where
  -- the models of the reduct in the cubes
  pub models_left : (s k : ℕ) → in_cube set rest s ≡ true → in_cube small loose k ≡ true
      → is_model_of_reduct left s k ≡ is_model_of_reduct rules s k
  models_left s k in_s in_k =
      all-members (λ (rule : MaskedRule). satisfies_part rule s k) left (left_of set small rest loose rules) members
      ∙ left_same set small rest loose s k in_s in_k rules

  -- where a rule that is left is from
  origin : (rule : MaskedRule) → IsIn rule left
      → (r : MaskedRule) × (can_matter r set small rest loose ≡ true) × (rule ≡ narrowed set rest loose r)
  origin rule i =
      let there = members.within rule (place_of left rule i) in
      let found = map_at (narrowed set rest loose) (filter (λ (r : MaskedRule). can_matter r set small rest loose) rules) rule
      (member_at (left_of set small rest loose rules) rule there.0 there.1 there.2) in
      (found.0, (filter_at (λ (r : MaskedRule). can_matter r set small rest loose) rules found.0 found.1).1, found.2)

  -- its atoms are open for the set or for the smaller set
  pub atoms_open : (rule : MaskedRule) → IsIn rule left → Within (rule_atoms rule) (bit_or rest loose)
  atoms_open rule i =
      let source = origin rule i in
      let r = source.0 in
      let heads = kept_heads rest loose (r.choice && eqb (bit_and r.head set) 0) in
      subst (λ (r : MaskedRule). Within (rule_atoms r) (bit_or rest loose)) (sym source.2)
      (or-within (bit_or (bit_and r.positive loose) (bit_and r.negative rest)) (bit_and r.head heads) (bit_or rest loose)
      (or-within (bit_and r.positive loose) (bit_and r.negative rest) (bit_or rest loose)
      (λ a e. bit-or rest loose a ∙ or_right (bit rest a) (bit loose a) (part_right r.positive loose a e))
      (λ a e. outer-within rest loose a (part_right r.negative rest a e)))
      (λ a e.
      kept_within rest loose (r.choice && eqb (bit_and r.head set) 0) a (part_right r.head heads a e)))

  -- one without atoms is broken
  pub broken_by_all : (rule : MaskedRule) → IsIn rule left → rule_atoms rule ≡ 0 → (s k : ℕ) → in_cube set rest s ≡ true
      → in_cube small loose k ≡ true → is_model_of_reduct rules s k ≡ false
  broken_by_all rule i none s k in_s in_k =
      let source = origin rule i in
      false_from_ne_true (is_model_of_reduct rules s k) (λ model.
      both_ways (satisfies_part (narrowed set rest loose source.0) s k)
      (decided_broken source.0 set small rest loose s k source.1 (subst (λ (r : MaskedRule). rule_atoms r ≡ 0) source.2 none))
      (subst (λ (r : MaskedRule). satisfies_part r s k ≡ true) source.2
      (all_at (λ (r : MaskedRule). satisfies_part r s k) left rule (models_left s k in_s in_k ∙ model) i)))

-- ---- lists that are left

-- a rule without atoms is left
pub bare_left : (rules : List MaskedRule) (set small rest loose k : ℕ) (d : MaskedRule) → k < length rules
    → can_matter (get_or rules k d) set small rest loose ≡ true → rule_atoms (narrowed set rest loose (get_or rules k d)) ≡ 0
    → list_any is_bare (left_of set small rest loose rules) ≡ true
bare_left rules set small rest loose k d l matters none =
    let rule = get_or rules k d in
    any_from is_bare (left_of set small rest loose rules) (narrowed set rest loose rule)
    (map_from (narrowed set rest loose) (filter (λ (r : MaskedRule). can_matter r set small rest loose) rules) rule
    (filter_from (λ (r : MaskedRule). can_matter r set small rest loose) rules rule
    (member_at rules rule k l (get_or_in rules k l)) matters))
    (eq-eqb (rule_atoms (narrowed set rest loose rule)) 0 none)
  where
    get_or_in : (xs : List MaskedRule) (i : ℕ) → i < length xs → get_or xs i (get_or xs i d) ≡ get_or xs i d
    get_or_in [] i h = absurd (omega arith)
    get_or_in (x ∷ xs) zero h = refl
    get_or_in (x ∷ xs) (suc i) h = get_or_in xs i (omega arith)

-- the list itself, and one with the same members
pub whole_as : (left rules : List MaskedRule) → left ≡ rules → list_all (λ (rule : MaskedRule). not (is_bare rule)) left ≡ true
    → IsWhole left rules
whole_as left rules are atoms = record {
  members = record {
    within = λ x h. subst (λ (xs : List MaskedRule). Contains xs x) are h;
    whole = λ x h. subst (λ (xs : List MaskedRule). Contains xs x) (sym are) h;
  };
  atoms = atoms;
}

pub whole_again : (new left rules : List MaskedRule) → HaveSameMembers new left → IsWhole left rules → IsWhole new rules
whole_again new left rules same whole = record {
  members = record {
    within = λ x h. whole.members.within x (same.within x h);
    whole = λ x h. same.whole x (whole.members.whole x h);
  };
  atoms = all-members (λ (rule : MaskedRule). not (is_bare rule)) new left same ∙ whole.atoms;
}

-- the rules that are left, where one of them has no atoms
pub bare_broken : (rules : List MaskedRule) (set small rest loose : ℕ) → list_any is_bare (left_of set small rest loose rules) ≡ true
    → (s k : ℕ) → in_cube set rest s ≡ true → in_cube small loose k ≡ true → is_model_of_reduct rules s k ≡ false
bare_broken rules set small rest loose bare s k in_s in_k =
    let all = left_of set small rest loose rules in
    let w = any_at is_bare all bare in
    broken_by_all rules all set small rest loose (record { within = λ x h. h; whole = λ x h. h }) w.0 w.1
    (eqb-true (rule_atoms w.0) 0 w.2) s k in_s in_k
