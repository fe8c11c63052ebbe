-- The set that is taken off the end of a text is the one whose text it is.
use Rattle.std.proofs.Common.{ℕ, zero, suc, ◌≡◌, ◌+◌, ◌<◌, refl, sym, ◌∙◌, ap, subst, inl, inr, ◌⊎◌, Bool, true, false, arith, List, [], ◌∷◌, ◌++◌, length, drop, get_or, replicate, codes, Option, Some, None, drop-cons, nat_lt, map, ◌-◌, ◌≤◌, length-set}
use Rattle.std.specs.Prelude.{◌==◌, bytes_eq, slice_set}
use Rattle.std.specs.Option.{option_map_or}
use Rattle.std.specs.List.{flat_map, filter_map, cons_option, join_by, slice_get, find, list_all}
use Rattle.std.proofs.lemmas.Bool.{ltb-true, eqb-true}
use Rattle.asp_bits.specs.Places.{true_from, true_places}
use Rattle.asp_defs.specs.declared.ground.Bases.{Bases}
use Rattle.asp_defs.specs.declared.ground.GroundAtom.{GroundAtom}
use Rattle.asp_defs.specs.Lists.{IsIn}
use Rattle.asp_defs.specs.Interpretations.{subsets}
use Rattle.asp_defs.specs.Games.{ascends}
use Rattle.asp_defs.specs.Sets.{ground_atom_text, atoms_of, set_text, set_of_text}
use Rattle.asp_defs.proofs.Lists.{all_at}
use Rattle.asp_defs.proofs.Subsets.{true_is_not_false, subset-member, ascends-tail, ascends-member}
use Rattle.asp_sets.specs.Readable.{is_solid, AreReadable}
use Rattle.asp_sets.specs.Taking.{member_text, Takes, inner_text, inner_set}
use Rattle.asp_sets.proofs.Ends.{not_nil, cancel_left, cancel_right}
use Rattle.asp_sets.proofs.Taking.{AreShown, reads, taken_subset, find-same, find-none, same_test, falsely, nothing_read, whole_read}
use lib.Pointwise.{bytes_decides}

-- ---- the texts of atoms

pub atom_at : (atoms : List GroundAtom) (k : ℕ) → k < length atoms → (a : GroundAtom) × (slice_get atoms k ≡ Some a) × IsIn a atoms
atom_at [] k h = absurd (omega arith)
atom_at (a ∷ atoms) zero h = (a, refl, inl refl)
atom_at (a ∷ atoms) (suc k) h = let (b, e, i) = atom_at atoms k (omega arith) in (b, e, inr i)

pub are_shown : (bases : Bases) → AreReadable bases → AreShown (member_text bases.atoms) (get_or bases.members 1 [])
are_shown bases h k i =
    let (a, e, m) = atom_at bases.atoms k (ltb-true k (length bases.atoms) (all_at (λ k. nat_lt k (length bases.atoms)) (get_or bases.members 1 []) k h.within i)) in
    record {
      name = ground_atom_text a;
      is = ap (λ (o : Option GroundAtom). option_map_or (λ b. codes ", " ++ ground_atom_text b) o []) e;
      solid = all_at (λ b. is_solid (ground_atom_text b)) bases.atoms a h.solid m;
    }

-- the atom of a number is shown as its text behind a comma and a blank
pub shown_is : (atoms : List GroundAtom) (k : ℕ) (a : GroundAtom) → k < length atoms → get_or atoms k a ≡ a → member_text atoms k ≡ codes ", " ++ ground_atom_text a
shown_is [] k a h e = absurd (omega arith)
shown_is (b ∷ atoms) zero a h e = ap (λ (x : GroundAtom). codes ", " ++ ground_atom_text x) e
shown_is (b ∷ atoms) (suc k) a h e = shown_is atoms k a (omega arith) e

-- the texts of numbers in a row are those of their atoms
pub shown_atoms : (atoms : List GroundAtom) (I : List ℕ) → flat_map (member_text atoms) I ≡ flat_map (λ a. codes ", " ++ ground_atom_text a) (filter_map (slice_get atoms) I)
shown_atoms atoms [] = refl
shown_atoms atoms (k ∷ I) = go (slice_get atoms k) (shown_atoms atoms I)
  where
    go : (o : Option GroundAtom) → flat_map (member_text atoms) I ≡ flat_map (λ a. codes ", " ++ ground_atom_text a) (filter_map (slice_get atoms) I)
        → option_map_or (λ a. codes ", " ++ ground_atom_text a) o [] ++ flat_map (member_text atoms) I
        ≡ flat_map (λ a. codes ", " ++ ground_atom_text a) (cons_option o (filter_map (slice_get atoms) I))
    go None h = h
    go (Some a) h = ap (λ l. (codes ", " ++ ground_atom_text a) ++ l) h

shown_joined : (atoms : List GroundAtom) → (atoms ≡ []) ⊎ (flat_map (λ a. codes ", " ++ ground_atom_text a) atoms ≡ codes ", " ++ join_by ground_atom_text (codes ", ") atoms)
shown_joined [] = inl refl
shown_joined (a ∷ atoms) = inr refl

-- a text that isn't empty is that of a set where it is so behind a comma and a blank
read_inside : (bases : Bases) (text I : List ℕ) → (text ≡ [] → ⊥) → reads (member_text bases.atoms) (codes ", " ++ text) I ≡ bytes_eq text (inner_text bases I)
read_inside bases text I some = elim (shown_joined (atoms_of bases I)) [
  | inl none ↦
      falsely (reads (member_text bases.atoms) (codes ", " ++ text) I) (λ e.
      not_nil 44 (32 ∷ text) ((bytes_decides (codes ", " ++ text) (flat_map (member_text bases.atoms) I)).0 e ∙ shown_atoms bases.atoms I ∙ ap (flat_map (λ a. codes ", " ++ ground_atom_text a)) none))
      ∙ sym (falsely (bytes_eq text (inner_text bases I)) (λ e. some ((bytes_decides text (inner_text bases I)).0 e ∙ ap (join_by ground_atom_text (codes ", ")) none)))
  | inr joined ↦
      let whole : flat_map (member_text bases.atoms) I ≡ codes ", " ++ inner_text bases I = shown_atoms bases.atoms I ∙ joined in
      same_test (reads (member_text bases.atoms) (codes ", " ++ text) I) (bytes_eq text (inner_text bases I))
      (λ e. (bytes_decides text (inner_text bases I)).1 (cancel_left (codes ", ") text (inner_text bases I) ((bytes_decides (codes ", " ++ text) (flat_map (member_text bases.atoms) I)).0 e ∙ whole)))
      (λ e. (bytes_decides (codes ", " ++ text) (flat_map (member_text bases.atoms) I)).1 (ap (λ l. codes ", " ++ l) ((bytes_decides text (inner_text bases I)).0 e) ∙ sym whole))
]

-- ---- what is taken off is the set of a text without its braces

pub set_read : (bases : Bases) (text led left taken : List ℕ) → AreReadable bases → (text ≡ [] → ⊥) → led ≡ codes ", " ++ text
    → Takes (member_text bases.atoms) led (get_or bases.members 1 []) left taken → left ≡ [] → Some taken ≡ inner_set bases text
set_read bases text led left taken h some is takes none =
    let base : List ℕ = get_or bases.members 1 [] in
    sym (whole_read (member_text bases.atoms) base (codes ", " ++ text) taken (are_shown bases h)
    (subst (λ l. Takes (member_text bases.atoms) l base [] taken) is (subst (λ l. Takes (member_text bases.atoms) led base l taken) none takes)))
    ∙ find-same (reads (member_text bases.atoms) (codes ", " ++ text)) (λ I. bytes_eq text (inner_text bases I)) (subsets base) (λ I i. read_inside bases text I some)

pub none_read : (bases : Bases) (text led left taken : List ℕ) → AreReadable bases → (text ≡ [] → ⊥) → led ≡ codes ", " ++ text
    → Takes (member_text bases.atoms) led (get_or bases.members 1 []) left taken → (left ≡ [] → ⊥) → None ≡ inner_set bases text
none_read bases text led left taken h some is takes more =
    let base : List ℕ = get_or bases.members 1 [] in
    sym (nothing_read (member_text bases.atoms) (codes ", " ++ text) base left taken (are_shown bases h) (subst (λ l. Takes (member_text bases.atoms) l base left taken) is takes) more)
    ∙ find-same (reads (member_text bases.atoms) (codes ", " ++ text)) (λ I. bytes_eq text (inner_text bases I)) (subsets base) (λ I i. read_inside bases text I some)

-- ---- braces

pub inside_braces : (bases : Bases) (inner text : List ℕ) → codes "{" ++ inner ++ codes "}" ≡ text → inner_set bases inner ≡ set_of_text bases text
inside_braces bases inner text e =
    find-same (λ I. bytes_eq inner (inner_text bases I)) (λ I. bytes_eq text (set_text bases I)) (subsets (get_or bases.members 1 [])) (λ I i.
    same_test (bytes_eq inner (inner_text bases I)) (bytes_eq text (set_text bases I))
    (λ f. (bytes_decides text (set_text bases I)).1 (sym e ∙ ap (λ l. codes "{" ++ l ++ codes "}") ((bytes_decides inner (inner_text bases I)).0 f)))
    (λ f. (bytes_decides inner (inner_text bases I)).1
    (cancel_left (codes "{") inner (inner_text bases I)
    (cancel_right (codes "{" ++ inner) (codes "{" ++ inner_text bases I) (codes "}") (e ∙ (bytes_decides text (set_text bases I)).0 f)))))

pub no_braces : (bases : Bases) (text : List ℕ) → ((inner : List ℕ) → codes "{" ++ inner ++ codes "}" ≡ text → ⊥) → None ≡ set_of_text bases text
no_braces bases text h = sym (find-none (λ I. bytes_eq text (set_text bases I)) (subsets (get_or bases.members 1 [])) (λ I i.
    falsely (bytes_eq text (set_text bases I)) (λ e. h (inner_text bases I) (sym ((bytes_decides text (set_text bases I)).0 e)))))

-- the first subset is the empty one
first_subset : (base : List ℕ) → (rest : List (List ℕ)) × (subsets base ≡ [] ∷ rest)
first_subset [] = ([], refl)
first_subset (k ∷ base) = let (rest, e) = first_subset base in (rest ++ map (λ J. k ∷ J) (subsets base), ap (λ l. l ++ map (λ J. k ∷ J) (subsets base)) e)

pub empty_read : (bases : Bases) → Some [] ≡ inner_set bases []
empty_read bases =
    let (rest, e) = first_subset (get_or bases.members 1 []) in
    sym (ap (find (λ I. bytes_eq [] (inner_text bases I))) e)

-- ---- the places of a set

none_true : (first count : ℕ) → true_from first (replicate count false) ≡ []
none_true first zero = refl
none_true first (suc count) = none_true (suc first) count

pub none_set : (values : List Bool) (count : ℕ) → values ≡ replicate count false → true_places values ≡ []
none_set values count e = ap true_places e ∙ none_true 0 count

first_true : (first k : ℕ) (values : List Bool) → k < length values → ((j : ℕ) → IsIn j (true_from first values) → first + k < j)
    → true_from first (slice_set values k true) ≡ (first + k) ∷ true_from first values
first_true first k [] h above = absurd (omega arith)
first_true first zero (true ∷ values) h above = let again = above first (inl refl) in absurd (omega (arith, again))
first_true first zero (false ∷ values) h above = ap (λ n. n ∷ true_from (suc first) values) (omega arith)
first_true first (suc k) (true ∷ values) h above = let again = above first (inl refl) in absurd (omega (arith, again))
first_true first (suc k) (false ∷ values) h above =
    first_true (suc first) k values (omega arith) (λ j i. let more = above j i in omega (arith, more))
    ∙ ap (λ n. n ∷ true_from (suc first) values) (omega arith)

pub set_first : (values : List Bool) (k : ℕ) → k < length values → ((j : ℕ) → IsIn j (true_places values) → k < j) → true_places (slice_set values k true) ≡ k ∷ true_places values
set_first values k h above =
    let same : 0 + k ≡ k = omega arith in
    first_true 0 k values h (λ j i. let more = above j i in omega (arith, more)) ∙ ap (λ n. n ∷ true_places values) same

-- ---- the numbers of a base, the last one first

in_at : (base : List ℕ) (at : ℕ) → at < length base → IsIn (get_or base at 0) base
in_at [] at h = absurd (omega arith)
in_at (b ∷ base) zero h = inl refl
in_at (b ∷ base) (suc at) h = inr (in_at base at (omega arith))

ascends_drop : (base : List ℕ) (at : ℕ) → ascends base ≡ true → ascends (drop at base) ≡ true
ascends_drop base zero h = h
ascends_drop [] (suc at) h = refl
ascends_drop (b ∷ base) (suc at) h = ascends_drop base at (ascends-tail b base h)

pub take_begun : (shown : ℕ → List ℕ) (text base : List ℕ) (values : List Bool) (count : ℕ) → values ≡ replicate count false
    → Takes shown text (drop (length base) base) text (true_places values)
take_begun shown text [] values count e = (refl, none_set values count e)
take_begun shown text (b ∷ base) values count e = take_begun shown text base values count e

-- the number before a place is one of the base
number_in : (base : List ℕ) (at : ℕ) → 0 < at → at ≤ length base → IsIn (get_or base (at - 1) 0) base
number_in base at some inside =
    let place : ℕ = at - 1 in
    let there : place < length base = omega (arith, some, inside) in
    in_at base place there

next_is : (base : List ℕ) (at : ℕ) → 0 < at → at ≤ length base → get_or base (at - 1) 0 ∷ drop at base ≡ drop (at - 1) base
next_is base at some inside =
    let place : ℕ = at - 1 in
    let there : place < length base = omega (arith, some, inside) in
    let next : suc place ≡ at = omega (arith, some) in
    sym (drop-cons base place 0 there ∙ ap (λ n. get_or base place 0 ∷ drop n base) next)

pub number_within : (base : List ℕ) (count at : ℕ) → list_all (λ n. nat_lt n count) base ≡ true → 0 < at → at ≤ length base → get_or base (at - 1) 0 < count
number_within base count at h some inside =
    ltb-true (get_or base (at - 1) 0) count (all_at (λ n. nat_lt n count) base (get_or base (at - 1) 0) h (number_in base at some inside))

-- a number more is taken, and one is passed over
pub take_more : (atoms : List GroundAtom) (base text left before : List ℕ) (values next : List Bool) (at : ℕ) (a : GroundAtom)
    → 0 < at → at ≤ length base → list_all (λ n. nat_lt n (length atoms)) base ≡ true → ascends base ≡ true → length values ≡ length atoms
    → a ≡ get_or atoms (get_or base (at - 1) 0) a → Takes (member_text atoms) text (drop at base) left (true_places values)
    → before ++ (codes ", " ++ ground_atom_text a) ≡ left → next ≡ slice_set values (get_or base (at - 1) 0) true
    → Takes (member_text atoms) text (drop (at - 1) base) before (true_places next)
take_more atoms base text left before values next at a some inside within up long is takes ends e =
    let k : ℕ = get_or base (at - 1) 0 in
    let rest : List ℕ = drop at base in
    let low : k < length atoms = number_within base (length atoms) at within some inside in
    let there : k < length values = omega (arith, low, long) in
    let ascending : ascends (k ∷ rest) ≡ true = ap ascends (next_is base at some inside) ∙ ascends_drop base (at - 1) up in
    let first : true_places next ≡ k ∷ true_places values =
    ap true_places e
    ∙ set_first values k there (λ j i. ascends-member k rest j ascending (subset-member rest (true_places values) j (taken_subset (member_text atoms) rest text left (true_places values) takes) i)) in
    let shown : before ++ member_text atoms k ≡ left = ap (λ l. before ++ l) (shown_is atoms k a low (sym is)) ∙ ends in
    subst (λ l. Takes (member_text atoms) text l before (true_places next)) (next_is base at some inside) (left, true_places values, takes, inl (shown, first))

pub take_past : (atoms : List GroundAtom) (base text left : List ℕ) (values : List Bool) (at : ℕ) (a : GroundAtom)
    → 0 < at → at ≤ length base → list_all (λ n. nat_lt n (length atoms)) base ≡ true → a ≡ get_or atoms (get_or base (at - 1) 0) a
    → Takes (member_text atoms) text (drop at base) left (true_places values) → ((before : List ℕ) → before ++ (codes ", " ++ ground_atom_text a) ≡ left → ⊥)
    → Takes (member_text atoms) text (drop (at - 1) base) left (true_places values)
take_past atoms base text left values at a some inside within is takes fails =
    let k : ℕ = get_or base (at - 1) 0 in
    let low : k < length atoms = number_within base (length atoms) at within some inside in
    subst (λ l. Takes (member_text atoms) text l left (true_places values)) (next_is base at some inside)
    (left, true_places values, takes, inr (λ before e. fails before (ap (λ l. before ++ l) (sym (shown_is atoms k a low (sym is))) ∙ e), refl, refl))

pub long_kept : (values next : List Bool) (k n : ℕ) → next ≡ slice_set values k true → length values ≡ n → length next ≡ n
long_kept values next k n e long = ap length e ∙ length-set values k true ∙ long

-- ---- what is left of a text

pub emptied : (left : List ℕ) (b : Bool) → b ≡ (length left == 0) → b ≡ true → left ≡ []
emptied [] b e h = refl
emptied (x ∷ left) b e h = let none = eqb-true (length (x ∷ left)) 0 (sym e ∙ h) in absurd (omega (arith, none))

pub filled : (left : List ℕ) (b : Bool) → b ≡ (length left == 0) → b ≡ false → left ≡ [] → ⊥
filled left b e h none = true_is_not_false b (e ∙ ap (λ (l : List ℕ). length l == 0) none) h

-- the empty text is that of the empty set
pub empty_inner : (bases : Bases) (text : List ℕ) (values : List Bool) (count : ℕ) → text ≡ [] → values ≡ replicate count false → Some (true_places values) ≡ inner_set bases text
empty_inner bases text values count none e = ap Some (none_set values count e) ∙ empty_read bases ∙ ap (inner_set bases) (sym none)

-- the set of what was taken off
pub taken_read : (bases : Bases) (atoms : List GroundAtom) (base text led left taken : List ℕ) → AreReadable bases → (text ≡ [] → ⊥) → atoms ≡ bases.atoms → base ≡ get_or bases.members 1 []
    → led ≡ codes ", " ++ text → Takes (member_text atoms) led base left taken → left ≡ [] → Some taken ≡ inner_set bases text
taken_read bases atoms base text led left taken h some e f is takes none =
    set_read bases text led left taken h some is
    (subst (λ (l : List GroundAtom). Takes (member_text l) led (get_or bases.members 1 []) left taken) e (subst (λ l. Takes (member_text atoms) led l left taken) f takes)) none

pub left_read : (bases : Bases) (atoms : List GroundAtom) (base text led left taken : List ℕ) → AreReadable bases → (text ≡ [] → ⊥) → atoms ≡ bases.atoms → base ≡ get_or bases.members 1 []
    → led ≡ codes ", " ++ text → Takes (member_text atoms) led base left taken → (left ≡ [] → ⊥) → None ≡ inner_set bases text
left_read bases atoms base text led left taken h some e f is takes more =
    none_read bases text led left taken h some is
    (subst (λ (l : List GroundAtom). Takes (member_text l) led (get_or bases.members 1 []) left taken) e (subst (λ l. Takes (member_text atoms) led l left taken) f takes)) more
