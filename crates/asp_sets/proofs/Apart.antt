-- Different atoms have different texts, and different sets of a base too.
use Rattle.std.proofs.Common.{ℕ, zero, suc, ◌≡◌, ◌<◌, refl, sym, ◌∙◌, ap, ap₂, subst, inl, inr, ◌⊎◌, Bool, true, false, not, List, [], ◌∷◌, ◌++◌, length, get_or, codes, append_assoc, append-nil, arith, Option, Some, None}
use Rattle.std.specs.Prelude.{◌==◌, bytes_eq, cond}
use Rattle.std.specs.Ordering.{is_lt}
use Rattle.std.specs.Option.{option_map_or, unwrap_or}
use Rattle.std.specs.List.{list_all, flat_map, filter_map, cons_option, join_by, slice_get, find}
use Rattle.std.proofs.lemmas.Bool.{eq-eqb, cases_lt}
use Rattle.std.proofs.lemmas.Cmp.{tied_itself}
use Rattle.std.proofs.lemmas.Option.{get_or_from_slice_get}
use Rattle.asp_defs.specs.declared.ground.Const.{Const}
use Rattle.asp_defs.specs.declared.ground.GroundAtom.{GroundAtom}
use Rattle.asp_defs.specs.declared.ground.Bases.{Bases}
use Rattle.asp_defs.specs.Lists.{IsIn}
use Rattle.asp_defs.specs.Interpretations.{subsets}
use Rattle.asp_defs.specs.Constants.{atom_cmp}
use Rattle.asp_defs.specs.Canonical.{applied_text}
use Rattle.asp_defs.specs.Sets.{const_text, ground_atom_text, atoms_of, set_text, set_of_text}
use Rattle.asp_defs.proofs.Lists.{both, true_or_false, all_at}
use Rattle.asp_defs.proofs.Subsets.{true_is_not_false, subset-member}
use Rattle.asp_atoms.specs.Ascending.{Ascends}
use Rattle.asp_atoms.proofs.Orders.{atom_lawful}
use Rattle.asp_atoms.proofs.Positions.{ascends_at}
use Rattle.asp_sets.specs.Readable.{AreReadable}
use Rattle.asp_sets.specs.Taking.{member_text, inner_text}
use Rattle.asp_sets.proofs.Ends.{head_same, tail_same, not_nil, cancel_left, cancel_right, two_cuts}
use Rattle.asp_sets.proofs.Taking.{IsShown, Begins, begins_each, uncut}
use Rattle.asp_sets.proofs.Reading.{atom_at, are_shown, shown_atoms}
use Rattle.asp_sets.proofs.Spelling.{lacks, is_word, spelled_const, word_lacks, const_lacks, const_same}
use Rattle.asp_sets.proofs.Vocabulary.{spelled_ground}
use lib.Pointwise.{bytes_decides}

-- ---- texts that are cut at a byte

has_byte : (c : ℕ) (bs : List ℕ) → lacks c (c ∷ bs) ≡ true → ⊥
has_byte c bs h =
    let same : (c == c) ≡ true = eq-eqb c c refl in
    true_is_not_false (not (c == c)) ((both (not (c == c)) (lacks c bs) h).0) (ap not same)

lacks_rest : (c b : ℕ) (bs : List ℕ) → lacks c (b ∷ bs) ≡ true → lacks c bs ≡ true
lacks_rest c b bs h = (both (not (b == c)) (lacks c bs) h).1

-- a text that lacks a byte isn't one that has it
no_cut : (c : ℕ) (xs ys bs : List ℕ) → lacks c xs ≡ true → xs ≡ ys ++ c ∷ bs → ⊥
no_cut c [] [] bs h e = not_nil c bs (sym e)
no_cut c [] (y ∷ ys) bs h e = not_nil y (ys ++ c ∷ bs) (sym e)
no_cut c (x ∷ xs) [] bs h e = has_byte c xs (subst (λ b. lacks c (b ∷ xs) ≡ true) (head_same x c xs bs e) h)
no_cut c (x ∷ xs) (y ∷ ys) bs h e = no_cut c xs ys bs (lacks_rest c x xs h) (tail_same x y xs (ys ++ c ∷ bs) e)

-- the first place of a byte cuts a text in one way
one_cut : (c : ℕ) (xs ys us vs : List ℕ) → lacks c xs ≡ true → lacks c ys ≡ true → xs ++ c ∷ us ≡ ys ++ c ∷ vs → (xs ≡ ys) × (us ≡ vs)
one_cut c [] [] us vs h g e = (refl, tail_same c c us vs e)
one_cut c [] (y ∷ ys) us vs h g e =
    absurd (has_byte c ys (subst (λ b. lacks c (b ∷ ys) ≡ true) (sym (head_same c y us (ys ++ c ∷ vs) e)) g))
one_cut c (x ∷ xs) [] us vs h g e =
    absurd (has_byte c xs (subst (λ b. lacks c (b ∷ xs) ≡ true) (head_same x c (xs ++ c ∷ us) vs e) h))
one_cut c (x ∷ xs) (y ∷ ys) us vs h g e =
    let rest = one_cut c xs ys us vs (lacks_rest c x xs h) (lacks_rest c y ys g) (tail_same x y (xs ++ c ∷ us) (ys ++ c ∷ vs) e) in
    (ap (λ b. b ∷ xs) (head_same x y (xs ++ c ∷ us) (ys ++ c ∷ vs) e) ∙ ap (λ l. y ∷ l) rest.0, rest.1)

-- ---- atoms

abbrev further : List Const → List ℕ
further args = flat_map (λ k. codes "," ++ const_text k) args

no_comma : (k : Const) → spelled_const k ≡ true → lacks 44 (const_text k) ≡ true
no_comma k h = const_lacks 44 (omega arith) refl k h

arguments_same : (k l : Const) (ks ls : List Const) → list_all spelled_const (k ∷ ks) ≡ true → list_all spelled_const (l ∷ ls) ≡ true
    → const_text k ++ further ks ≡ const_text l ++ further ls → k ∷ ks ≡ l ∷ ls
arguments_same k l [] [] h g e =
    ap (λ c. c ∷ []) (const_same k l (both (spelled_const k) true h).0 (both (spelled_const l) true g).0 (sym (append-nil (const_text k)) ∙ e ∙ append-nil (const_text l)))
arguments_same k l [] (m ∷ ls) h g e =
    absurd (no_cut 44 (const_text k) (const_text l) (const_text m ++ further ls) (no_comma k (both (spelled_const k) true h).0) (sym (append-nil (const_text k)) ∙ e))
arguments_same k l (m ∷ ks) [] h g e =
    absurd (no_cut 44 (const_text l) (const_text k) (const_text m ++ further ks) (no_comma l (both (spelled_const l) true g).0) (sym (append-nil (const_text l)) ∙ sym e))
arguments_same k l (m ∷ ks) (n ∷ ls) h g e =
    let one = both (spelled_const k) (list_all spelled_const (m ∷ ks)) h in
    let two = both (spelled_const l) (list_all spelled_const (n ∷ ls)) g in
    let cut = one_cut 44 (const_text k) (const_text l) (const_text m ++ further ks) (const_text n ++ further ls) (no_comma k one.0) (no_comma l two.0) e in
    ap (λ c. c ∷ m ∷ ks) (const_same k l one.0 two.0 cut.0) ∙ ap (λ cs. l ∷ cs) (arguments_same m n ks ls one.1 two.1 cut.1)

-- a name and arguments in parentheses, as a name, a parenthesis and what follows
abbrev inside : Const → List Const → List ℕ
inside k ks = (const_text k ++ further ks) ++ codes ")"

opened : (name : List ℕ) (k : Const) (ks : List Const) → applied_text const_text name (k ∷ ks) ≡ name ++ 40 ∷ inside k ks
opened name k ks =
    ap (λ l. l ++ codes ")") (append_assoc name (codes "(") (const_text k ++ further ks)) ∙ append_assoc name (codes "(" ++ (const_text k ++ further ks)) (codes ")")

applied_same : (m n : List ℕ) (ks ls : List Const) → is_word m ≡ true → is_word n ≡ true → list_all spelled_const ks ≡ true → list_all spelled_const ls ≡ true
    → applied_text const_text m ks ≡ applied_text const_text n ls → (m ≡ n) × (ks ≡ ls)
applied_same m n [] [] h g u v e = (e, refl)
applied_same m n [] (l ∷ ls) h g u v e = absurd (no_cut 40 m n (inside l ls) (word_lacks 40 refl m h) (e ∙ opened n l ls))
applied_same m n (k ∷ ks) [] h g u v e = absurd (no_cut 40 n m (inside k ks) (word_lacks 40 refl n g) (sym e ∙ opened m k ks))
applied_same m n (k ∷ ks) (l ∷ ls) h g u v e =
    let cut = one_cut 40 m n (inside k ks) (inside l ls) (word_lacks 40 refl m h) (word_lacks 40 refl n g) (sym (opened m k ks) ∙ e ∙ opened n l ls) in
    (cut.0, arguments_same k l ks ls u v (cancel_right (const_text k ++ further ks) (const_text l ++ further ls) (codes ")") cut.1))

atom_same : (a b : GroundAtom) → spelled_ground a ≡ true → spelled_ground b ≡ true → ground_atom_text a ≡ ground_atom_text b → a ≡ b
atom_same a b h g e =
    let one = both (is_word a.name) (list_all spelled_const a.args) h in
    let two = both (is_word b.name) (list_all spelled_const b.args) g in
    let same = applied_same a.name b.name a.args b.args one.0 two.0 one.1 two.1 e in
    ap₂ (λ (n : List ℕ) (l : List Const). record { name = n; args = l }) same.0 same.1

applied_some : (name : List ℕ) (args : List Const) → is_word name ≡ true → applied_text const_text name args ≡ [] → ⊥
applied_some [] args h e = absurd (cc)
applied_some (b ∷ bs) [] h e = not_nil b bs e
applied_some (b ∷ bs) (k ∷ ks) h e = not_nil b (bs ++ 40 ∷ inside k ks) (sym (opened (b ∷ bs) k ks) ∙ e)

atom_some : (a : GroundAtom) → spelled_ground a ≡ true → ground_atom_text a ≡ [] → ⊥
atom_some a h e = applied_some a.name a.args (both (is_word a.name) (list_all spelled_const a.args) h).0 e

-- ---- numbers

-- an ascending list has an atom at one place
one_place : (atoms : List GroundAtom) → Ascends atom_cmp atoms → (i j : ℕ) (a b : GroundAtom) → slice_get atoms i ≡ Some a → slice_get atoms j ≡ Some b → a ≡ b → i < j → j < length atoms → ⊥
one_place atoms up i j a b e f same low inside =
    let less = ascends_at atom_cmp atoms up i j a low inside in
    let first : get_or atoms i a ≡ a = get_or_from_slice_get atoms i a a e in
    let second : get_or atoms j a ≡ a = get_or_from_slice_get atoms j b a f ∙ sym same in
    let itself = sym (ap (λ x. atom_cmp x (get_or atoms j a)) first ∙ ap (atom_cmp a) second) ∙ less in
    true_is_not_false (is_lt (atom_cmp a a)) (ap is_lt itself) (ap is_lt (tied_itself atom_lawful.total a))

shown_at : (atoms : List GroundAtom) (k : ℕ) (a : GroundAtom) → slice_get atoms k ≡ Some a → member_text atoms k ≡ codes ", " ++ ground_atom_text a
shown_at atoms k a e = ap (λ (o : Option GroundAtom). option_map_or (λ b. codes ", " ++ ground_atom_text b) o []) e

abbrev pub AreApart : (ℕ → List ℕ) → List ℕ → Type 0
AreApart shown base = (i j : ℕ) → IsIn i base → IsIn j base → shown i ≡ shown j → i ≡ j

pub are_apart : (atoms : List GroundAtom) (base : List ℕ) → Ascends atom_cmp atoms → list_all spelled_ground atoms ≡ true → ((k : ℕ) → IsIn k base → k < length atoms) → AreApart (member_text atoms) base
are_apart atoms base up spelled within i j m n e =
    let (a, f, k) = atom_at atoms i (within i m) in
    let (b, g, l) = atom_at atoms j (within j n) in
    let texts : codes ", " ++ ground_atom_text a ≡ codes ", " ++ ground_atom_text b = sym (shown_at atoms i a f) ∙ e ∙ shown_at atoms j b g in
    let same : a ≡ b =
    atom_same a b (all_at spelled_ground atoms a spelled k) (all_at spelled_ground atoms b spelled l) (cancel_left (codes ", ") (ground_atom_text a) (ground_atom_text b) texts) in
    elim (cases_lt i j) [
      | inl low ↦ absurd (one_place atoms up i j a b f g same low (within j n))
      | inr le ↦ elim (cases_lt j i) [
        | inl low ↦ absurd (one_place atoms up j i b a g f (sym same) low (within i m))
        | inr ge ↦ omega (arith, le, ge)
      ]
    ]

-- ---- sets

front_empty : (xs ys : List ℕ) → xs ++ ys ≡ [] → xs ≡ []
front_empty [] ys e = refl
front_empty (x ∷ xs) ys e = absurd (not_nil x (xs ++ ys) e)

in_atoms : (atoms : List GroundAtom) (k : ℕ) (a : GroundAtom) → slice_get atoms k ≡ Some a → IsIn a atoms
in_atoms [] k a e = absurd (cc)
in_atoms (b ∷ atoms) zero a e = inl (sym (ap (λ o. unwrap_or o b) e))
in_atoms (b ∷ atoms) (suc k) a e = inr (in_atoms atoms k a e)

shown_some : (text : List ℕ) → IsShown text → text ≡ [] → ⊥
shown_some text h e = not_nil 44 (32 ∷ h.name) (sym h.is ∙ e)

sets_same : (shown : ℕ → List ℕ) (I J : List ℕ) → ((k : ℕ) → IsIn k I → IsShown (shown k)) → ((k : ℕ) → IsIn k J → IsShown (shown k))
    → ((i j : ℕ) → IsIn i I → IsIn j J → shown i ≡ shown j → i ≡ j) → flat_map shown I ≡ flat_map shown J → I ≡ J
sets_same shown [] [] h g apart e = refl
sets_same shown [] (j ∷ J) h g apart e =
    let first = g j (inl refl) in absurd (not_nil 44 (32 ∷ (first.name ++ flat_map shown J)) (sym (ap (λ l. l ++ flat_map shown J) first.is) ∙ sym e))
sets_same shown (i ∷ I) [] h g apart e =
    let first = h i (inl refl) in absurd (not_nil 44 (32 ∷ (first.name ++ flat_map shown I)) (sym (ap (λ l. l ++ flat_map shown I) first.is) ∙ e))
sets_same shown (i ∷ I) (j ∷ J) h g apart e = go (two_cuts (shown i) (flat_map shown I) (shown j) (flat_map shown J) e)
    (sets_same shown I J (λ k m. h k (inr m)) (λ k m. g k (inr m)) (λ k l m n. apart k l (inr m) (inr n)))
  where
    one : Begins (flat_map shown I)
    one = begins_each shown I (λ k m. h k (inr m))

    two : Begins (flat_map shown J)
    two = begins_each shown J (λ k m. g k (inr m))

    both_same : shown i ≡ shown j → flat_map shown I ≡ flat_map shown J → (flat_map shown I ≡ flat_map shown J → I ≡ J) → i ∷ I ≡ j ∷ J
    both_same first rest more = ap (λ k. k ∷ I) (apart i j (inl refl) (inl refl) first) ∙ ap (λ l. j ∷ l) (more rest)

    go : ((w : List ℕ) × (shown i ≡ shown j ++ w) × (w ++ flat_map shown I ≡ flat_map shown J)) ⊎ ((w : List ℕ) × (shown j ≡ shown i ++ w) × (flat_map shown I ≡ w ++ flat_map shown J))
        → (flat_map shown I ≡ flat_map shown J → I ≡ J) → i ∷ I ≡ j ∷ J
    go (inl (w, f, k)) more = elim (uncut (shown j) w (shown i) (flat_map shown I) (flat_map shown J) (h i (inl refl)) (sym f) one two k) [
      | inl none ↦ absurd (shown_some (shown j) (g j (inl refl)) none)
      | inr none ↦ both_same (f ∙ ap (λ l. shown j ++ l) none ∙ append-nil (shown j)) (ap (λ l. l ++ flat_map shown I) (sym none) ∙ k) more
    ]
    go (inr (w, f, k)) more = elim (uncut (shown i) w (shown j) (flat_map shown J) (flat_map shown I) (g j (inl refl)) (sym f) two one (sym k)) [
      | inl none ↦ absurd (shown_some (shown i) (h i (inl refl)) none)
      | inr none ↦ both_same (sym (f ∙ ap (λ l. shown i ++ l) none ∙ append-nil (shown i))) (k ∙ ap (λ l. l ++ flat_map shown J) none) more
    ]

-- atoms of one text in a row are shown as one text
joined_same : (xs ys : List GroundAtom) → ((a : GroundAtom) → IsIn a xs → ground_atom_text a ≡ [] → ⊥) → ((a : GroundAtom) → IsIn a ys → ground_atom_text a ≡ [] → ⊥)
    → join_by ground_atom_text (codes ", ") xs ≡ join_by ground_atom_text (codes ", ") ys
    → flat_map (λ a. codes ", " ++ ground_atom_text a) xs ≡ flat_map (λ a. codes ", " ++ ground_atom_text a) ys
joined_same [] [] h g e = refl
joined_same [] (y ∷ ys) h g e = absurd (g y (inl refl) (front_empty (ground_atom_text y) (flat_map (λ a. codes ", " ++ ground_atom_text a) ys) (sym e)))
joined_same (x ∷ xs) [] h g e = absurd (h x (inl refl) (front_empty (ground_atom_text x) (flat_map (λ a. codes ", " ++ ground_atom_text a) xs) e))
joined_same (x ∷ xs) (y ∷ ys) h g e = ap (λ l. codes ", " ++ l) e

member_atom : (atoms : List GroundAtom) (I : List ℕ) (a : GroundAtom) → IsIn a (filter_map (slice_get atoms) I) → IsIn a atoms
member_atom atoms [] a i = absurd i
member_atom atoms (k ∷ I) a i = go (slice_get atoms k) (in_atoms atoms k) i (member_atom atoms I a)
  where
    go : (o : Option GroundAtom) → ((x : GroundAtom) → o ≡ Some x → IsIn x atoms) → IsIn a (cons_option o (filter_map (slice_get atoms) I))
        → (IsIn a (filter_map (slice_get atoms) I) → IsIn a atoms) → IsIn a atoms
    go None here j more = more j
    go (Some x) here (inl e) more = here a (ap Some (sym e))
    go (Some x) here (inr j) more = more j

-- a set of a readable base is the only one of its text
find_only : {A : Type 0} (p : A → Bool) (xs : List A) (x : A) → IsIn x xs → p x ≡ true → ((y : A) → IsIn y xs → p y ≡ true → y ≡ x) → find p xs ≡ Some x
find_only p [] x i h only = absurd i
find_only {A} p (y ∷ ys) x i h only = elim (true_or_false (p y)) [
  | inl e ↦ ap (λ b. cond b (Some y) (find p ys)) e ∙ ap Some (only y (inl refl) e)
  | inr e ↦ ap (λ b. cond b (Some y) (find p ys)) e ∙ find_only p ys x (later e i) h (λ z j. only z (inr j))
]
  where
    later : p y ≡ false → (x ≡ y) ⊎ IsIn x ys → IsIn x ys
    later e (inl same) = absurd (true_is_not_false (p y) (sym (ap p same) ∙ h) e)
    later e (inr j) = j

pub read_again : (bases : Bases) → AreReadable bases → Ascends atom_cmp bases.atoms → list_all spelled_ground bases.atoms ≡ true → ((k : ℕ) → IsIn k (get_or bases.members 1 []) → k < length bases.atoms)
    → (I : List ℕ) → IsIn I (subsets (get_or bases.members 1 [])) → set_of_text bases (set_text bases I) ≡ Some I
read_again bases h up spelled within I i =
    find_only (λ J. bytes_eq (set_text bases I) (set_text bases J)) (subsets base) I i ((bytes_decides (set_text bases I) (set_text bases I)).1 refl) (λ J j e.
    let texts : inner_text bases I ≡ inner_text bases J =
    cancel_left (codes "{") (inner_text bases I) (inner_text bases J)
    (cancel_right (codes "{" ++ inner_text bases I) (codes "{" ++ inner_text bases J) (codes "}") ((bytes_decides (set_text bases I) (set_text bases J)).0 e)) in
    let shown : flat_map (member_text bases.atoms) I ≡ flat_map (member_text bases.atoms) J =
    shown_atoms bases.atoms I ∙ joined_same (atoms_of bases I) (atoms_of bases J) (some I) (some J) texts ∙ sym (shown_atoms bases.atoms J) in
    sym (sets_same (member_text bases.atoms) I J (λ k m. are_shown bases h k (subset-member base I k i m)) (λ k m. are_shown bases h k (subset-member base J k j m))
    (λ k l m n. are_apart bases.atoms base up spelled within k l (subset-member base I k i m) (subset-member base J l j n)) shown))
  where
    base : List ℕ
    base = get_or bases.members 1 []

    some : (K : List ℕ) (a : GroundAtom) → IsIn a (atoms_of bases K) → ground_atom_text a ≡ [] → ⊥
    some K a m = atom_some a (all_at spelled_ground bases.atoms a spelled (member_atom bases.atoms K a m))
