-- The literals of the atoms at true places: one place after another, their order, and what they hold.
use Rattle.std.proofs.Common.{◌≡◌, refl, sym, ap, ◌∙◌, ℕ, suc, ◌+◌, ◌<◌, Bool, true, false, not, cond, List, [], ◌∷◌, ◌++◌, length, map, take, Some, append-nil, arith}
use Rattle.std.specs.List.{slice_get}
use Rattle.std.proofs.lemmas.List.{map-append, take_more, length-take-le}
use Rattle.std.proofs.lemmas.Option.{get_or_from_slice_get}
use Rattle.asp_bits.specs.Places.{true_from, true_places}
use Rattle.asp_reduct.proofs.Truths.{holds-read, ascends-true_from}
use Rattle.asp_defs.specs.declared.ground.Lit.{Lit}
use Rattle.asp_defs.specs.Interpretations.{holds}
use Rattle.asp_defs.specs.Games.{ascends}
use Rattle.asp_defs.specs.Entries.{lit_true, cube_holds}
use Rattle.asp_defs.proofs.Lists.{and_true, all_at, map_from}
use Rattle.asp_defs.proofs.Subsets.{holds_at}
use Rattle.asp_entry.specs.Cubes.{lits_ascend, literal_in}

-- one more place
pub true_from-more : (first : ℕ) (values : List Bool) (x : Bool) → true_from first (values ++ x ∷ []) ≡ true_from first values ++ cond x ((first + length values) ∷ []) []
true_from-more first [] true = ap (λ k. k ∷ []) (omega arith)
true_from-more first [] false = refl
true_from-more first (true ∷ values) x =
    ap (λ xs. first ∷ xs) (true_from-more (suc first) values x ∙ ap (λ k. true_from (suc first) values ++ cond x (k ∷ []) []) (omega arith))
true_from-more first (false ∷ values) x =
    true_from-more (suc first) values x ∙ ap (λ k. true_from (suc first) values ++ cond x (k ∷ []) []) (omega arith)

abbrev pub literals : List ℕ → List Bool → List Lit
literals I values = map (literal_in I) (true_places values)

-- a literal by its parts
abbrev lit_of : ℕ → Bool → Lit
lit_of a v = record { atom = a; positive = v }

mapped : (I : List ℕ) (k : ℕ) (x : Bool) → map (literal_in I) (cond x (k ∷ []) []) ≡ cond x (literal_in I k ∷ []) []
mapped I k true = refl
mapped I k false = refl

literals-step : (I : List ℕ) (values : List Bool) (k : ℕ) (x : Bool) → k < length values → slice_get values k ≡ Some x
    → literals I (take (k + 1) values) ≡ literals I (take k values) ++ cond x (literal_in I k ∷ []) []
literals-step I values k x h read =
    ap (literals I) (take_more values k false h ∙ ap (λ b. take k values ++ b ∷ []) (get_or_from_slice_get values k x false read))
    ∙ (ap (map (literal_in I)) (true_from-more 0 (take k values) x
    ∙ ap (λ n. true_places (take k values) ++ cond x (n ∷ []) []) (omega (arith, length-take-le k values (omega (arith, h)))))
    ∙ (map-append (literal_in I) (true_places (take k values)) (cond x (k ∷ []) [])
    ∙ ap (λ ls. literals I (take k values) ++ ls) (mapped I k x)))

-- the literal of a place was added, or the place is false
pub literal_added : (set values : List Bool) (k : ℕ) (v : Bool) (items : List Lit) → k < length values → slice_get values k ≡ Some true → slice_get set k ≡ Some v
    → items ≡ literals (true_places set) (take k values) → items ++ lit_of k v ∷ [] ≡ literals (true_places set) (take (k + 1) values)
literal_added set values k v items h read truth items_are =
    ap (λ ls. ls ++ lit_of k v ∷ []) items_are
    ∙ (ap (λ b. literals (true_places set) (take k values) ++ lit_of k b ∷ []) (sym (holds-read set k v truth))
    ∙ sym (literals-step (true_places set) values k true h read))

pub literal_left_out : (set values : List Bool) (k : ℕ) (items : List Lit) → k < length values → slice_get values k ≡ Some false
    → items ≡ literals (true_places set) (take k values) → items ≡ literals (true_places set) (take (k + 1) values)
literal_left_out set values k items h read items_are =
    items_are ∙ (sym (append-nil (literals (true_places set) (take k values))) ∙ sym (literals-step (true_places set) values k false h read))

-- ---- what they hold

true_alike : (p : Bool) → cond p p (not p) ≡ true
true_alike true = refl
true_alike false = refl

alike : (p m : Bool) → cond p m (not m) ≡ true → m ≡ p
alike true m h = h
alike false true h = absurd (cc)
alike false false h = refl

pub literals-held : (I C : List ℕ) → cube_holds (map (literal_in I) C) I ≡ true
literals-held I [] = refl
literals-held I (a ∷ C) = and_true (lit_true I (literal_in I a)) (cube_holds (map (literal_in I) C) I) (true_alike (holds I a)) (literals-held I C)

pub literals-agree : (I C M : List ℕ) → cube_holds (map (literal_in I) C) M ≡ true → (a : ℕ) → holds C a ≡ true → holds M a ≡ holds I a
literals-agree I C M h a i =
    alike (holds I a) (holds M a)
    (all_at (lit_true M) (map (literal_in I) C) (literal_in I a) h (map_from (literal_in I) C a (holds_at C a i)))

-- the literals' atoms ascend
atoms-of : (I C : List ℕ) → map (λ (l : Lit). l.atom) (map (literal_in I) C) ≡ C
atoms-of I [] = refl
atoms-of I (a ∷ C) = ap (λ xs. a ∷ xs) (atoms-of I C)

pub literals-ascend : (I : List ℕ) (values : List Bool) (lits : List Lit) → lits ≡ map (literal_in I) (true_places values) → lits_ascend lits ≡ true
literals-ascend I values lits lits_are =
    ap lits_ascend lits_are ∙ (ap ascends (atoms-of I (true_places values)) ∙ ascends-true_from 0 values)
