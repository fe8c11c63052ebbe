-- Lists of atoms and the masks that stand for them.
use Rattle.std.proofs.Common.{◌≡◌, ◌^◌, ℕ, Bool, true, ◌&&◌, List, [], ◌∷◌, ◌++◌, map, refl, sym, ap, ◌∙◌}
use Rattle.std.specs.List.{filter, fold}
use Rattle.std.specs.Int.RustNames.{bit_or}
use Rattle.std.proofs.lemmas.Bool.{and_parts, and_from}
use Rattle.std.proofs.lemmas.List.{map-append}
use Rattle.asp_defs.specs.Lists.{IsIn}
use Rattle.asp_defs.specs.Interpretations.{holds, subsets}
use Rattle.asp_defs.proofs.Lists.{filter_at, filter_from}
use Rattle.asp_defs.proofs.Subsets.{holds_at, holds_from, subset-holds, filter-subset}
use Rattle.asp_plain.specs.Masks.{with_atom, mask_of, candidates}
use Rattle.asp_plain.proofs.Atoms.{bit, same_test, bit-mask_of}

-- a list is a subset of a base, and its members are the bits of a mask
pub record Stands (B I : List ℕ) (m : ℕ) : Type 0 where
  pub inside : IsIn I (subsets B)
  pub marks : (a : ℕ) → holds I a ≡ bit m a

-- each subset is stood for by its own mask
pub stands-mask_of : (B I : List ℕ) → IsIn I (subsets B) → Stands B I (mask_of I)
stands-mask_of B I inside = record { inside = inside; marks = λ a. sym (bit-mask_of I a) }

-- the members of a filtered list
pub holds-filter : (p : ℕ → Bool) (B : List ℕ) (a : ℕ) → holds (filter p B) a ≡ (holds B a && p a)
holds-filter p B a =
    same_test (holds (filter p B) a) (holds B a && p a)
    (λ h.
    let kept = filter_at p B a (holds_at (filter p B) a h) in
    and_from (holds B a) (p a) (holds_from B a kept.0) kept.1)
    (λ h.
    let parts = and_parts (holds B a) (p a) h in
    holds_from (filter p B) a (filter_from p B a (holds_at B a parts.0) parts.1))

-- a mask whose bits are members of a base stands for the base's members among them
pub stands-filter : (B : List ℕ) (m : ℕ) → ((a : ℕ) → bit m a ≡ true → holds B a ≡ true) → Stands B (filter (bit m) B) m
stands-filter B m within = record {
  inside = filter-subset (bit m) B;
  marks = λ a.
      holds-filter (bit m) B a
      ∙ same_test (holds B a && bit m a) (bit m a)
      (λ h. (and_parts (holds B a) (bit m a) h).1)
      (λ h. and_from (holds B a) (bit m a) (within a h) h);
}

-- the bits of a mask that stands for a subset are members of the base
pub stands-within : (B I : List ℕ) (m a : ℕ) → Stands B I m → bit m a ≡ true → holds B a ≡ true
stands-within B I m a stands h = subset-holds B I a stands.inside (stands.marks a ∙ h)

-- two maps in a row
pub map-map : {X Y Z : Type 0} (f : Y → Z) (g : X → Y) (xs : List X) → map f (map g xs) ≡ map (λ x. f (g x)) xs
map-map f g [] = refl
map-map f g (x ∷ xs) = ap (λ ys. f (g x) ∷ ys) (map-map f g xs)

-- the subsets of a list of bits are the bits of the subsets
pub subsets-map : (f : ℕ → ℕ) (B : List ℕ) → subsets (map f B) ≡ map (map f) (subsets B)
subsets-map f [] = refl
subsets-map f (a ∷ B) =
    ap (λ sets. sets ++ map (λ J. f a ∷ J) sets) (subsets-map f B)
    ∙ ap (λ sets. map (map f) (subsets B) ++ sets)
    (map-map (λ J. f a ∷ J) (map f) (subsets B) ∙ sym (map-map (map f) (λ J. a ∷ J) (subsets B)))
    ∙ sym (map-append (map f) (subsets B) (map (λ J. a ∷ J) (subsets B)))

fold-bits : (xs : List ℕ) (m : ℕ) → fold bit_or m (map (λ a. 2 ^ a) xs) ≡ fold with_atom m xs
fold-bits [] m = refl
fold-bits (x ∷ xs) m = fold-bits xs (with_atom m x)

map-same : {X Y : Type 0} (f g : X → Y) (xs : List X) → ((x : X) → f x ≡ g x) → map f xs ≡ map g xs
map-same f g [] h = refl
map-same f g (x ∷ xs) h = ap (λ y. y ∷ map f xs) (h x) ∙ ap (λ ys. g x ∷ ys) (map-same f g xs h)

-- the candidates over the bits of some atoms: the set with the atoms of each subset
pub candidates-atoms : (m : ℕ) (own : List ℕ)
    → candidates m (map (λ a. 2 ^ a) own) ≡ map (fold with_atom m) (subsets own)
candidates-atoms m own =
    ap (map (fold bit_or m)) (subsets-map (λ a. 2 ^ a) own)
    ∙ map-map (fold bit_or m) (map (λ a. 2 ^ a)) (subsets own)
    ∙ map-same (λ K. fold bit_or m (map (λ a. 2 ^ a) K)) (fold with_atom m) (subsets own) (λ K. fold-bits K m)
