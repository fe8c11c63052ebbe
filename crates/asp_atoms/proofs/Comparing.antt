-- Lists that are compared from the left, and the test that atoms ascend.
use Rattle.std.proofs.Common.{ℕ, ◌≡◌, ◌<◌, ◌≤◌, refl, ◌∙◌, ap, true, List, [], ◌∷◌, length, drop, arith}
use Rattle.std.specs.Ordering.{is_lt}
use Rattle.std.specs.declared.cmp.Ordering.{Ordering}
use Rattle.std.specs.declared.cmp.Ordering.TheVariants.{Less, Equal, Greater}
use Rattle.std.specs.Cmp.Lexicographic.{slice_cmp}
use Rattle.std.proofs.lemmas.List.{drop_more, drop_all}
use Rattle.asp_defs.specs.declared.ground.GroundAtom.{GroundAtom}
use Rattle.asp_defs.specs.Constants.{atom_cmp}
use Rattle.asp_defs.specs.Games.{atoms_ascend}
use Rattle.asp_defs.proofs.Lists.{both, and_true}
use Rattle.asp_atoms.specs.Ascending.{Ascends}
use Rattle.asp_atoms.proofs.Orders.{atom_lawful}
use Rattle.asp_atoms.proofs.Ascending.{above_at, above_from}

pub compared_shorter : {A : Type 0} (R : A → A → Ordering) (xs ys : List A) (k : ℕ) → length xs ≤ k → k < length ys → slice_cmp R (drop k xs) (drop k ys) ≡ Less
compared_shorter R xs [] k h g = absurd (omega arith)
compared_shorter R xs (y ∷ ys) k h g =
    ap (λ l. slice_cmp R l (drop k (y ∷ ys))) (drop_all k xs h) ∙ ap (slice_cmp R []) (drop_more (y ∷ ys) k y g)

-- ---- the test that atoms ascend

is_less : (o : Ordering) → is_lt o ≡ true → o ≡ Less
is_less Less e = refl
is_less Equal e = absurd (cc)
is_less Greater e = absurd (cc)

ascends_on : (a : GroundAtom) (more : List GroundAtom) → atoms_ascend (a ∷ more) ≡ true → Ascends atom_cmp (a ∷ more)
ascends_on a [] h = (tt, tt)
ascends_on a (b ∷ more) h =
    let parts = both (is_lt (atom_cmp a b)) (atoms_ascend (b ∷ more)) h in
    let less = is_less (atom_cmp a b) parts.0 in
    let rest = ascends_on b more parts.1 in
    ((less, above_from atom_cmp a more (λ z i. atom_lawful.total.trans a b z less (above_at atom_cmp b more rest.0 z i))), rest)

pub ascends_by_test : (atoms : List GroundAtom) → atoms_ascend atoms ≡ true → Ascends atom_cmp atoms
ascends_by_test [] h = tt
ascends_by_test (a ∷ more) h = ascends_on a more h

test_on : (a : GroundAtom) (more : List GroundAtom) → Ascends atom_cmp (a ∷ more) → atoms_ascend (a ∷ more) ≡ true
test_on a [] up = refl
test_on a (b ∷ more) up = and_true (is_lt (atom_cmp a b)) (atoms_ascend (b ∷ more)) (ap is_lt up.0.0) (test_on b more up.1)

pub test_by_ascends : (atoms : List GroundAtom) → Ascends atom_cmp atoms → atoms_ascend atoms ≡ true
test_by_ascends [] up = refl
test_by_ascends (a ∷ more) up = test_on a more up
