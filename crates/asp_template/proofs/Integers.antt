-- Integers of 32 bits, and intervals of integers.
use Rattle.std.proofs.Common.{ℕ, ℤ, ◌≡◌, ◌+◌, refl, sym, ◌∙◌, ap, subst, List, [], ◌∷◌, ◌++◌, map}
use Rattle.std.specs.Prelude.{pos, ◌+ℤ◌}
use Rattle.std.proofs.lemmas.Int.{to_z-of_z}
use mir.Syntax.{w32}
use mir.Val.{SFits, of_z, to_z}
use Rattle.asp_atoms.proofs.Integers.{integers_more}
use Rattle.asp_defs.specs.Constants.{integers_from}

-- an integer that is passed is the same one
pub passed : {X : Type 0} (f : ℤ → X) (x : ℤ) (r : X) → SFits w32 x → r ≡ f (to_z w32 (of_z w32 x)) → r ≡ f x
passed f x r fits e = e ∙ ap f (to_z-of_z w32 x fits)

-- what is said of an integer that is passed, and of two
pub told : (P : ℤ → Type 0) (x : ℤ) → SFits w32 x → P (to_z w32 (of_z w32 x)) → P x
told P x fits h = subst P (to_z-of_z w32 x fits) h

pub told_both : (P : ℤ → ℤ → Type 0) (x y : ℤ) → SFits w32 x → SFits w32 y → P (to_z w32 (of_z w32 x)) (to_z w32 (of_z w32 y)) → P x y
told_both P x y first second h =
    told (P x) y second (told (λ z. P z (to_z w32 (of_z w32 y))) x first h)

-- a list of what integers give, with one more
pub integers_step : {X : Type 0} (f : ℤ → X) (low : ℤ) (step : ℕ) (now next : List X) (x : X) → now ≡ map f (integers_from low step) → next ≡ now ++ x ∷ [] → x ≡ f (low +ℤ pos step) → next ≡ map f (integers_from low (step + 1))
integers_step f low step now next x so_far added is =
    added
    ∙ (ap (λ ys. ys ++ x ∷ []) so_far
    ∙ (ap (λ y. map f (integers_from low step) ++ y ∷ []) is
    ∙ sym (ap (map f) (integers_more low step) ∙ map_push (integers_from low step))))
  where
    map_push : (ys : List ℤ) → map f (ys ++ (low +ℤ pos step) ∷ []) ≡ map f ys ++ f (low +ℤ pos step) ∷ []
    map_push [] = refl
    map_push (y ∷ ys) = ap (λ zs. f y ∷ zs) (map_push ys)
