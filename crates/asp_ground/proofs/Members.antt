-- How long ascending lists are by their members, and the members of a list's front.
use Rattle.std.proofs.Common.{ℕ, ◌≡◌, ◌≤◌, zero, suc, refl, sym, ◌∙◌, subst, inl, inr, List, [], ◌∷◌, take, length, arith}
use Rattle.std.specs.declared.cmp.Ordering.{Ordering}
use Rattle.std.specs.declared.cmp.Ordering.TheVariants.{Less}
use Rattle.asp_defs.specs.Lists.{IsIn}
use Rattle.asp_atoms.specs.Ascending.{AllAbove, Ascends}
use Rattle.asp_atoms.proofs.Orders.{IsLawful}
use Rattle.asp_atoms.proofs.Ascending.{above_at, never_back}

pub in_take : {A : Type 0} (n : ℕ) (xs : List A) (x : A) → IsIn x (take n xs) → IsIn x xs
in_take zero xs x i = absurd i
in_take (suc n) [] x i = absurd i
in_take (suc n) (y ∷ ys) x (inl e) = inl e
in_take (suc n) (y ∷ ys) x (inr i) = inr (in_take n ys x i)

module _ {A : Type 0} {R : A → A → Ordering} (law : IsLawful R) where
  -- what is above a value stands behind it in a list that begins with it
  behind : (x y : A) (xs ys : List A) → AllAbove R x xs → x ≡ y → (z : A) → IsIn z xs → IsIn z (y ∷ ys) → IsIn z ys
  behind x y xs ys above e z i (inl same) =
      let less : R x x ≡ Less = subst (λ w. R x w ≡ Less) (same ∙ sym e) (above_at R x xs above z i) in
      never_back law x x less less
  behind x y xs ys above e z i (inr j) = j

  -- the same where the first value stands behind that list's first one
  later : (x y : A) (xs ys : List A) → AllAbove R x xs → AllAbove R y ys → IsIn x ys → (z : A) → IsIn z (x ∷ xs) → IsIn z (y ∷ ys) → IsIn z ys
  later x y xs ys above higher i z (inl same) j = subst (λ w. IsIn w ys) (sym same) i
  later x y xs ys above higher i z (inr j) (inl same) =
      never_back law x y (subst (λ w. R x w ≡ Less) same (above_at R x xs above z j)) (above_at R y ys higher x i)
  later x y xs ys above higher i z (inr j) (inr k) = k

  pub few_ascending : (xs ys : List A) → Ascends R xs → Ascends R ys → ((z : A) → IsIn z xs → IsIn z ys) → length xs ≤ length ys
  few_ascending [] ys up rise f = omega arith
  few_ascending (x ∷ xs) [] up rise f = absurd (f x (inl refl))
  few_ascending (x ∷ xs) (y ∷ ys) up rise f = elim (f x (inl refl)) [
    | inl e ↦
        let rest : length xs ≤ length ys = few_ascending xs ys up.1 rise.1 (λ z i. behind x y xs ys up.0 e z i (f z (inr i))) in
        omega (arith, rest)
    | inr i ↦
        let rest : length (x ∷ xs) ≤ length ys = few_ascending (x ∷ xs) ys up rise.1 (λ z j. later x y xs ys up.0 rise.0 i z j (f z j)) in
        omega (arith, rest)
  ]
