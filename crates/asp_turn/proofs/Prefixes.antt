-- Lists that begin one story.
use Rattle.std.proofs.Common.{◌≡◌, ◌≤◌, Bool, true, false, List, [], ◌∷◌, ◌++◌, length, nat_lt, if◌then◌else◌, refl, ap, sym, ◌∙◌, arith, append_assoc}
use Rattle.std.proofs.lemmas.Bool.Decides.{nat_tests}
use mathlib.Core.List.{IsPrefix}
use Rattle.asp_turn.specs.Steps.{longer, shorter}

module _ {A : Type 0} where
  pub prefix_self : (xs : List A) → IsPrefix xs xs
  prefix_self [] = ([], refl)
  prefix_self (x ∷ xs) = let rest = prefix_self xs in (rest.0, ap (λ (ys : List A). x ∷ ys) rest.1)

  pub prefix_trans : (xs ys zs : List A) → IsPrefix xs ys → IsPrefix ys zs → IsPrefix xs zs
  prefix_trans xs ys zs p q = (p.0 ++ q.0, sym (append_assoc xs p.0 q.0) ∙ (ap (λ (ws : List A). ws ++ q.0) p.1 ∙ q.1))

  -- two lists begin one story: the shorter begins the other
  pub prefix_shorter : (xs ys zs : List A) → IsPrefix xs zs → IsPrefix ys zs → length xs ≤ length ys → IsPrefix xs ys
  prefix_shorter [] ys zs p q le = (ys, refl)
  prefix_shorter (x ∷ xs) [] zs p q le = absurd (omega arith)
  prefix_shorter (x ∷ xs) (y ∷ ys) [] p q le = absurd (cc (p.1))
  prefix_shorter (x ∷ xs) (y ∷ ys) (z ∷ zs) p q le =
      let rest = prefix_shorter xs ys zs (p.0, cc (p.1)) (q.0, cc (q.1)) (omega arith) in
      let heads : x ≡ y = cc (p.1, q.1) in (rest.0, cc (heads, rest.1))

  either_of : (P : List A → Type 0) (b : Bool) (xs ys : List A) → P xs → P ys → P (if b then xs else ys)
  either_of P true xs ys p q = p
  either_of P false xs ys p q = q

  pub prefix_of_longer : (xs ys zs : List A) → IsPrefix xs zs → IsPrefix ys zs → IsPrefix (longer xs ys) zs
  prefix_of_longer xs ys zs p q = either_of (λ (ws : List A). IsPrefix ws zs) (nat_lt (length xs) (length ys)) ys xs q p

  pub prefix_of_shorter : (xs ys zs : List A) → IsPrefix xs zs → IsPrefix ys zs → IsPrefix (shorter xs ys) zs
  prefix_of_shorter xs ys zs p q = either_of (λ (ws : List A). IsPrefix ws zs) (nat_lt (length xs) (length ys)) xs ys p q

  begins_by : (b : Bool) (xs ys : List A) → IsPrefix (if b then xs else ys) (if b then ys else xs) → IsPrefix xs (if b then ys else xs) × IsPrefix ys (if b then ys else xs)
  begins_by true xs ys p = (p, prefix_self ys)
  begins_by false xs ys p = (prefix_self xs, p)

  -- where the shorter of two lists begins the longer, both do
  pub both_begin : (xs ys : List A) → IsPrefix (shorter xs ys) (longer xs ys) → IsPrefix xs (longer xs ys) × IsPrefix ys (longer xs ys)
  both_begin xs ys p = begins_by (nat_lt (length xs) (length ys)) xs ys p

  shorter_by : (b : Bool) (xs ys : List A) → nat_lt (length xs) (length ys) ≡ b → length (if b then xs else ys) ≤ length (if b then ys else xs)
  shorter_by true xs ys e = grind (arith, nat_tests)
  shorter_by false xs ys e = grind (arith, nat_tests)

  pub shorter_is : (xs ys : List A) → length (shorter xs ys) ≤ length (longer xs ys)
  shorter_is xs ys = shorter_by (nat_lt (length xs) (length ys)) xs ys refl
