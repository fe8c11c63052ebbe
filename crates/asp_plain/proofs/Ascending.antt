-- Ascending lists of atoms.
use Rattle.std.proofs.Common.{◌≡◌, ◌<◌, ℕ, true, eqb, List, [], ◌∷◌, refl, sym, ap, ◌∙◌, inl, inr, arith}
use Rattle.std.proofs.lemmas.Bool.{cases_order, both_ways, eq-eqb, eqb-true, or_left, or_right, or_cases}
use Rattle.asp_defs.specs.Interpretations.{holds}
use Rattle.asp_defs.specs.Games.{ascends}
use Rattle.asp_defs.proofs.Subsets.{holds_at, ascends-tail, ascends-member}
use Rattle.asp_plain.proofs.Atoms.{same_test}

-- two ascending lists with the same members are the same
pub same_ascending : (I J : List ℕ) → ascends I ≡ true → ascends J ≡ true → ((a : ℕ) → holds I a ≡ holds J a) → I ≡ J
same_ascending [] [] up down same = refl
same_ascending [] (b ∷ J) up down same = absurd (both_ways (holds [] b) refl (same b ∙ or_left (eqb b b) (holds J b) (eq-eqb b b refl)))
same_ascending (a ∷ I) [] up down same =
    absurd (both_ways (holds [] a) refl (sym (same a) ∙ or_left (eqb a a) (holds I a) (eq-eqb a a refl)))
same_ascending (a ∷ I) (b ∷ J) up down same = elim (cases_order a b) [
  | inl equal ↦
      ap (λ x. x ∷ I) equal
      ∙ ap (λ K. b ∷ K) (same_ascending I J (ascends-tail a I up) (ascends-tail b J down) (λ x.
      same_test (holds I x) (holds J x)
      (λ h.
      let above : a < x = ascends-member a I x up (holds_at I x h) in
      elim (or_cases (eqb b x) (holds J x) (sym (same x) ∙ or_right (eqb a x) (holds I x) h)) [
        | inl e ↦ let here : b ≡ x = eqb-true b x e in absurd (omega arith)
        | inr e ↦ e
      ])
      (λ h.
      let above : b < x = ascends-member b J x down (holds_at J x h) in
      elim (or_cases (eqb a x) (holds I x) (same x ∙ or_right (eqb b x) (holds J x) h)) [
        | inl e ↦ let here : a ≡ x = eqb-true a x e in absurd (omega arith)
        | inr e ↦ e
      ])))
  | inr (inl less) ↦
      elim (or_cases (eqb b a) (holds J a) (sym (same a) ∙ or_left (eqb a a) (holds I a) (eq-eqb a a refl))) [
        | inl e ↦ let here : b ≡ a = eqb-true b a e in absurd (omega arith)
        | inr e ↦ let above : b < a = ascends-member b J a down (holds_at J a e) in absurd (omega arith)
      ]
  | inr (inr more) ↦
      elim (or_cases (eqb a b) (holds I b) (same b ∙ or_left (eqb b b) (holds J b) (eq-eqb b b refl))) [
        | inl e ↦ let here : a ≡ b = eqb-true a b e in absurd (omega arith)
        | inr e ↦ let above : a < b = ascends-member a I b up (holds_at I b e) in absurd (omega arith)
      ]
]
