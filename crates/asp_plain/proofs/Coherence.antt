-- The value of an outer move, by masks and by lists.
use Rattle.std.proofs.Common.{◌≡◌, ◌+◌, ◌-◌, ◌<◌, ℕ, zero, suc, true, not, List, [], ◌∷◌, ◌++◌, length, get_or, refl, sym, ap, ◌∙◌, subst, inl, arith, eqb}
use Rattle.std.specs.List.{list_any, list_all}
use Rattle.std.proofs.lemmas.Bool.{and_parts}
use Rattle.std.proofs.lemmas.Nat.Bits.{bit_at-zero}
use Rattle.std.proofs.lemmas.List.Recursion.{and_at}
use Rattle.asp_defs.specs.declared.ground.Game.{Game}
use Rattle.asp_defs.specs.declared.syntax.Quant.{Quant}
use Rattle.asp_defs.specs.declared.syntax.Quant.TheVariants.{Exists, Forall}
use Rattle.asp_defs.specs.Lists.{is_empty}
use Rattle.asp_defs.specs.Interpretations.{holds}
use Rattle.asp_defs.specs.AnswerSets.{answer_sets}
use Rattle.asp_defs.specs.Games.{base, ascends, within, nested, IsValid}
use Rattle.asp_defs.specs.Values.{fix, moves, value_from, is_coherent}
use Rattle.asp_plain.specs.declared.masks.Level.{Level}
use Rattle.asp_plain.specs.Levels.{AreMasked, masked_value}
use Rattle.asp_plain.proofs.Atoms.{all_to}
use Rattle.asp_plain.proofs.Moves.{some_move, any_move, all_moves}
use Rattle.asp_plain.proofs.Standing.{Stands}

-- neighbours of nested bases
nested_at : (Bs : List (List ℕ)) (j : ℕ) → nested Bs ≡ true → j + 1 < length Bs
    → within (get_or Bs j []) (get_or Bs (j + 1) []) ≡ true
nested_at [] j h l = absurd (omega arith)
nested_at (B ∷ []) j h l = absurd (omega arith)
nested_at (B ∷ C ∷ more) zero h l = (and_parts (within B C) (nested (C ∷ more)) h).0
nested_at (B ∷ C ∷ more) (suc j) h l =
    subst (λ k. within (get_or (C ∷ more) j []) (get_or (B ∷ C ∷ more) k []) ≡ true) (let e : suc (j + 1) ≡ suc j + 1 = omega arith in e)
    (nested_at (C ∷ more) j ((and_parts (within B C) (nested (C ∷ more)) h).1) (omega arith))

-- what the enumeration needs of a game's bases
pub record HasBases (g : Game) : Type 0 where
  pub ascending : (j : ℕ) → j < length g.bases.members → ascends (base g j) ≡ true
  pub nested : (j a : ℕ) → j + 1 < length g.bases.members → holds (base g j) a ≡ true → holds (base g (j + 1)) a ≡ true

pub HasBases-valid : (g : Game) → IsValid g → HasBases g
HasBases-valid g valid = record {
  ascending = λ j l. and_at (list_all ascends) ascends refl (λ _ _. refl) g.bases.members j [] l valid.ordered_bases;
  nested = λ j a l h. all_to (holds (base g (j + 1))) (base g j) (nested_at g.bases.members j valid.nested_bases l) a h;
}

moves_are : (g : Game) (j : ℕ) (M : List ℕ)
    → moves g (j + 1) M ≡ answer_sets (get_or g.rules j [] ++ fix (base g j) M) (get_or g.bounds j []) (base g (j + 1))
moves_are g j M =
    ap (λ k. answer_sets (get_or g.rules k [] ++ fix (base g k) M) (get_or g.bounds k []) (base g (j + 1))) (let e : j + 1 - 1 ≡ j = omega arith in e)

module _ (g : Game) (bases : HasBases g) where
  -- the value of a mask is that of the set that it stands for
  pub value-same : (quants : List Quant) (j : ℕ) (levels : List Level) → AreMasked g j levels
      → length levels ≡ length quants + 1 → j + length levels < length g.bases.members
      → (M : List ℕ) (m : ℕ) → Stands (base g j) M m → masked_value quants levels m ≡ value_from g quants (j + 1) M
  value-same quants j [] masked same few M m stands = absurd (omega arith)
  value-same [] j (level ∷ levels) masked same few M m stands =
      some_move (get_or g.rules j []) (get_or g.bounds j []) level (base g j) (base g (j + 1)) M m masked.0 stands
      (bases.ascending (j + 1) (omega arith)) (λ a. bases.nested j a (omega arith))
      ∙ ap (λ sets. not (is_empty sets)) (sym (moves_are g j M))
  value-same (Exists ∷ quants) j (level ∷ levels) masked same few M m stands =
      any_move (get_or g.rules j []) (get_or g.bounds j []) level (base g j) (base g (j + 1)) M m masked.0 stands
      (bases.ascending (j + 1) (omega arith)) (λ a. bases.nested j a (omega arith))
      (masked_value quants levels) (value_from g quants (j + 1 + 1))
      (λ J s next. value-same quants (j + 1) levels masked.1 (omega arith) (omega arith) J s next)
      ∙ ap (list_any (value_from g quants (j + 1 + 1))) (sym (moves_are g j M))
  value-same (Forall ∷ quants) j (level ∷ levels) masked same few M m stands =
      all_moves (get_or g.rules j []) (get_or g.bounds j []) level (base g j) (base g (j + 1)) M m masked.0 stands
      (bases.ascending (j + 1) (omega arith)) (λ a. bases.nested j a (omega arith))
      (masked_value quants levels) (value_from g quants (j + 1 + 1))
      (λ J s next. value-same quants (j + 1) levels masked.1 (omega arith) (omega arith) J s next)
      ∙ ap (list_all (value_from g quants (j + 1 + 1))) (sym (moves_are g j M))

-- nothing is true before the first level
pub stands-nothing : (B : List ℕ) → B ≡ [] → Stands B [] 0
stands-nothing B none =
    subst (λ (C : List ℕ). Stands C [] 0) (sym none)
    (record { inside = inl refl; marks = λ a. sym (ap (λ t. eqb t 1) (bit_at-zero a)) })

-- the value of the empty set at the first level is the game's coherence
pub coherent_is : (g : Game) (levels : List Level) → IsValid g → AreMasked g 0 levels → length levels ≡ length g.rules
    → masked_value g.quants levels 0 ≡ is_coherent g
coherent_is g levels valid masked same =
    value-same g (HasBases-valid g valid) g.quants 0 levels masked
    (same ∙ valid.rule_lists) (omega (arith, same, valid.rule_lists, valid.base_lists)) [] 0 (stands-nothing (base g 0) valid.first_base)
    ∙ ap (λ i. value_from g g.quants i []) (let e : 0 + 1 ≡ 1 = refl in e)
