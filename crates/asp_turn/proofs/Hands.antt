-- What a seat has in its hand, as the calls need it.
use Rattle.std.proofs.Common.{◌≡◌, ℕ, ◌≤◌, length, List, [], ◌∷◌, Option, Some, None, IsSomeAnd, refl, ap, sym, subst, ◌∙◌}
use Rattle.atomic_table.specs.Table.{Me, rest}
use Rattle.asp_turn.specs.declared.view.View.{View}
use Rattle.asp_turn.specs.Rule.{in_hand}
use Rattle.asp_turn.specs.Steps.{longer, shorter, informed}
use Rattle.asp_turn.proofs.Prefixes.{shorter_is}

module _ {A : Type 0} where
  pub headed : (l m : List (ℕ × A)) (x : A) → l ≡ (0, x) ∷ m → (y : A) × (l ≡ (0, y) ∷ rest l)
  headed l m x e = let P : List (ℕ × A) → Type 0 = λ k. k ≡ (0, x) ∷ rest k in (x, subst P (sym e) refl)

  pub some_and : (o : Option A) (P : A → Type 0) → IsSomeAnd o P → (x : A) × (o ≡ Some x) × P x
  some_and None P p = absurd p
  some_and (Some x) P p = (x, refl, p)

module _ {V W I : Type 0} where
  -- the slot in a holder's hand, once the value is put into it
  pub put_in : (me new : Me (Option V) (View W I)) (x : V) (taken : List I) → me.1 ≡ in_hand me.0.taken → me.0.taken ≡ Some taken → new ≡ (me.0, (0, Some x) ∷ rest me.1) → new ≡ (me.0, (0, Some x) ∷ [])
  put_in me new x taken hand holds e = e ∙ ap (λ (xs : List (ℕ × Option V)). (me.0, (0, Some x) ∷ xs)) (ap rest hand ∙ ap (λ (o : Option (List I)). rest (in_hand {V = V} o)) holds)

  -- after a join the shorter list waits to be settled
  pub waits : (v other : View W I) (hand : List (ℕ × Option V)) (m : Me (Option V) (View W I)) → m ≡ (informed v (longer v.seen other.seen) (shorter v.seen other.seen), hand) → length m.0.told ≤ length m.0.seen
  waits v other hand m e = let P : Me (Option V) (View W I) → Type 0 = λ x. length x.0.told ≤ length x.0.seen in subst P (sym e) (shorter_is v.seen other.seen)
