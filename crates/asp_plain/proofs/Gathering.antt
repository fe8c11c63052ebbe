-- Levels and their own bits, as they are gathered.
use Rattle.std.proofs.Common.{◌≡◌, ◌+◌, ◌^◌, ◌<◌, ℕ, Bool, not, cond, List, [], ◌∷◌, ◌++◌, length, get_or, take, map, sym, ap, ◌∙◌, subst, arith}
use Rattle.std.specs.List.{filter}
use Rattle.std.specs.Int.RustNames.{bit_and}
use Rattle.std.proofs.lemmas.Bool.{eq-eqb, ne_eqb}
use Rattle.std.proofs.lemmas.List.{append-nil, map-append, get_or_read}
use Rattle.std.proofs.lemmas.List.Elements.{filter_more}
use Rattle.asp_defs.specs.declared.ground.Game.{Game}
use Rattle.asp_defs.specs.declared.ground.GroundRule.{GroundRule}
use Rattle.asp_defs.specs.declared.ground.Bound.{Bound}
use Rattle.asp_defs.specs.Games.{base}
use Rattle.asp_defs.specs.Interpretations.{holds}
use Rattle.asp_plain.specs.declared.masks.Level.{Level}
use Rattle.asp_plain.specs.Levels.{IsMasked, AreMasked}
use Rattle.asp_plain.specs.Masks.{mask_of, own_bits}
use Rattle.asp_plain.proofs.Atoms.{lacks-atom}

own-more : (lower base : List ℕ) (i : ℕ) → i < length base
    → own_bits lower (take (i + 1) base)
    ≡ own_bits lower (take i base) ++ map (λ b. 2 ^ b) (cond (not (holds lower (get_or base i 0))) (get_or base i 0 ∷ []) [])
own-more lower base i l =
    ap (map (λ b. 2 ^ b)) (filter_more (λ b. not (holds lower b)) base i 0 l)
    ∙ map-append (λ b. 2 ^ b) (filter (λ b. not (holds lower b)) (take i base))
    (cond (not (holds lower (get_or base i 0))) (get_or base i 0 ∷ []) [])

-- the bit of an atom that the lower base lacks, and of one that it has
module _ (lower base : List ℕ) (i taken bit : ℕ) (l : i < length base) (is_taken : taken ≡ mask_of lower)
    (is_bit : bit ≡ 2 ^ get_or base i 0) where
  same_test : bit_and (mask_of lower) (2 ^ get_or base i 0) ≡ bit_and taken bit
  same_test = ap (λ t. bit_and t (2 ^ get_or base i 0)) (sym is_taken) ∙ ap (bit_and taken) (sym is_bit)

  pub own-kept : bit_and taken bit ≡ 0 → own_bits lower (take (i + 1) base) ≡ own_bits lower (take i base) ++ bit ∷ []
  own-kept lacks =
      own-more lower base i l
      ∙ ap (λ (t : Bool). own_bits lower (take i base) ++ map (λ b. 2 ^ b) (cond t (get_or base i 0 ∷ []) []))
      (sym (lacks-atom lower (get_or base i 0))
      ∙ eq-eqb (bit_and (mask_of lower) (2 ^ get_or base i 0)) 0 (same_test ∙ lacks))
      ∙ ap (λ b. own_bits lower (take i base) ++ b ∷ []) (sym is_bit)

  pub own-dropped : (bit_and taken bit ≡ 0 → ⊥) → own_bits lower (take (i + 1) base) ≡ own_bits lower (take i base)
  own-dropped has =
      own-more lower base i l
      ∙ ap (λ (t : Bool). own_bits lower (take i base) ++ map (λ b. 2 ^ b) (cond t (get_or base i 0 ∷ []) []))
      (sym (lacks-atom lower (get_or base i 0))
      ∙ ne_eqb (bit_and (mask_of lower) (2 ^ get_or base i 0)) 0 (λ e. has (sym same_test ∙ e)))
      ∙ append-nil (own_bits lower (take i base))

-- one level more
pub AreMasked-push : (g : Game) (below : ℕ) (levels : List Level) (level : Level) (k : ℕ) → below + length levels ≡ k
    → AreMasked g below levels → IsMasked (base g k) (base g (k + 1)) (get_or g.rules k []) (get_or g.bounds k []) level
    → AreMasked g below (levels ++ level ∷ [])
AreMasked-push g below [] level k at masked more =
    (subst (λ n. IsMasked (base g n) (base g (n + 1)) (get_or g.rules n []) (get_or g.bounds n []) level) (let e : k ≡ below = omega arith in e) more, tt)
AreMasked-push g below (first ∷ levels) level k at masked more =
    (masked.0, AreMasked-push g (below + 1) levels level k (omega arith) masked.1 more)

-- what was read of a list of lists, at a place within it
pub read-at : {X : Type 0} (all own : List (List X)) (k : ℕ) (item slice : List X) → all ≡ own → k < length all
    → item ≡ get_or all k item → slice ≡ item → slice ≡ get_or own k []
read-at all own k item slice same l read is =
    is ∙ get_or_read all k item l read [] ∙ ap (λ xs. get_or xs k []) same

-- a level over equal lists
pub IsMasked-same : (lower lower' base base' : List ℕ) (rules rules' : List GroundRule) (bounds bounds' : List Bound) (level : Level)
    → lower ≡ lower' → base ≡ base' → rules ≡ rules' → bounds ≡ bounds' → IsMasked lower base rules bounds level
    → IsMasked lower' base' rules' bounds' level
IsMasked-same lower lower' base base' rules rules' bounds bounds' level at_lower at_base at_rules at_bounds masked =
    subst (λ xs. IsMasked xs base' rules' bounds' level) at_lower
    (subst (λ xs. IsMasked lower xs rules' bounds' level) at_base
    (subst (λ rs. IsMasked lower base rs bounds' level) at_rules (subst (λ bs. IsMasked lower base rules bs level) at_bounds masked)))
