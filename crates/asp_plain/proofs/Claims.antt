-- The claim of a quantifier over candidates, one bit at a time.
use Rattle.std.proofs.Common.{◌≡◌, ℕ, Bool, true, false, not, ◌&&◌, ◌||◌, List, [], ◌∷◌, ◌++◌, map, refl, sym, ap, subst, ◌∙◌}
use Rattle.std.specs.List.{list_any, filter, fold}
use Rattle.std.specs.Int.RustNames.{bit_or}
use Rattle.std.proofs.lemmas.List.{map-append}
use Rattle.std.proofs.lemmas.List.Folds.{list_any-append, list_all-append}
use Rattle.std.proofs.lemmas.List.Elements.{filter-append}
use Rattle.asp_defs.specs.declared.syntax.Quant.{Quant}
use Rattle.asp_defs.specs.declared.syntax.Quant.TheVariants.{Exists, Forall}
use Rattle.asp_defs.specs.Interpretations.{subsets}
use Rattle.asp_plain.specs.declared.masks.Level.{Level}
use Rattle.asp_plain.specs.Masks.{candidates}
use Rattle.asp_plain.specs.Levels.{has_answer, is_claimed, first_own, settling}
use Rattle.asp_plain.proofs.Standing.{map-map}

-- the candidates without the first bit, and those with it
pub candidates-cons : (set b : ℕ) (bits : List ℕ)
    → candidates set (b ∷ bits) ≡ candidates set bits ++ candidates (bit_or set b) bits
candidates-cons set b bits =
    map-append (fold bit_or set) (subsets bits) (map (λ J. b ∷ J) (subsets bits))
    ∙ ap (λ more. candidates set bits ++ more) (map-map (fold bit_or set) (λ J. b ∷ J) (subsets bits))

or_open : (p q : Bool) → (p ≡ true → ⊥) → (p || q) ≡ q
or_open true q h = absurd (h refl)
or_open false q h = refl

and_open : (p q : Bool) → (p ≡ false → ⊥) → (p && q) ≡ q
and_open true q h = refl
and_open false q h = absurd (h refl)

-- where a claim isn't settled by some sets, further ones decide it
pub unsettled : (quants : List Quant) (level : Level) (levels : List Level) (sets more : List ℕ)
    → (is_claimed quants (level ∷ levels) sets ≡ settling quants → ⊥)
    → is_claimed quants (level ∷ levels) (sets ++ more) ≡ is_claimed quants (level ∷ levels) more
unsettled [] level levels sets more h =
    list_any-append (has_answer level) sets more
    ∙ or_open (list_any (has_answer level) sets) (list_any (has_answer level) more) h
unsettled (Exists ∷ quants) level levels sets more h =
    list_any-append (λ set. has_answer level set && is_claimed quants levels (candidates set (first_own levels))) sets more
    ∙ or_open (is_claimed (Exists ∷ quants) (level ∷ levels) sets) (is_claimed (Exists ∷ quants) (level ∷ levels) more) h
unsettled (Forall ∷ quants) level levels sets more h =
    list_all-append (λ set. not (has_answer level set) || is_claimed quants levels (candidates set (first_own levels))) sets more
    ∙ and_open (is_claimed (Forall ∷ quants) (level ∷ levels) sets) (is_claimed (Forall ∷ quants) (level ∷ levels) more) h

pub unsettled_first : (quants : List Quant) (level : Level) (levels : List Level) (set b : ℕ) (bits : List ℕ)
    → (is_claimed quants (level ∷ levels) (candidates set bits) ≡ settling quants → ⊥)
    → is_claimed quants (level ∷ levels) (candidates set (b ∷ bits))
    ≡ is_claimed quants (level ∷ levels) (candidates (bit_or set b) bits)
unsettled_first quants level levels set b bits h =
    ap (is_claimed quants (level ∷ levels)) (candidates-cons set b bits)
    ∙ unsettled quants level levels (candidates set bits) (candidates (bit_or set b) bits) h

-- the sets that pass a test, among the candidates without the first bit and those with it
pub filter-candidates : (p : ℕ → Bool) (set b : ℕ) (bits : List ℕ)
    → filter p (candidates set (b ∷ bits)) ≡ filter p (candidates set bits) ++ filter p (candidates (bit_or set b) bits)
filter-candidates p set b bits =
    ap (filter p) (candidates-cons set b bits) ∙ filter-append p (candidates set bits) (candidates (bit_or set b) bits)

-- the same at lists that are known to begin so
pub unsettled_at : (quants : List Quant) (levels : List Level) (level : Level) (inner : List Level) (set b : ℕ)
    (rest bits : List ℕ) → levels ≡ level ∷ inner → rest ≡ b ∷ bits
    → (is_claimed quants levels (candidates set bits) ≡ settling quants → ⊥)
    → is_claimed quants levels (candidates set rest) ≡ is_claimed quants levels (candidates (bit_or set b) bits)
unsettled_at quants levels level inner set b rest bits at_levels at_rest h =
    ap (λ r. is_claimed quants levels (candidates set r)) at_rest
    ∙ subst (λ ls. (is_claimed quants ls (candidates set bits) ≡ settling quants → ⊥)
    → is_claimed quants ls (candidates set (b ∷ bits)) ≡ is_claimed quants ls (candidates (bit_or set b) bits))
    (sym at_levels) (unsettled_first quants level inner set b bits) h
