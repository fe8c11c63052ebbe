-- Bounds rest on their atoms: interpretations that agree on these both meet a bound or neither does. So the bounds that an
-- answer set meets are met after another outer move that agrees with the first on their atoms.
use Rattle.std.proofs.Common.{ℕ, ◌≡◌, refl, sym, ◌∙◌, ap, inl, inr, Bool, true, not, ◌&&◌, ◌||◌, List, ◌++◌, length}
use Rattle.std.specs.Prelude.{◌==◌}
use Rattle.std.specs.List.{list_any, list_all, flat_map}
use Rattle.std.proofs.lemmas.Bool.{eqb-true}
use Rattle.asp_defs.specs.declared.ground.GroundRule.{GroundRule}
use Rattle.asp_defs.specs.declared.ground.Counted.{Counted}
use Rattle.asp_defs.specs.declared.ground.Bound.{Bound}
use Rattle.asp_defs.specs.Lists.{IsIn}
use Rattle.asp_defs.specs.Interpretations.{holds}
use Rattle.asp_defs.specs.Truth.{literals_true}
use Rattle.asp_defs.specs.Bounds.{counts, counted_atoms, is_at_least, is_at_most, meets, meets_all, term_atoms, bound_atoms}
use Rattle.asp_defs.specs.Games.{ascends}
use Rattle.asp_defs.specs.Laws.{BoundsRestOnTheirAtoms}
use Rattle.asp_defs.proofs.Lists.{both, all_at, all_from, any_at, filter_at, filter_from, append_left, append_right, flat_map_from}
use Rattle.asp_defs.proofs.Subsets.{holds_at, holds_from, filter-subset, subset_full}
use Rattle.asp_defs.proofs.CellLaws.{subset_from}
use Rattle.asp_defs.proofs.Fixing.{all-alike, any-alike, subset-ascends, Swap, swapped, swap-inside, swap-same}

-- ascending lists with the same members are equal
same_members : (I J : List ℕ) → ascends I ≡ true → ascends J ≡ true → ((a : ℕ) → IsIn a I → IsIn a J) → ((a : ℕ) → IsIn a J → IsIn a I) → J ≡ I
same_members I J upI upJ there back = subset_full I J upI (subset_from I J upI upJ back) there

literals-alike : (I J pos neg : List ℕ) → ((a : ℕ) → IsIn a pos → holds I a ≡ holds J a) → ((a : ℕ) → IsIn a neg → holds I a ≡ holds J a) → literals_true I pos neg ≡ literals_true J pos neg
literals-alike I J pos neg at_pos at_neg =
    let p : list_all (holds I) pos ≡ list_all (holds J) pos = all-alike (holds I) (holds J) pos at_pos in
    let n : list_all (λ a. not (holds I a)) neg ≡ list_all (λ a. not (holds J a)) neg =
    all-alike (λ a. not (holds I a)) (λ a. not (holds J a)) neg (λ a i. ap not (at_neg a i)) in
    rw (p, n) refl

-- two interpretations agree on the atoms of a bound
abbrev AlikeAt : List ℕ → List ℕ → Bound → Type 0
AlikeAt I J b = (a : ℕ) → IsIn a (bound_atoms b) → holds I a ≡ holds J a

body-alike : (I J : List ℕ) (b : Bound) → AlikeAt I J b → literals_true I b.pos b.neg ≡ literals_true J b.pos b.neg
body-alike I J b h =
    literals-alike I J b.pos b.neg
    (λ a i. h a (append_left b.pos (b.neg ++ flat_map term_atoms b.counted) a i))
    (λ a i. h a (append_right b.pos (b.neg ++ flat_map term_atoms b.counted) a (append_left b.neg (flat_map term_atoms b.counted) a i)))

-- an atom of a counted term is one of the bound
term-inside : (b : Bound) (c : Counted) (a : ℕ) → IsIn c b.counted → IsIn a (term_atoms c) → IsIn a (bound_atoms b)
term-inside b c a member i =
    append_right b.pos (b.neg ++ flat_map term_atoms b.counted) a
    (append_right b.neg (flat_map term_atoms b.counted) a (flat_map_from term_atoms b.counted c a member i))

counts-alike : (I J : List ℕ) (b : Bound) (a : ℕ) (c : Counted) → AlikeAt I J b → IsIn c b.counted → counts I a c ≡ counts J a c
counts-alike I J b a c h member =
    let condition : literals_true I c.pos c.neg ≡ literals_true J c.pos c.neg =
    literals-alike I J c.pos c.neg
    (λ d i. h d (term-inside b c d member (inr (append_left c.pos c.neg d i))))
    (λ d i. h d (term-inside b c d member (inr (append_right c.pos c.neg d i)))) in
    ap (λ (t : Bool). (c.atom == a) && t) condition

-- a counted atom of one interpretation is one of the other
counted-there : (I J : List ℕ) (b : Bound) (a : ℕ) → AlikeAt I J b → IsIn a (counted_atoms I b) → IsIn a (counted_atoms J b)
counted-there I J b a h i =
    let found = filter_at (λ a. list_any (counts I a) b.counted) I a i in
    let term = any_at (counts I a) b.counted found.1 in
    let its_atom : term.0.atom ≡ a = eqb-true term.0.atom a ((both (term.0.atom == a) (literals_true I term.0.pos term.0.neg) term.2).0) in
    let same : holds I a ≡ holds J a = h a (term-inside b term.0 a term.1 (inl (sym its_atom))) in
    filter_from (λ a. list_any (counts J a) b.counted) J a
    (holds_at J a (sym same ∙ holds_from I a found.0))
    (sym (any-alike (counts I a) (counts J a) b.counted (λ c member. counts-alike I J b a c h member)) ∙ found.1)

counted-ascends : (I : List ℕ) (b : Bound) → ascends I ≡ true → ascends (counted_atoms I b) ≡ true
counted-ascends I b up = subset-ascends I (counted_atoms I b) up (filter-subset (λ a. list_any (counts I a) b.counted) I)

counted-alike : (I J : List ℕ) (b : Bound) → ascends I ≡ true → ascends J ≡ true → AlikeAt I J b → counted_atoms J b ≡ counted_atoms I b
counted-alike I J b upI upJ h =
    same_members (counted_atoms I b) (counted_atoms J b) (counted-ascends I b upI) (counted-ascends J b upJ)
    (λ a i. counted-there I J b a h i)
    (λ a i. counted-there J I b a (λ d inside. sym (h d inside)) i)

pub meets-alike : (b : Bound) (I J : List ℕ) → ascends I ≡ true → ascends J ≡ true → AlikeAt I J b → meets I b ≡ meets J b
meets-alike b I J upI upJ h =
    ap (λ (t : Bool). not t || (is_at_least b.low (length (counted_atoms I b)) && is_at_most b.high (length (counted_atoms I b)))) (body-alike I J b h)
    ∙ ap (λ (found : List ℕ). not (literals_true J b.pos b.neg) || (is_at_least b.low (length found) && is_at_most b.high (length found))) (sym (counted-alike I J b upI upJ h))

pub bounds_rest_on_their_atoms : BoundsRestOnTheirAtoms
bounds_rest_on_their_atoms b I J upI upJ h = meets-alike b I J upI upJ (λ a i. h a (holds_from (bound_atoms b) a i))

-- the answer set with the second outer move in place of the first meets the bounds that it met, where the two agree on their
-- atoms
pub swap-meets : (G : List GroundRule) (B over M M' N : List ℕ) (bounds : List Bound) → Swap G B over M M' N → ((b : Bound) → IsIn b bounds → (a : ℕ) → IsIn a (bound_atoms b) → IsIn a B → holds M a ≡ holds M' a) → meets_all N bounds ≡ true → meets_all (swapped B over M' N) bounds ≡ true
swap-meets G B over M M' N bounds s agree met =
    let new = swapped B over M' N in
    let upN : ascends N ≡ true = subset-ascends over N s.up s.within in
    let up_new : ascends new ≡ true = subset-ascends over new s.up (swap-inside B over M' N) in
    all_from (meets new) bounds (λ b i.
    sym (meets-alike b N new upN up_new (λ a inside. swap-same G B over M M' N s a (λ lower. agree b i a inside lower)))
    ∙ all_at (meets N) bounds b met i)
