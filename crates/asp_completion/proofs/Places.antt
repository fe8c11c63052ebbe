-- Places of atoms in a base, and the truth of codes.
use Rattle.std.proofs.Common.{◌≡◌, ℕ, zero, suc, ◌+◌, ◌*◌, ◌/◌, ◌<◌, Bool, true, false, not, List, [], ◌∷◌, length, get_or, refl, sym, ◌∙◌, ap, subst, inl, inr, arith}
use Rattle.std.specs.Prelude.{◌==◌, if◌then◌else◌}
use Rattle.std.specs.List.{Contains}
use Rattle.std.proofs.lemmas.Bool.{eqb-true, eq-eqb}
use Rattle.asp_defs.specs.declared.ground.Lit.{Lit}
use Rattle.asp_defs.specs.Lists.{IsIn}
use Rattle.asp_defs.specs.Interpretations.{holds}
use Rattle.asp_defs.specs.Entries.{lit_true}
use Rattle.asp_defs.specs.Games.{ascends}
use Rattle.asp_defs.proofs.Lists.{any_at, any_from, map_at, map_from}
use Rattle.asp_defs.proofs.Subsets.{true_is_not_false, holds_at, ascends-tail, ascends-member}
use Rattle.asp_search.specs.Meaning.{truth, Satisfies}
use Rattle.asp_search.proofs.Truth.{truth-odd, truth-even, Contains-cases, Contains-tail}
use Rattle.asp_search.specs.Seen.{AreCodes}
use Rattle.asp_completion.specs.Codes.{rank, code, codes, Agrees, is_met}

-- ---- membership in two forms

pub in_from_contains : (xs : List ℕ) (x : ℕ) → Contains xs x → IsIn x xs
in_from_contains [] x c = absurd (omega (arith, c.1))
in_from_contains (y ∷ ys) x c = elim (Contains-cases y ys x c) [
  | inl e ↦ inl (sym e)
  | inr more ↦ inr (in_from_contains ys x more)
]

pub contains_from_in : (xs : List ℕ) (x : ℕ) → IsIn x xs → Contains xs x
contains_from_in [] x i = absurd i
contains_from_in (y ∷ ys) x (inl e) = (0, omega arith, sym e)
contains_from_in (y ∷ ys) x (inr i) = Contains-tail y ys x (contains_from_in ys x i)

-- ---- ranks

-- the rank of an atom of the base is a place of the base, at which the atom stands
pub rank-within : (B : List ℕ) (a : ℕ) → IsIn a B → rank B a < length B
rank-within [] a i = absurd i
rank-within (b ∷ B) a i = go (b == a) refl (λ more. rank-within B a more)
  where
    go : (t : Bool) → (b == a) ≡ t → (IsIn a B → rank B a < length B)
        → elim t as (λ _. ℕ) [ true ↦ 0 | false ↦ suc (rank B a) ] < suc (length B)
    go true e below = omega arith
    go false e below = elim i [
      | inl same ↦ absurd (true_is_not_false (b == a) (eq-eqb b a (sym same)) e)
      | inr more ↦ let h : rank B a < length B = below more in omega arith
    ]

pub get_or-rank : (B : List ℕ) (a : ℕ) → IsIn a B → get_or B (rank B a) 0 ≡ a
get_or-rank [] a i = absurd i
get_or-rank (b ∷ B) a i = go (b == a) refl (λ more. get_or-rank B a more)
  where
    go : (t : Bool) → (b == a) ≡ t → (IsIn a B → get_or B (rank B a) 0 ≡ a)
        → get_or (b ∷ B) (elim t as (λ _. ℕ) [ true ↦ 0 | false ↦ suc (rank B a) ]) 0 ≡ a
    go true e stands = eqb-true b a e
    go false e stands = elim i [
      | inl same ↦ absurd (true_is_not_false (b == a) (eq-eqb b a (sym same)) e)
      | inr more ↦ stands more
    ]

-- a place of a list has a member
pub in_at : (B : List ℕ) (k : ℕ) → k < length B → IsIn (get_or B k 0) B
in_at [] k h = absurd (omega arith)
in_at (b ∷ B) zero h = inl refl
in_at (b ∷ B) (suc k) h = inr (in_at B k (omega arith))

-- in an ascending base no atom stands twice, so the rank of the atom at a place is that place
pub rank-get_or : (B : List ℕ) (k : ℕ) → ascends B ≡ true → k < length B → rank B (get_or B k 0) ≡ k
rank-get_or [] k up h = absurd (omega arith)
rank-get_or (b ∷ B) zero up h = go (b == b) (eq-eqb b b refl)
  where
    go : (t : Bool) → t ≡ true → elim t as (λ _. ℕ) [ true ↦ 0 | false ↦ suc (rank B b) ] ≡ 0
    go true e = refl
    go false e = absurd (cc)
rank-get_or (b ∷ B) (suc k) up h =
    go (b == get_or B k 0) refl (rank-get_or B k (ascends-tail b B up) (omega arith))
  where
    go : (t : Bool) → (b == get_or B k 0) ≡ t → rank B (get_or B k 0) ≡ k
        → elim t as (λ _. ℕ) [ true ↦ 0 | false ↦ suc (rank B (get_or B k 0)) ] ≡ suc k
    go true e same =
        let less : b < get_or B k 0 = ascends-member b B (get_or B k 0) up (in_at B k (omega arith)) in
        let equal : b ≡ get_or B k 0 = eqb-true b (get_or B k 0) e in
        absurd (omega arith)
    go false e same = ap suc same

-- ---- codes

pub half-code : (B : List ℕ) (l : Lit) → code B l / 2 ≡ rank B l.atom
half-code B l = go l.positive
  where
    go : (p : Bool) → (if p then 2 * rank B l.atom + 1 else 2 * rank B l.atom) / 2 ≡ rank B l.atom
    go true = omega arith
    go false = omega arith

pub code-below : (B : List ℕ) (l : Lit) → rank B l.atom < length B → code B l < 2 * length B
code-below B l h = go l.positive
  where
    go : (p : Bool) → (if p then 2 * rank B l.atom + 1 else 2 * rank B l.atom) < 2 * length B
    go true = omega arith
    go false = omega arith

-- the codes of literals of the base are the search's
pub codes-below : (B : List ℕ) (lits : List Lit) → ((l : Lit) → IsIn l lits → holds B l.atom ≡ true)
    → AreCodes (2 * length B) (codes B lits)
codes-below B lits inside i h =
    let found = map_at (code B) lits (get_or (codes B lits) i 0) (in_at (codes B lits) i h) in
    subst (λ (c : ℕ). c < 2 * length B) (sym found.2)
    (code-below B found.0 (rank-within B found.0.atom (holds_at B found.0.atom (inside found.0 found.1))))

-- the code of a literal is true in an assignment where the literal is true in the interpretation
pub truth-code : (B : List ℕ) (v : ℕ → Bool) (N : List ℕ) (l : Lit) → Agrees B v N → holds B l.atom ≡ true
    → truth v (code B l) ≡ lit_true N l
truth-code B v N l agrees inside = go l.positive
  where
    go : (p : Bool) → truth v (if p then 2 * rank B l.atom + 1 else 2 * rank B l.atom)
        ≡ (if p then holds N l.atom else not (holds N l.atom))
    go true =
        let half : (2 * rank B l.atom + 1) / 2 ≡ rank B l.atom = omega arith in
        truth-odd v (2 * rank B l.atom + 1) (omega arith)
        ∙ (ap v half ∙ sym (agrees.value l.atom inside))
    go false =
        let half : (2 * rank B l.atom) / 2 ≡ rank B l.atom = omega arith in
        truth-even v (2 * rank B l.atom) (omega arith)
        ∙ (ap (λ k. not (v k)) half ∙ ap not (sym (agrees.value l.atom inside)))

-- an assignment satisfies the codes of literals where one of the literals is true
pub satisfies_from : (B : List ℕ) (v : ℕ → Bool) (N : List ℕ) (lits : List Lit) → Agrees B v N
    → ((l : Lit) → IsIn l lits → holds B l.atom ≡ true) → is_met N lits ≡ true → Satisfies v (codes B lits)
satisfies_from B v N lits agrees inside met =
    let found = any_at (lit_true N) lits met in
    record {
      literal = code B found.0;
      has = contains_from_in (codes B lits) (code B found.0) (map_from (code B) lits found.0 found.1);
      holds = truth-code B v N found.0 agrees (inside found.0 found.1) ∙ found.2;
    }

pub satisfies_to : (B : List ℕ) (v : ℕ → Bool) (N : List ℕ) (lits : List Lit) → Agrees B v N
    → ((l : Lit) → IsIn l lits → holds B l.atom ≡ true) → Satisfies v (codes B lits) → is_met N lits ≡ true
satisfies_to B v N lits agrees inside s =
    let found = map_at (code B) lits s.literal (in_from_contains (codes B lits) s.literal s.has) in
    any_from (lit_true N) lits found.0 found.1
    (sym (truth-code B v N found.0 agrees (inside found.0 found.1))
    ∙ subst (λ (k : ℕ). truth v k ≡ true) found.2 s.holds)

-- the assignment that an interpretation is
abbrev pub values_in : List ℕ → List ℕ → ℕ → Bool
values_in B N k = holds N (get_or B k 0)

pub values-agree : (B N : List ℕ) → Agrees B (values_in B N) N
values-agree B N = record { value = λ a h. ap (holds N) (sym (get_or-rank B a (holds_at B a h))) }
