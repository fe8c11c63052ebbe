-- Where block comments end.
use Rattle.std.proofs.Common.{ℕ, zero, suc, ◌+◌, ◌≤◌, ◌<◌, ◌≡◌, refl, ◌∙◌, ap, Bool, true, false, ◌&&◌, ◌||◌, ◌==◌, List, [], ◌∷◌, length, take, arith, eqb-true}
use Rattle.std.specs.Prelude.{None, Some, if◌then◌else◌}
use Rattle.asp_defs.specs.Lists.{is_empty}
use Rattle.asp_defs.specs.Tokens as defs
use Rattle.asp_lex.specs.declared.pieces.Shape.TheVariants as shapes
use Rattle.asp_lex.specs.Fronts.{IsFront, close_of}
use Rattle.asp_lex.proofs.Runs.{take_behind}
use Rattle.asp_lex.proofs.Fronts.{front_from}

-- whether bytes have a close, and whether it ends them, where they stand behind a star or behind none
abbrev has : Bool → List ℕ → Bool
has true bs = defs.has_close (42 ∷ bs)
has false bs = defs.has_close bs

abbrev ends : Bool → List ℕ → Bool
ends true bs = defs.ends_at_close (42 ∷ bs)
ends false bs = defs.ends_at_close bs

no_star : (b : ℕ) (bs : List ℕ) → (b == 42) ≡ false → defs.has_close (b ∷ bs) ≡ defs.has_close bs
no_star b [] e = refl
no_star b (c ∷ cs) e = ap (λ x. (x && (c == 37)) || defs.has_close (c ∷ cs)) e

no_star_ends : (b : ℕ) (bs : List ℕ) → (b == 42) ≡ false → defs.ends_at_close (b ∷ bs) ≡ defs.ends_at_close bs
no_star_ends b [] e = refl
no_star_ends b (c ∷ cs) e = ap (λ x. if x && (c == 37) then is_empty cs else defs.ends_at_close (c ∷ cs)) e

has_next : (b : ℕ) (bs : List ℕ) → defs.has_close (b ∷ bs) ≡ has (b == 42) bs
has_next b bs = go (b == 42) refl
  where
    go : (star : Bool) → (b == 42) ≡ star → defs.has_close (b ∷ bs) ≡ has star bs
    go true e = ap (λ x. defs.has_close (x ∷ bs)) (eqb-true b 42 e)
    go false e = no_star b bs e

ends_next : (b : ℕ) (bs : List ℕ) → defs.ends_at_close (b ∷ bs) ≡ ends (b == 42) bs
ends_next b bs = go (b == 42) refl
  where
    go : (star : Bool) → (b == 42) ≡ star → defs.ends_at_close (b ∷ bs) ≡ ends star bs
    go true e = ap (λ x. defs.ends_at_close (x ∷ bs)) (eqb-true b 42 e)
    go false e = no_star_ends b bs e

-- both by their first byte
has_cons : (star : Bool) (b : ℕ) (bs : List ℕ) → has star (b ∷ bs) ≡ ((star && (b == 37)) || has (b == 42) bs)
has_cons true b bs = ap (λ x. (b == 37) || x) (has_next b bs)
has_cons false b bs = has_next b bs

ends_cons : (star : Bool) (b : ℕ) (bs : List ℕ) → ends star (b ∷ bs) ≡ (if star && (b == 37) then is_empty bs else ends (b == 42) bs)
ends_cons true b bs = ap (λ x. if b == 37 then is_empty bs else x) (ends_next b bs)
ends_cons false b bs = ends_next b bs

has_none : (star : Bool) → has star [] ≡ false
has_none true = refl
has_none false = refl

-- where no close is found, no front has one
open_fronts : (star : Bool) (place : ℕ) (bs : List ℕ) → close_of star place bs ≡ None → (m : ℕ) → has star (take m bs) ≡ false
open_fronts star place bs h zero = has_none star
open_fronts star place [] h (suc m) = has_none star
open_fronts star place (b ∷ bs) h (suc m) = go (star && (b == 37)) refl h (λ h. open_fronts (b == 42) (place + 1) bs h m)
  where
    go : (t : Bool) → (star && (b == 37)) ≡ t → (if t then Some (place + 1) else close_of (b == 42) (place + 1) bs) ≡ None → (close_of (b == 42) (place + 1) bs ≡ None → has (b == 42) (take m bs) ≡ false) → has star (b ∷ take m bs) ≡ false
    go true e h rest = cc
    go false e h rest =
        has_cons star b (take m bs) ∙ ap (λ x. x || has (b == 42) (take m bs)) e ∙ rest h

-- the first close ends after so many bytes
record Closes (star : Bool) (bs : List ℕ) (len : ℕ) : Type 0 where
  within : len ≤ length bs
  closed : has star (take len bs) ≡ true
  ended : ends star (take len bs) ≡ true
  beyond : (more : ℕ) → len < more → more ≤ length bs → (has star (take more bs) ≡ true) × (ends star (take more bs) ≡ false)

abbrev ClosesAt : Bool → ℕ → List ℕ → ℕ → Type 0
ClosesAt star place bs end = (len : ℕ) × (end ≡ place + len) × Closes star bs len

-- at a close
closes_here : (star : Bool) (b : ℕ) (bs : List ℕ) → (star && (b == 37)) ≡ true → Closes star (b ∷ bs) 1
closes_here star b bs e = record {
  within = omega arith;
  closed = has_cons star b [] ∙ ap (λ x. x || has (b == 42) []) e;
  ended = ends_cons star b [] ∙ ap (λ x. if x then true else ends (b == 42) []) e;
  beyond = after bs;
}
  where
    after : (cs : List ℕ) (more : ℕ) → 1 < more → more ≤ length (b ∷ cs) → (has star (take more (b ∷ cs)) ≡ true) × (ends star (take more (b ∷ cs)) ≡ false)
    after cs zero long short = absurd (omega arith)
    after cs (suc zero) long short = absurd (omega arith)
    after [] (suc (suc k)) long short = absurd (omega arith)
    after (c ∷ cs) (suc (suc k)) long short = (
      has_cons star b (c ∷ take k cs) ∙ ap (λ x. x || has (b == 42) (c ∷ take k cs)) e,
      ends_cons star b (c ∷ take k cs) ∙ ap (λ x. if x then false else ends (b == 42) (c ∷ take k cs)) e,
    )

-- behind a byte that ends no close
closes_later : (star : Bool) (b : ℕ) (bs : List ℕ) (len : ℕ) → (star && (b == 37)) ≡ false → Closes (b == 42) bs len → Closes star (b ∷ bs) (suc len)
closes_later star b bs len e inner = record {
  within = let h = inner.within in omega arith;
  closed = has_by (take len bs) ∙ inner.closed;
  ended = ends_by (take len bs) ∙ inner.ended;
  beyond = after;
}
  where
    has_by : (cs : List ℕ) → has star (b ∷ cs) ≡ has (b == 42) cs
    has_by cs = has_cons star b cs ∙ ap (λ x. x || has (b == 42) cs) e

    ends_by : (cs : List ℕ) → ends star (b ∷ cs) ≡ ends (b == 42) cs
    ends_by cs = ends_cons star b cs ∙ ap (λ x. if x then is_empty cs else ends (b == 42) cs) e

    after : (more : ℕ) → suc len < more → more ≤ length (b ∷ bs) → (has star (take more (b ∷ bs)) ≡ true) × (ends star (take more (b ∷ bs)) ≡ false)
    after zero long short = absurd (omega arith)
    after (suc k) long short =
        let h = inner.beyond k (omega arith) (omega arith) in
        (has_by (take k bs) ∙ h.0, ends_by (take k bs) ∙ h.1)

first_close : (star : Bool) (place : ℕ) (bs : List ℕ) (end : ℕ) → close_of star place bs ≡ Some end → ClosesAt star place bs end
first_close star place [] end h = cc
first_close star place (b ∷ bs) end h = go (star && (b == 37)) refl h (first_close (b == 42) (place + 1) bs end)
  where
    go : (t : Bool) → (star && (b == 37)) ≡ t → (if t then Some (place + 1) else close_of (b == 42) (place + 1) bs) ≡ Some end → (close_of (b == 42) (place + 1) bs ≡ Some end → ClosesAt (b == 42) (place + 1) bs end) → ClosesAt star place (b ∷ bs) end
    go true e h rest = (1, (cc), closes_here star b bs e)
    go false e h rest =
        let inner = rest h in
        let is = inner.1 in
        (suc inner.0, omega arith, closes_later star b bs inner.0 e inner.2)

-- ---- the fronts

pub block_front : (rest : List ℕ) (end : ℕ) → close_of false 0 rest ≡ Some end → IsFront (37 ∷ 42 ∷ rest) (record { shape = shapes.Gap; len = 2 + end })
block_front rest end h = go (first_close false 0 rest end h)
  where
    beyond : ClosesAt false 0 rest end → (more : ℕ) → 2 + end < more → more ≤ length (37 ∷ 42 ∷ rest) → defs.shape_of (take more (37 ∷ 42 ∷ rest)) ≡ None
    beyond at zero long short = absurd (omega arith)
    beyond at (suc zero) long short = absurd (omega arith)
    beyond at (suc (suc k)) long short =
        let is = at.1 in
        let close = at.2 in
        let h = close.beyond k (omega arith) (omega arith) in
        ap (λ x. if x then defs.only_if (defs.ends_at_close (take k rest)) defs.CommentShape else Some defs.OpenShape) h.0
        ∙ ap (λ x. defs.only_if x defs.CommentShape) h.1

    go : ClosesAt false 0 rest end → IsFront (37 ∷ 42 ∷ rest) (record { shape = shapes.Gap; len = 2 + end })
    go at =
        let len = at.0 in
        let is = at.1 in
        let close = at.2 in
        let inside = close.within in
        let two : 2 + end ≡ 2 + len = omega arith in
        let front : take (2 + end) (37 ∷ 42 ∷ rest) ≡ 37 ∷ 42 ∷ take len rest = ap (λ k. take k (37 ∷ 42 ∷ rest)) two ∙ take_behind (37 ∷ 42 ∷ []) rest len in
        front_from (37 ∷ 42 ∷ rest) shapes.Gap (2 + end) defs.CommentShape (omega arith) (omega arith)
        (ap defs.shape_of front ∙ ap (λ x. if x then defs.only_if (defs.ends_at_close (take len rest)) defs.CommentShape else Some defs.OpenShape) close.closed ∙ ap (λ x. defs.only_if x defs.CommentShape) close.ended)
        (beyond at) (λ place. refl)

pub open_front : (rest : List ℕ) → close_of false 0 rest ≡ None → IsFront (37 ∷ 42 ∷ rest) (record { shape = shapes.OpenComment; len = 2 + length rest })
open_front rest h =
    front_from (37 ∷ 42 ∷ rest) shapes.OpenComment (2 + length rest) defs.OpenShape (omega arith) (omega arith)
    (ap defs.shape_of (take_behind (37 ∷ 42 ∷ []) rest (length rest)) ∙ ap (λ x. if x then defs.only_if (defs.ends_at_close (take (length rest) rest)) defs.CommentShape else Some defs.OpenShape) (open_fronts false 0 rest h (length rest)))
    (λ more long short. absurd (omega arith)) (λ place. refl)
