-- Where an interpretation is held: the first of a level's positions, and the first of all entries.
use Rattle.std.proofs.Common.{◌≡◌, refl, sym, ap, ◌∙◌, subst, ℕ, zero, suc, ◌+◌, ◌<◌, ◌≤◌, Bool, true, false, ◌&&◌, ◌||◌, not, cond, eqb, nat_lt, List, [], ◌∷◌, ◌++◌, length, get_or, Some, None, arith}
use Rattle.std.specs.Prelude.{Option}
use Rattle.std.specs.List.{find, list_all, position_from}
use Rattle.std.proofs.lemmas.Bool.{lt-ltb, ltb-true}
use Rattle.asp_reduct.proofs.Truths.{get_or-member}
use Rattle.asp_defs.proofs.Lists.{all_at}
use Rattle.std.proofs.lemmas.List.{append_assoc}
use Rattle.std.proofs.lemmas.Iterator.Adapters.{position_from-zero}
use Rattle.asp_defs.specs.declared.ground.Lit.{Lit}
use Rattle.asp_defs.specs.Interpretations.{holds}
use Rattle.asp_defs.specs.Entries.{Entry, lit_true, cube_holds}
use Rattle.asp_defs.specs.History.{is_held}
use Rattle.asp_store.specs.Histories.{holds_at, first_held, positions_from, positions}
use Rattle.asp_store.specs.Stores.{is_position, holds_there, no_entry}

-- ---- by the positions of a level

-- the entry behind a front
read_behind : (front : List Entry) (e : Entry) (more : List Entry) → get_or (front ++ e ∷ more) (length front) no_entry ≡ e
read_behind [] e more = refl
read_behind (x ∷ front) e more = read_behind front e more

length_more : (front : List Entry) (e : Entry) → length (front ++ e ∷ []) ≡ suc (length front)
length_more [] e = refl
length_more (x ∷ front) e = ap suc (length_more front e)

-- an entry of the level is tried, another is passed over
one_entry : (own held : Bool) (p : ℕ → Bool) (at : ℕ) (rest : List ℕ) (tail : Option ℕ) → p at ≡ held → find p rest ≡ tail
    → find p (cond own (at ∷ rest) rest) ≡ cond (own && held) (Some at) tail
one_entry true held p at rest tail there behind = ap (λ t. cond t (Some at) (find p rest)) there ∙ ap (cond held (Some at)) behind
one_entry false held p at rest tail there behind = behind

found_from : (M : List ℕ) (level : ℕ) (front H : List Entry)
    → find (holds_there (front ++ H) M) (positions_from (length front) level H) ≡ position_from (holds_at level M) (length front) H
found_from M level front [] = refl
found_from M level front (e ∷ more) =
    let one : suc (length front) ≡ length front + 1 = omega arith in
    let behind : find (holds_there (front ++ e ∷ more) M) (positions_from (suc (length front)) level more) ≡ position_from (holds_at level M) (length front + 1) more =
    subst (λ (k : ℕ). find (holds_there (front ++ e ∷ more) M) (positions_from (suc (length front)) level more) ≡ position_from (holds_at level M) k more) one
    (subst (λ (k : ℕ). find (holds_there (front ++ e ∷ more) M) (positions_from k level more) ≡ position_from (holds_at level M) k more) (length_more front e)
    (subst (λ (H : List Entry). find (holds_there H M) (positions_from (length (front ++ e ∷ [])) level more) ≡ position_from (holds_at level M) (length (front ++ e ∷ [])) more)
    (append_assoc front (e ∷ []) more)
    (found_from M level (front ++ e ∷ []) more))) in
    one_entry (eqb e.level level) (cube_holds e.cube M) (holds_there (front ++ e ∷ more) M) (length front) (positions_from (suc (length front)) level more)
    (position_from (holds_at level M) (length front + 1) more)
    (ap (λ (x : Entry). cube_holds x.cube M) (read_behind front e more)) behind

-- the first of a level's positions whose entry holds an interpretation is that of the first entry of the level that does
pub found : (M : List ℕ) (level : ℕ) (H : List Entry) → find (holds_there H M) (positions H level) ≡ first_held H level M
found M level H = found_from M level [] H ∙ sym (position_from-zero (holds_at level M) H)

-- ---- by interpretations with the same atoms

lit-same : (M N : List ℕ) → ((a : ℕ) → holds M a ≡ holds N a) → (positive : Bool) (a : ℕ) → cond positive (holds M a) (not (holds M a)) ≡ cond positive (holds N a) (not (holds N a))
lit-same M N same true a = same a
lit-same M N same false a = ap not (same a)

cube-same : (M N : List ℕ) → ((a : ℕ) → holds M a ≡ holds N a) → (cube : List Lit) → cube_holds cube M ≡ cube_holds cube N
cube-same M N same [] = refl
cube-same M N same (l ∷ cube) =
    ap (λ t. t && cube_holds cube M) (lit-same M N same l.positive l.atom) ∙ ap (λ t. lit_true N l && t) (cube-same M N same cube)

from-same : (M N : List ℕ) → ((a : ℕ) → holds M a ≡ holds N a) → (level k : ℕ) (H : List Entry) → position_from (holds_at level M) k H ≡ position_from (holds_at level N) k H
from-same M N same level k [] = refl
from-same M N same level k (e ∷ H) =
    ap (λ t. cond (eqb e.level level && t) (Some k) (position_from (holds_at level M) (k + 1) H)) (cube-same M N same e.cube)
    ∙ ap (λ o. cond (holds_at level N e) (Some k) o) (from-same M N same level (k + 1) H)

pub first_held-same : (M N : List ℕ) → ((a : ℕ) → holds M a ≡ holds N a) → (H : List Entry) (level : ℕ) → first_held H level M ≡ first_held H level N
first_held-same M N same H level =
    position_from-zero (holds_at level M) H ∙ (from-same M N same level 0 H ∙ sym (position_from-zero (holds_at level N) H))

-- ---- none

none_step : (t rest : Bool) (k : ℕ) (tail : Option ℕ) → cond t (Some k) tail ≡ None → (tail ≡ None → rest ≡ false) → (t || rest) ≡ false
none_step true rest k tail none behind = absurd (cc)
none_step false rest k tail none behind = behind none

none_from : (level k : ℕ) (M : List ℕ) (H : List Entry) → position_from (holds_at level M) k H ≡ None → is_held H level M ≡ false
none_from level k M [] none = refl
none_from level k M (e ∷ H) none =
    none_step (holds_at level M e) (is_held H level M) k (position_from (holds_at level M) (k + 1) H) none (none_from level (k + 1) M H)

pub not-held : (H : List Entry) (level : ℕ) (M : List ℕ) → first_held H level M ≡ None → is_held H level M ≡ false
not-held H level M none = none_from level 0 M H (sym (position_from-zero (holds_at level M) H) ∙ none)

held_step : (t rest : Bool) (k at : ℕ) (tail : Option ℕ) → cond t (Some k) tail ≡ Some at → (tail ≡ Some at → rest ≡ true) → (t || rest) ≡ true
held_step true rest k at tail h behind = refl
held_step false rest k at tail h behind = behind h

held_from : (level k at : ℕ) (M : List ℕ) (H : List Entry) → position_from (holds_at level M) k H ≡ Some at → is_held H level M ≡ true
held_from level k at M [] h = absurd (cc)
held_from level k at M (e ∷ H) h =
    held_step (holds_at level M e) (is_held H level M) k at (position_from (holds_at level M) (k + 1) H) h (held_from level (k + 1) at M H)

pub is-held : (H : List Entry) (level : ℕ) (M : List ℕ) (at : ℕ) → first_held H level M ≡ Some at → is_held H level M ≡ true
is-held H level M at h = held_from level 0 at M H (sym (position_from-zero (holds_at level M) H) ∙ h)

-- no entry is one of a level past all levels
past_step : (own held : Bool) (k : ℕ) (tail : Option ℕ) → own ≡ false → tail ≡ None → cond (own && held) (Some k) tail ≡ None
past_step true held k tail other none = absurd (cc)
past_step false held k tail other none = none

past_from : (level k : ℕ) (M : List ℕ) (H : List Entry) → list_all (λ e. not (eqb e.level level)) H ≡ true → position_from (holds_at level M) k H ≡ None
past_from level k M [] others = refl
past_from level k M (e ∷ H) others =
    let parts = split (eqb e.level level) (list_all (λ e. not (eqb e.level level)) H) others in
    past_step (eqb e.level level) (cube_holds e.cube M) k (position_from (holds_at level M) (k + 1) H) parts.0 (past_from level (k + 1) M H parts.1)
  where
    split : (own rest : Bool) → (not own && rest) ≡ true → (own ≡ false) × (rest ≡ true)
    split true rest h = absurd (cc)
    split false rest h = (refl, h)

pub none-past : (H : List Entry) (level : ℕ) (M : List ℕ) → list_all (λ e. not (eqb e.level level)) H ≡ true → first_held H level M ≡ None
none-past H level M others = position_from-zero (holds_at level M) H ∙ past_from level 0 M H others

-- ---- positions

all_step : (own : Bool) (p : ℕ → Bool) (at : ℕ) (rest : List ℕ) → p at ≡ true → list_all p rest ≡ true → list_all p (cond own (at ∷ rest) rest) ≡ true
all_step true p at rest here behind = ap (λ t. t && list_all p rest) here ∙ behind
all_step false p at rest here behind = behind

below_from : (count at level : ℕ) (H : List Entry) → at + length H ≤ count → list_all (λ k. nat_lt k count) (positions_from at level H) ≡ true
below_from count at level [] h = refl
below_from count at level (e ∷ H) h =
    all_step (eqb e.level level) (λ k. nat_lt k count) at (positions_from (suc at) level H)
    (lt-ltb at count (omega arith)) (below_from count (suc at) level H (omega arith))

pub positions-below : (H : List Entry) (level : ℕ) → list_all (is_position H) (positions H level) ≡ true
positions-below H level = below_from (length H) 0 level H (omega arith)

front : (own : Bool) (at : ℕ) (xs ys : List ℕ) → cond own (at ∷ (xs ++ ys)) (xs ++ ys) ≡ cond own (at ∷ xs) xs ++ ys
front true at xs ys = refl
front false at xs ys = refl

pub positions-more : (at level : ℕ) (H : List Entry) (e : Entry) → positions_from at level (H ++ e ∷ []) ≡ positions_from at level H ++ cond (eqb e.level level) ((at + length H) ∷ []) []
positions-more at level [] e = let same : at ≡ at + 0 = omega arith in ap (λ k. cond (eqb e.level level) (k ∷ []) []) same
positions-more at level (x ∷ H) e =
    let same : suc at + length H ≡ at + suc (length H) = omega arith in
    ap (λ r. cond (eqb x.level level) (at ∷ r) r)
    (positions-more (suc at) level H e ∙ ap (λ k. positions_from (suc at) level H ++ cond (eqb e.level level) (k ∷ []) []) same)
    ∙ front (eqb x.level level) at (positions_from (suc at) level H) (cond (eqb e.level level) ((at + suc (length H)) ∷ []) [])

-- ---- what was read

any_entry : (H : List Entry) (k : ℕ) (d e : Entry) → k < length H → get_or H k d ≡ get_or H k e
any_entry [] k d e h = absurd (omega arith)
any_entry (x ∷ H) zero d e h = refl
any_entry (x ∷ H) (suc k) d e h = any_entry H k d e (omega arith)

-- what was told of the entry at a position that was read is so of the position
pub there : (H : List Entry) (at : List ℕ) (i : ℕ) (M : List ℕ) (e : Entry) (held : Bool) → i < length at → list_all (is_position H) at ≡ true
    → e ≡ get_or H (get_or at i 0) e → held ≡ cube_holds e.cube M → holds_there H M (get_or at i 0) ≡ held
there H at i M e held h inside is told =
    let low = ltb-true (get_or at i 0) (length H) (all_at (is_position H) at (get_or at i 0) inside (get_or-member at i 0 h)) in
    ap (λ (x : Entry). cube_holds x.cube M) (any_entry H (get_or at i 0) no_entry e low ∙ sym is) ∙ sym told
