-- A store of one worker as a shelf.
use Rattle.std.proofs.Common.{◌≡◌, refl, sym, ap, ◌∙◌, subst, inl, inr, ◌⊎◌, ℕ, zero, suc, ◌+◌, ◌-◌, ◌^◌, ◌<◌, ◌≤◌, min, true, List, [], ◌∷◌, length, get_or, set, Some, arith}
use Rattle.std.specs.Prelude.{Result, Ok, Err, OnErr}
use Rattle.std.proofs.lemmas.Bool.{cases_eq}
use Rattle.std.proofs.lemmas.List.{append-nil, get_or-set_same, get_or-set_other}
use Rattle.std.proofs.lemmas.List.Quantifiers.{position-Some}
use Rattle.asp_defs.specs.declared.ground.Game.{Game}
use Rattle.asp_defs.specs.Games.{IsValid}
use Rattle.asp_defs.specs.Entries.{Entry, is_entry}
use Rattle.asp_defs.specs.History.{is_legal}
use Rattle.asp_defs.specs.declared.faults.Unknown.{Unknown}
use Rattle.asp_store.specs.declared.added.Added.{Added}
use Rattle.asp_store.specs.declared.added.Added.TheVariants.{Known, New}
use Rattle.asp_store.specs.declared.added.AddFault.{AddFault}
use Rattle.asp_store.specs.Histories.{StoreState, holds_at, first_held, with_entry}
use Rattle.asp_store.specs.Stores.{IsFull, IsAppended, IsKnown, no_entry}
use Rattle.asp_store.specs.Shelves.{ShelfState, GoesOn, IsHolding, IsRefused, own_of, refusals_at}
use Rattle.asp_store.proofs.Adding.{parts}
use Rattle.asp_store.proofs.Held.{not-held}

pub goes-same : (s : ShelfState) → is_legal s.game s.seen ≡ true → GoesOn s s
goes-same s legal = record {
  game = refl;
  allowed = refl;
  looks = omega arith;
  refusals = λ level. omega arith;
  more = [];
  prefix = sym (append-nil s.seen);
  legal = legal;
}

pub holding : (H : List Entry) (level : ℕ) (M : List ℕ) (at : ℕ) → first_held H level M ≡ Some at → IsHolding H level M at
holding H level M at h =
    let p = position-Some (holds_at level M) H at no_entry h in
    record { inside = p.0; holds = p.1 }

-- ---- additions

-- an addition leaves the store as it is, or appends
pub grown : (old new : StoreState) (e : Entry) (result : Result Added AddFault)
    → ((at : ℕ) → result ≡ Ok (Known at) → IsKnown old new e at) → ((at : ℕ) → result ≡ Ok (New at) → IsAppended old new e at) → OnErr result (new ≡ old)
    → (new ≡ old) ⊎ (new ≡ with_entry old e)
grown old new e (Ok (Known at)) known added refused = inl ((known at refl).unchanged)
grown old new e (Ok (New at)) known added refused = inr ((added at refl).appended)
grown old new e (Err fault) known added refused = inl refused

pub goes-grown : (old new : StoreState) (refusals : List ℕ) (e : Entry) → (new ≡ old) ⊎ (new ≡ with_entry old e) → is_legal new.game new.history ≡ true → GoesOn (own_of old refusals) (own_of new refusals)
goes-grown old new refusals e (inl same) legal =
    subst (λ (n : StoreState). GoesOn (own_of old refusals) (own_of n refusals)) (sym same)
    (goes-same (own_of old refusals) (subst (λ (n : StoreState). is_legal n.game n.history ≡ true) same legal))
goes-grown old new refusals e (inr more) legal =
    subst (λ (n : StoreState). GoesOn (own_of old refusals) (own_of n refusals)) (sym more)
    (record {
      game = refl;
      allowed = refl;
      looks = omega arith;
      refusals = λ level. omega arith;
      more = e ∷ [];
      prefix = refl;
      legal = subst (λ (n : StoreState). is_legal n.game n.history ≡ true) more legal;
    })

pub known-holding : (old new : StoreState) (e : Entry) (at : ℕ) → IsKnown old new e at → IsHolding new.history e.level e.seed at
known-holding old new e at k =
    subst (λ (n : StoreState). IsHolding n.history e.level e.seed at) (sym k.unchanged) (holding old.history e.level e.seed at k.held)

-- ---- refused additions

-- the count of a level from 1 on
counted : (s : ShelfState) (level : ℕ) → 1 ≤ level → refusals_at s level ≡ get_or s.refusals (level - 1) 0
counted s zero low = absurd (omega (arith, low))
counted s (suc i) low = let same : i ≡ suc i - 1 = omega arith in ap (λ k. get_or s.refusals k 0) same

pub one-raised : (old new : StoreState) (refusals : List ℕ) (level count : ℕ) → 1 ≤ level
    → (l : ℕ) → (refusals_at (own_of new (set refusals (level - 1) count)) l ≡ refusals_at (own_of old refusals) l) ⊎ (l ≡ level)
one-raised old new refusals level count low zero = inl refl
one-raised old new refusals level count low (suc i) = elim (cases_eq i (level - 1)) [
  | inl same ↦ inr (omega (arith, low, same))
  | inr other ↦ inl (get_or-set_other refusals (level - 1) i count 0 other)
]

raised : (new : StoreState) (refusals : List ℕ) (level count : ℕ) → 1 ≤ level → level - 1 < length refusals → refusals_at (own_of new (set refusals (level - 1) count)) level ≡ count
raised new refusals level count low inside =
    counted (own_of new (set refusals (level - 1) count)) level low ∙ get_or-set_same refusals (level - 1) count 0 inside

pub goes-raised : (old new : StoreState) (refusals : List ℕ) (level count : ℕ) → new ≡ old → is_legal new.game new.history ≡ true → 1 ≤ level → level - 1 < length refusals
    → get_or refusals (level - 1) 0 ≤ count → GoesOn (own_of old refusals) (own_of new (set refusals (level - 1) count))
goes-raised old new refusals level count same legal low inside more = record {
  game = ap (λ (n : StoreState). n.game) same;
  allowed = ap (λ (n : StoreState). n.allowed) same;
  looks = omega arith;
  refusals = λ l. elim (one-raised old new refusals level count low l) [
    | inl kept ↦ omega (arith, kept)
    | inr here ↦
        subst (λ (k : ℕ). refusals_at (own_of old refusals) k ≤ refusals_at (own_of new (set refusals (level - 1) count)) k) (sym here)
        (let before = counted (own_of old refusals) level low in
        let now = raised new refusals level count low inside in
        omega (arith, before, now, more))
  ];
  more = [];
  prefix = ap (λ (n : StoreState). n.history) same ∙ sym (append-nil old.history);
  legal = legal;
}

pub refused : (old new : StoreState) (refusals : List ℕ) (e : Entry) (u : Unknown) (count : ℕ) → new ≡ old → IsFull old e u → 1 ≤ e.level → e.level - 1 < length refusals
    → count ≡ min (get_or refusals (e.level - 1) 0 + 1) (2 ^ 64 - 1) → IsRefused (own_of old refusals) (own_of new (set refusals (e.level - 1) count)) e u
refused old new refusals e u count same full low inside is =
    subst (λ (n : StoreState). IsRefused (own_of old refusals) (own_of n (set refusals (e.level - 1) count)) e u) (sym same)
    (record {
      fresh = not-held old.history e.level e.seed full.fresh;
      exceeds = full.exceeds;
      unknown = full.unknown;
      rose =
          let before = counted (own_of old refusals) e.level low in
          let now = raised old refusals e.level count low inside in
          omega (arith, before, now, is);
    })

-- a level of an entry has a count
pub has-count : (g : Game) (e : Entry) (refusals : List ℕ) → IsValid g → is_entry g e ≡ true → length refusals ≡ 17 → e.level - 1 < length refusals
has-count g e refusals valid formed many =
    let few = valid.few_levels in
    let last = (parts g e formed).last in
    omega (arith, few, last, many)
