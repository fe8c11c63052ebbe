-- What the machine's fields are after an event.
use Rattle.std.proofs.Common.{ℕ, suc, zero, ◌+◌, ◌<◌, ◌≡◌, refl, sym, ◌∙◌, ap, subst, inl, inr, Bool, true, false, ◌&&◌, not, ◌⊎◌, if◌then◌else◌, List, [], ◌∷◌, ◌++◌, length, get_or, set, take, drop, arith, nat_le, take-append-drop}
use Rattle.std.specs.Prelude.{Result, Ok, Err, OnOk, OnErr}
use Rattle.std.proofs.lemmas.Bool.{leb-true, le-leb}
use Rattle.asp_defs.specs.declared.faults.Unknown.{Unknown}
use Rattle.asp_defs.specs.declared.ground.Game.{Game}
use Rattle.asp_defs.specs.Entries.{Entry, is_entry, cost}
use Rattle.asp_defs.specs.History.{is_held, is_justified, cells}
use Rattle.asp_defs.specs.Machine.{Member, State, Look, Add, Fork, may_happen, looked, appended}
use Rattle.asp_defs.proofs.Lists.{both, true_or_false}
use Rattle.asp_defs.proofs.HistoryLaws.{justifications_stay}
use Rattle.asp_store.specs.declared.added.Added.{Added}
use Rattle.asp_store.specs.declared.added.Added.TheVariants.{Known, New}
use Rattle.asp_store.specs.declared.added.AddFault.{AddFault}
use Rattle.asp_store.specs.Histories.{StoreState, with_entry}
use Rattle.asp_store.specs.Stores.{IsFull, IsAppended, IsKnown}
use Rattle.asp_store.proofs.Held.{not-held, is-held}
use Rattle.asp_core.specs.Members.{nobody}
use Rattle.asp_core.specs.Machines.{IsRefused, machine_of, after, is_full}

-- ---- members

-- a member that lives was made
pub made : (members : List Member) (m : ℕ) → (get_or members m nobody).lives ≡ true → m < length members
made [] m h = absurd (cc)
made (x ∷ members) zero h = omega arith
made (x ∷ members) (suc m) h = let r = made members m h in omega (arith, r)

-- ---- looks

pub looked-is : (s : StoreState) (members now : List Member) (m seen : ℕ)
    → now ≡ set members m (record { lives = (get_or members m nobody).lives; seen = seen }) → seen ≡ length s.history
    → machine_of s now ≡ after (machine_of s members) (Look m)
looked-is s members now m seen is all =
    ap (machine_of s) (is ∙ ap (λ (k : ℕ). set members m (record { lives = (get_or members m nobody).lives; seen = k })) all)

-- ---- additions

-- what an addition needs
pub record Adding (g : Game) (H : List Entry) (members : List Member) (m : ℕ) (e : Entry) : Type 0 where
  pub lives : (get_or members m nobody).lives ≡ true
  pub formed : is_entry g e ≡ true
  pub justified : is_justified g H e ≡ true

pub adding : (g : Game) (H : List Entry) (members : List Member) (m : ℕ) (e : Entry) → may_happen g (record { history = H; members = members }) (Add m e) ≡ true → Adding g H members m e
adding g H members m e may =
    let seen = (get_or members m nobody).seen in
    let one = both (get_or members m nobody).lives (is_entry g e && is_justified g (take seen H) e) may in
    let two = both (is_entry g e) (is_justified g (take seen H) e) one.1 in
    record {
      lives = one.0;
      formed = two.0;
      justified = subst (λ (H : List Entry). is_justified g H e ≡ true) (take-append-drop seen H) (justifications_stay g (take seen H) (drop seen H) e two.1);
    }

-- what a store's addition did
abbrev pub Grown : StoreState → StoreState → Entry → Type 0
Grown old new e =
    ((is_held old.history e.level e.seed ≡ true) × (new ≡ old))
    ⊎ (((is_held old.history e.level e.seed ≡ false) × (nat_le (cells old.history + cost e) old.allowed ≡ true)) × (new ≡ with_entry old e))

pub grown : (old new : StoreState) (e : Entry) (result : Result Added AddFault) (answer : Added) → result ≡ Ok answer
    → ((at : ℕ) → result ≡ Ok (Known at) → IsKnown old new e at) → ((at : ℕ) → result ≡ Ok (New at) → IsAppended old new e at) → Grown old new e
grown old new e result (Known at) is known added =
    let k = known at is in inl (is-held old.history e.level e.seed at k.held, k.unchanged)
grown old new e result (New at) is known added =
    let a = added at is in
    inr ((not-held old.history e.level e.seed a.fresh, le-leb (cells old.history + cost e) old.allowed a.fits), a.appended)

if_held : {A : Type 0} (held : Bool) (x y : A) → held ≡ true → (if held then x else y) ≡ x
if_held held x y h = ap (λ t. if t then x else y) h

if_fits : {A : Type 0} (held fits : Bool) (x y z : A) → held ≡ false → fits ≡ true → (if held then x else if fits then y else z) ≡ y
if_fits held fits x y z h f = ap (λ t. if t then x else if fits then y else z) h ∙ ap (λ t. if t then y else z) f

pub added-is : (old new : StoreState) (members now : List Member) (m seen : ℕ) (e : Entry) → Grown old new e
    → now ≡ set members m (record { lives = (get_or members m nobody).lives; seen = seen }) → seen ≡ length new.history
    → machine_of new now ≡ after (machine_of old members) (Add m e)
added-is old new members now m seen e (inl k) is all =
    let s : State = record { history = old.history; members = members } in
    ap (λ (n : StoreState). machine_of n now) k.1
    ∙ (looked-is old members now m seen is (all ∙ ap (λ (n : StoreState). length n.history) k.1)
    ∙ ap (λ (t : State). record { game = old.game; allowed = old.allowed; state = t })
    (sym (if_held (is_held old.history e.level e.seed) (looked s m) (if nat_le (cells old.history + cost e) old.allowed then appended s m e else s) k.0)))
added-is old new members now m seen e (inr k) is all =
    let s : State = record { history = old.history; members = members } in
    ap (λ (n : StoreState). machine_of n now) k.1
    ∙ (looked-is (with_entry old e) members now m seen is (all ∙ ap (λ (n : StoreState). length n.history) k.1)
    ∙ ap (λ (t : State). record { game = old.game; allowed = old.allowed; state = t })
    (sym (if_fits (is_held old.history e.level e.seed) (nat_le (cells old.history + cost e) old.allowed) (looked s m) (appended s m e) s k.0.0 k.0.1)))

-- an addition that was done wasn't one for which the cells don't suffice
pub not-full : (old new : StoreState) (members : List Member) (m : ℕ) (e : Entry) → Grown old new e → is_full (machine_of old members) (Add m e) ≡ false
not-full old new members m e (inl k) = ap (λ t. not t && not (nat_le (cells old.history + cost e) old.allowed)) k.0
not-full old new members m e (inr k) =
    ap (λ t. not t && not (nat_le (cells old.history + cost e) old.allowed)) k.0.0 ∙ ap not k.0.1

past : (cost allowed : ℕ) → allowed < cost → nat_le cost allowed ≡ false
past cost allowed h = elim (true_or_false (nat_le cost allowed)) [
  | inl fits ↦ let low = leb-true cost allowed fits in absurd (omega (arith, low, h))
  | inr over ↦ over
]

pub refused-is : (s : StoreState) (members : List Member) (m : ℕ) (e : Entry) (u : Unknown) → IsFull s e u → IsRefused (machine_of s members) (Add m e) u
refused-is s members m e u f = record {
  number = m;
  entry = e;
  adds = refl;
  full = ap (λ t. not t && not (nat_le (cells s.history + cost e) s.allowed)) (not-held s.history e.level e.seed f.fresh)
      ∙ ap not (past (cells s.history + cost e) s.allowed f.exceeds);
  unknown = f.unknown;
}

-- ---- forks and ends

pub forked-is : {T E : Type 0} (result : Result T E) (s : StoreState) (members now : List Member) (m : ℕ)
    → OnOk result (now ≡ members ++ (record { lives = true; seen = (get_or members m nobody).seen }) ∷ []) → OnOk result (machine_of s now ≡ after (machine_of s members) (Fork m))
forked-is (Ok value) s members now m is = ap (machine_of s) is
forked-is (Err fault) s members now m is = tt

pub same-is : {T E : Type 0} (result : Result T E) (s : StoreState) (members now : List Member) → OnErr result (now ≡ members) → OnErr result (machine_of s now ≡ machine_of s members)
same-is (Ok value) s members now is = tt
same-is (Err fault) s members now is = ap (machine_of s) is
