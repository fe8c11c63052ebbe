-- Which members of a machine live.
use Rattle.std.proofs.Common.{◌≡◌, refl, ◌∙◌, ap, ℕ, zero, suc, ◌+◌, ◌-◌, ◌^◌, ◌<◌, ◌&&◌, Bool, true, false, List, [], ◌∷◌, ◌++◌, length, map, get_or, set, take, arith}
use Rattle.std.specs.Prelude.{nat_le, if◌then◌else◌}
use Rattle.std.proofs.lemmas.List.{length-map, map-set, map-append}
use Rattle.asp_defs.specs.Entries.{Entry, is_entry, cost}
use Rattle.asp_defs.specs.History.{is_held, is_justified, cells}
use Rattle.asp_defs.specs.Machine.{Member, State, Look, Fork, End, Add, looked, appended, may_happen}
use Rattle.asp_core.specs.Members.{nobody}
use Rattle.asp_core.specs.Machines.{MachineState, after}
use Rattle.store_tests.specs.declared.named.Named.{Named}
use Rattle.store_tests.specs.Members.{IsAlive, Knows}
use Rattle.store_tests.specs.Entries.{entry_of}
use Rattle.store_tests.proofs.Validity.{formed, justified}

-- ---- what may happen

member-lives : (members : List Member) (n : ℕ) → (get_or members n nobody).lives ≡ get_or (map (λ m. m.lives) members) n false
member-lives [] n = refl
member-lives (x ∷ members) zero = refl
member-lives (x ∷ members) (suc n) = member-lives members n

pub living : (m : MachineState) (lives : List Bool) (n : ℕ) → Knows m lives → IsAlive lives n → (get_or m.state.members n nobody).lives ≡ true
living m lives n k a = member-lives m.state.members n ∙ (ap (λ (ls : List Bool). get_or ls n false) k.members ∙ a.lives_now)

and_true : (a b : Bool) → a ≡ true → b ≡ true → (a && b) ≡ true
and_true true b p q = q
and_true false b p q = p

pub may-add : (m : MachineState) (lives : List Bool) (n : ℕ) (named : Named) → Knows m lives → IsAlive lives n → may_happen m.game m.state (Add n (entry_of named)) ≡ true
may-add m lives n named k a =
    let H = take (get_or m.state.members n nobody).seen m.state.history in
    and_true (get_or m.state.members n nobody).lives (is_entry m.game (entry_of named) && is_justified m.game H (entry_of named)) (living m lives n k a)
    (and_true (is_entry m.game (entry_of named)) (is_justified m.game H (entry_of named)) (formed m.game named k.game) (justified m.game H named k.game))

pub few : (m : MachineState) (lives : List Bool) (n : ℕ) → Knows m lives → IsAlive lives n → length m.state.members < 2 ^ 32 - 1
few m lives n k a =
    let many = length-map m.state.members (λ m. m.lives) in
    let same : length (map (λ m. m.lives) m.state.members) ≡ length lives = ap (λ (ls : List Bool). length ls) k.members in
    let low = a.few in
    omega (arith, many, same, low)

-- ---- what is known afterwards

set-same : (members : List Member) (n seen : ℕ) → map (λ m. m.lives) (set members n (record { lives = (get_or members n nobody).lives; seen = seen })) ≡ map (λ m. m.lives) members
set-same [] n seen = refl
set-same (x ∷ members) zero seen = refl
set-same (x ∷ members) (suc n) seen = ap (λ (ls : List Bool). x.lives ∷ ls) (set-same members n seen)

pub looked-knows : (m : MachineState) (lives : List Bool) (n : ℕ) → Knows m lives → Knows (after m (Look n)) lives
looked-knows m lives n k = record { game = k.game; members = set-same m.state.members n (length m.state.history) ∙ k.members }

added-lives : (s : State) (n : ℕ) (e : Entry) (held fits : Bool)
    → map (λ m. m.lives) ((if held then looked s n else if fits then appended s n e else s).members) ≡ map (λ m. m.lives) s.members
added-lives s n e true fits = set-same s.members n (length s.history)
added-lives s n e false true = set-same s.members n (length (s.history ++ e ∷ []))
added-lives s n e false false = refl

pub added-knows : (m : MachineState) (lives : List Bool) (n : ℕ) (e : Entry) → Knows m lives → Knows (after m (Add n e)) lives
added-knows m lives n e k = record {
  game = k.game;
  members = added-lives m.state n e (is_held m.state.history e.level e.seed) (nat_le (cells m.state.history + cost e) m.allowed) ∙ k.members;
}

pub forked-knows : (m : MachineState) (lives : List Bool) (n : ℕ) → Knows m lives → Knows (after m (Fork n)) (lives ++ true ∷ [])
forked-knows m lives n k = record {
  game = k.game;
  members = map-append (λ m. m.lives) m.state.members (record { lives = true; seen = (get_or m.state.members n nobody).seen } ∷ []) ∙ ap (λ (ls : List Bool). ls ++ true ∷ []) k.members;
}

pub ended-knows : (m : MachineState) (lives : List Bool) (n : ℕ) → Knows m lives → Knows (after m (End n)) (set lives n false)
ended-knows m lives n k = record {
  game = k.game;
  members = map-set (λ m. m.lives) m.state.members n (record { lives = false; seen = (get_or m.state.members n nobody).seen }) ∙ ap (λ (ls : List Bool). set ls n false) k.members;
}
