-- A layer that has a level of its own, or passes on what it is asked.
use Rattle.std.proofs.Common.{◌≡◌, sym, ◌∙◌, ℕ, ◌≤◌, Bool, true, false, Option, None, Some, List, arith}
use Rattle.asp_defs.specs.Entries.{Entry}
use Rattle.asp_defs.specs.declared.faults.Unknown.{Unknown}
use Rattle.asp_game.specs.State.{MovesState}
use Rattle.asp_store.specs.Shelves.{ShelfState, GoesOn}
use Rattle.asp_node.specs.Children.{ChildState, ChildGoesOn, RestsOn}
use Rattle.asp_node.specs.Causes.{IsAskSpent}
use Rattle.asp_node.specs.Works.{MovesGoOn}
use Rattle.asp_node.proofs.Steps.{moves-same, refuted-stay}
use Rattle.asp_team.specs.States.{over, IsLayered, IsOver, IsOwn, StaysOver}
use Rattle.asp_team.proofs.Layering.{same-level, layer-goes, layered-stays, rests-child, rests-own, rests-both, ask-spent}

pub stays-own : (m n : MovesState) (c d : ChildState) → IsLayered m c → MovesGoOn m n → ChildGoesOn c d → StaysOver (Some m) c (Some n) d
stays-own m n c d l moves child = record {
  goes_on = layer-goes m n c d moves child;
  fit = layered-stays m n c d l moves child;
}

pub own-level : (own : Option MovesState) (c : ChildState) (answer : Bool) (first level : ℕ) → IsOwn own level answer → answer ≡ true → (over own c).level ≡ first → first ≤ level
    → (over own c).level ≡ level
own-level None c answer first level is yes_own at low = absurd (cc)
own-level (Some m) c answer first level is yes_own at low = same-level m.level first level at low (is.0 yes_own)

pub passed-rests-on : (own : Option MovesState) (c : ChildState) (seen : List Entry) → IsOver own c → RestsOn seen (over own c) → RestsOn seen c
passed-rests-on None c seen l rests = rests
passed-rests-on (Some m) c seen l rests = rests-child m c seen l rests

pub passed-goes : (own : Option MovesState) (c d : ChildState) → ChildGoesOn c d → ChildGoesOn (over own c) (over own d)
passed-goes None c d child = child
passed-goes (Some m) c d child = layer-goes m m c d (moves-same m) child

pub passed-rests : (own : Option MovesState) (c d : ChildState) (s t : ShelfState) → IsOver own c → GoesOn s t → ChildGoesOn c d → RestsOn s.seen (over own c) → RestsOn t.seen d
    → RestsOn t.seen (over own d)
passed-rests None c d s t l shelf child before after = after
passed-rests (Some m) c d s t l shelf child before after =
    rests-both m d t.seen (layered-stays m m c d l (moves-same m) child) (refuted-stay m.game m.level s t m.kept shelf (rests-own m c s.seen before)) after

pub passed-spent : (own : Option MovesState) (c d : ChildState) (s t : ShelfState) (u : Unknown) → IsOver own c → IsAskSpent s t c d u
    → IsAskSpent s t (over own c) (over own d) u
passed-spent None c d s t u l spent = spent
passed-spent (Some m) c d s t u l spent = ask-spent s t m m c d u l spent
