-- Lists of events from the start: what holds after each of them.
use Rattle.std.proofs.Common.{ℕ, ◌≡◌, refl, sym, ◌∙◌, ap, subst, true, ◌&&◌, List, [], ◌∷◌, ◌++◌, arith}
use Rattle.std.specs.Prelude.{Result, Ok, Err, OnOk, OnErr}
use Rattle.std.specs.List.{list_all}
use Rattle.std.proofs.lemmas.List.{append-nil, append_assoc}
use Rattle.asp_defs.specs.declared.ground.Game.{Game}
use Rattle.asp_defs.specs.Entries.{Entry}
use Rattle.asp_defs.specs.History.{is_sound}
use Rattle.asp_defs.specs.Laws.{IsOrderly, IsLater}
use Rattle.asp_defs.specs.Machine.{State, Event, start, may_happen, step, may_run, run}
use Rattle.asp_defs.proofs.Lists.{both}
use Rattle.asp_defs.proofs.HistoryLaws.{legal_is_sound}
use Rattle.asp_defs.proofs.MachineLaws.{runs_stay_legal, steps_keep_what_was_seen}
use Rattle.asp_core.specs.Machines.{MachineState, IsReached, IsKept, after}
use Rattle.asp_core.specs.Laws.{RunsStaySound, RunsOnlyGrow}

pub runs_stay_sound : RunsStaySound
runs_stay_sound g allowed events may =
    let o = runs_stay_legal g allowed events may in
    (o, legal_is_sound g (run allowed start events).history o.legal)

-- ---- one list behind another

run-append : (allowed : ℕ) (s : State) (events more : List Event) → run allowed s (events ++ more) ≡ run allowed (run allowed s events) more
run-append allowed s [] more = refl
run-append allowed s (event ∷ events) more = run-append allowed (step allowed s event) events more

may-front : (g : Game) (allowed : ℕ) (s : State) (events more : List Event) → may_run g allowed s (events ++ more) ≡ true → may_run g allowed s events ≡ true
may-front g allowed s [] more may = refl
may-front g allowed s (event ∷ events) more may =
    let parts = both (may_happen g s event) (may_run g allowed (step allowed s event) (events ++ more)) may in
    ap (λ t. t && may_run g allowed (step allowed s event) events) parts.0 ∙ may-front g allowed (step allowed s event) events more parts.1

may-append : (g : Game) (allowed : ℕ) (s : State) (events more : List Event) → may_run g allowed s events ≡ true → may_run g allowed (run allowed s events) more ≡ true → may_run g allowed s (events ++ more) ≡ true
may-append g allowed s [] more may behind = behind
may-append g allowed s (event ∷ events) more may behind =
    let parts = both (may_happen g s event) (may_run g allowed (step allowed s event) events) may in
    ap (λ t. t && may_run g allowed (step allowed s event) (events ++ more)) parts.0 ∙ may-append g allowed (step allowed s event) events more parts.1 behind

-- ---- later states

later-same : (s : State) → IsLater s s
later-same s = record { longer = ([], sym (append-nil s.history)); seen = λ m. omega arith }

later-more : (s t u : State) → IsLater s t → IsLater t u → IsLater s u
later-more s t u st tu = record {
  longer = (st.longer.0 ++ tu.longer.0, tu.longer.1 ∙ (ap (λ (H : List Entry). H ++ tu.longer.0) st.longer.1 ∙ append_assoc s.history st.longer.0 tu.longer.0));
  seen = λ m. let one = st.seen m in let two = tu.seen m in omega (arith, one, two);
}

grow : (g : Game) (allowed : ℕ) (events more : List Event) → may_run g allowed start (events ++ more) ≡ true → IsLater (run allowed start events) (run allowed start (events ++ more))
grow g allowed events [] may =
    subst (λ (es : List Event). IsLater (run allowed start events) (run allowed start es)) (sym (append-nil events)) (later-same (run allowed start events))
grow g allowed events (event ∷ more) may =
    let same : events ++ (event ∷ []) ++ more ≡ events ++ event ∷ more = append_assoc events (event ∷ []) more in
    let further = subst (λ (es : List Event). may_run g allowed start es ≡ true) (sym same) may in
    let one : IsLater (run allowed start events) (run allowed start (events ++ event ∷ [])) =
    subst (λ (s : State). IsLater (run allowed start events) s) (sym (run-append allowed start events (event ∷ [])))
    (steps_keep_what_was_seen allowed (run allowed start events) event (runs_stay_legal g allowed events (may-front g allowed start events (event ∷ more) may)).seen) in
    let rest : IsLater (run allowed start (events ++ event ∷ [])) (run allowed start (events ++ event ∷ more)) =
    subst (λ (es : List Event). IsLater (run allowed start (events ++ event ∷ [])) (run allowed start es)) same (grow g allowed (events ++ event ∷ []) more further) in
    later-more (run allowed start events) (run allowed start (events ++ event ∷ [])) (run allowed start (events ++ event ∷ more)) one rest

pub runs_only_grow : RunsOnlyGrow
runs_only_grow g allowed events more may = grow g allowed events more may

-- ---- reached states

pub reached-orderly : (m : MachineState) → IsReached m → IsOrderly m.game m.allowed m.state
reached-orderly m r = subst (λ (s : State). IsOrderly m.game m.allowed s) r.reached (runs_stay_legal m.game m.allowed r.events r.may)

pub reached-sound : (m : MachineState) → IsReached m → list_all (is_sound m.game) m.state.history ≡ true
reached-sound m r = legal_is_sound m.game m.state.history (reached-orderly m r).legal

pub reached-start : (g : Game) (allowed : ℕ) → IsReached (record { game = g; allowed = allowed; state = start })
reached-start g allowed = record { events = []; may = refl; reached = refl }

reached-more : (m : MachineState) (event : Event) → IsReached m → may_happen m.game m.state event ≡ true → IsReached (after m event)
reached-more m event r may = record {
  events = r.events ++ event ∷ [];
  may = may-append m.game m.allowed start r.events (event ∷ []) r.may
      (subst (λ (s : State). may_run m.game m.allowed s (event ∷ []) ≡ true) (sym r.reached) (ap (λ t. t && true) may));
  reached = run-append m.allowed start r.events (event ∷ []) ∙ ap (λ (s : State). step m.allowed s event) r.reached;
}

-- a step, and none
pub kept-more : (m : MachineState) (event : Event) → IsReached m → may_happen m.game m.state event ≡ true → IsKept m (after m event)
kept-more m event r may = record {
  game = refl;
  allowed = refl;
  reached = reached-more m event r may;
  later = steps_keep_what_was_seen m.allowed m.state event (reached-orderly m r).seen;
}

pub kept-same : (m : MachineState) → IsReached m → IsKept m m
kept-same m r = record { game = refl; allowed = refl; reached = r; later = later-same m.state }

-- what a step of the fields is of the machine that was given
pub step-kept : (old given new : MachineState) (event : Event) → old ≡ given → IsReached old → may_happen given.game given.state event ≡ true → new ≡ after old event → IsKept given new
step-kept old given new event is r may e =
    subst (λ (m : MachineState). IsKept m new) is
    (subst (λ (m : MachineState). IsKept old m) (sym e) (kept-more old event r (subst (λ (m : MachineState). may_happen m.game m.state event ≡ true) (sym is) may)))

-- a step that is done or refused
pub tried-kept : {T E : Type 0} (result : Result T E) (old given new : MachineState) (event : Event) → old ≡ given → IsReached old → may_happen given.game given.state event ≡ true
    → OnOk result (new ≡ after old event) → OnErr result (new ≡ old) → IsKept given new
tried-kept (Ok value) old given new event is r may done same = step-kept old given new event is r may done
tried-kept (Err fault) old given new event is r may done same =
    subst (λ (m : MachineState). IsKept m new) is (subst (λ (m : MachineState). IsKept old m) (sym same) (kept-same old r))
