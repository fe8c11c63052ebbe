-- A blocked cube leaves fewer moves open: the measure of a loop that blocks each move that it is given.
use Rattle.std.proofs.Common.{◌≡◌, ◌≢◌, ℕ, ◌<◌, sym, subst, inl, inr, Bool, true, false, List, [], ◌∷◌, ◌++◌, length, append_assoc}
use Rattle.std.specs.List.{filter}
use Rattle.asp_bits.specs.Places.{true_places}
use Rattle.asp_defs.specs.declared.ground.Lit.{Lit}
use Rattle.asp_defs.specs.Values.{moves}
use Rattle.asp_defs.specs.Entries.{cube_holds}
use Rattle.asp_defs.proofs.Lists.{true_or_false, filter_at}
use Rattle.asp_defs.proofs.Subsets.{true_is_not_false}
use Rattle.asp_game.specs.State.{MovesState, Unasked, with_blocked, left_out}
use Rattle.asp_game.specs.Questions.{is_open, open_moves}
use Rattle.asp_game.specs.Answers.{IsFound, IsCore, GoesOn}
use Rattle.asp_game.proofs.Fewer.{fewer, open_before}

-- after a move was found and a cube that has it was blocked, fewer moves are open
pub fewer_open : (old mid new : MovesState) (set : List Bool) (cube : List Lit) → GoesOn old mid → IsFound old set
    → cube_holds cube (true_places set) ≡ true → new ≡ with_blocked mid cube
    → length (open_moves new new.outer) < length (open_moves old old.outer)
fewer_open old mid new set cube goes found inside blocked =
    let N : List ℕ = true_places set in
    let p : List ℕ → Bool = is_open old.region (left_out old ++ cube ∷ []) in
    let q : List ℕ → Bool = is_open old.region (left_out old) in
    let member = filter_at q (moves old.game old.level old.outer) N found.open_move in
    let P : MovesState → Type 0 = λ s. length (open_moves s s.outer) < length (open_moves old old.outer) in
    let Q : MovesState → Type 0 = λ s. P (with_blocked s cube) in
    let drops : p N ≡ false =
    elim (true_or_false (p N)) [
      | inl open_still ↦ absurd (true_is_not_false (cube_holds cube N) inside ((open_before old.region (left_out old) cube N open_still).1))
      | inr closed ↦ closed
    ] in
    let L : List (List Lit) → Type 0 = λ cubes.
    length (filter (is_open old.region cubes) (moves old.game old.level old.outer)) < length (open_moves old old.outer) in
    subst P (sym blocked) (subst Q (sym goes.question)
    (subst L (append_assoc old.kept old.blocked (cube ∷ []))
    (fewer p q (moves old.game old.level old.outer) N (λ J h. (open_before old.region (left_out old) cube J h).0) member.0 member.1 drops)))

-- a question that goes on: more may be blocked and answered
pub record Continues (old new : MovesState) : Type 0 where
  pub begun : new.last ≢ Unasked
  pub same : new ≡ record old { blocked = new.blocked; last = new.last; searches = new.searches; checks = new.checks }

-- a core speaks of the question and of what is blocked alone
pub core-alike : (old new : MovesState) (core : List Lit) → Continues old new → IsCore new core
    → IsCore (record old { blocked = new.blocked }) core
core-alike old new core goes found =
    let at : IsCore (record old { blocked = new.blocked; last = new.last; searches = new.searches; checks = new.checks }) core =
    subst (λ (s : MovesState). IsCore s core) goes.same found in
    record { atoms = at.atoms; part = at.part; named = at.named; refuted = at.refuted }
