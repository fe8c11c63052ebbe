-- Steps in two words each.
use Rattle.std.proofs.Common.{◌≡◌, ℕ, ◌<◌, cond, List, map, set, refl, ◌∙◌, ap, arith, Option, Some, None}
use Rattle.std.proofs.lemmas.List.{map-set}
use Rattle.std.proofs.lemmas.Bool.{ne_eqb}
use Rattle.asp_clauses.specs.declared.trail.Step.{Step}
use Rattle.asp_clauses.specs.declared.steps.Placed.{Placed}
use Rattle.asp_clauses.specs.Records.{end}
use Rattle.asp_clauses.specs.Steps.{reason_of, step_of, word_of}

reason_back : (reason : Option ℕ) → ((clause : ℕ) → reason ≡ Some clause → clause < end) → reason_of (word_of reason) ≡ reason
reason_back None h = refl
reason_back (Some clause) h = let l = h clause refl in ap (λ b. cond b None (Some clause)) (ne_eqb clause end (omega (arith, l)))

-- a step is written
pub step_written : (items : List Placed) (steps : List Step) (place word : ℕ) (step : Step) → map step_of items ≡ steps → word ≡ word_of step.reason → ((clause : ℕ) → step.reason ≡ Some clause → clause < end) →
    (let placed : Placed = record { literal = step.literal; reason = word } in map step_of (set items place placed)) ≡ set steps place step
step_written items steps place word step e w h =
    let placed : Placed = record { literal = step.literal; reason = word } in
    let is : step_of placed ≡ step = ap (λ (r : Option ℕ). let s : Step = record { literal = step.literal; reason = r } in s) (ap reason_of w ∙ reason_back step.reason h) in
    map-set step_of items place placed ∙ ap (set (map step_of items) place) is ∙ ap (λ (x : List Step). set x place step) e
