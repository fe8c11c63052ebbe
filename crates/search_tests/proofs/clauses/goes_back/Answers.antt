use Rattle.std.proofs.Common.{◌<◌, List, ◌∷◌, [], ◌++◌, Result, Ok, Err, None, OnOk, IsErr, refl, sym, ◌∙◌, ap, subst, arith}
use Rattle.asp_clauses.specs.declared.trail.Step.{Step}
use Rattle.asp_clauses.specs.Trail.{IsUnassigned, back_to}
use Rattle.search_tests.proofs.clauses.goes_back.Goals as goal

holds_unless : {X E P : Type 0} (r : Result X E) → ¬ IsErr r → OnOk r P → P
holds_unless (Ok x) h p = p
holds_unless (Err e) h p = absurd (h refl)

pub jump-jumped-requires-clause-unassigned : goal.jump-jumped-requires-clause-unassigned
unfolding back_to
jump-jumped-requires-clause-unassigned c =
    let budget = c.requires.budget in
    let step : Step = record { literal = 1; reason = None } in
    let placed = holds_unless c.decide.result (λ err. let spent = c.decide.ensures.spent.0 err in omega (arith, spent, budget)) c.decide.ensures.placed in
    let steps = placed.steps ∙ ap (λ (s : List Step). s ++ step ∷ []) c.requires.empty in
    subst (λ (s : List Step). IsUnassigned (back_to 0 s) 0) (sym steps) (λ place h. let low : place < 0 = h in absurd (omega (arith, low)))
