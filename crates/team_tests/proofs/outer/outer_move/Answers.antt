use Rattle.std.proofs.Common.{◌≡◌, ap, ◌∙◌, subst, true, false, List, ℕ, length}
use Rattle.std.proofs.lemmas.List.{length-replicate}
use Rattle.asp_bits.specs.Places.{true_places}
use Rattle.asp_defs.specs.Games.{is_subset}
use Rattle.cube_tests.proofs.Moving.{within_none, subset_within}
use Rattle.team_tests.proofs.outer.outer_move.Goals as goal

pub loop-place-init : goal.loop-place-init
loop-place-init c =
    (ap length c.in-Ok.ensures ∙ (length-replicate _ false ∙ c.len.ensures), within_none c.base_below-base.result.now _ c.in-Ok.set c.in-Ok.ensures)

pub returns-clause-outer : goal.returns-clause-outer
returns-clause-outer c =
    subst (λ (B : List ℕ). is_subset (true_places c.loop-place.set) B ≡ true) c.base_below-base.ensures
    (subset_within c.base_below-base.result.now c.loop-place.set c.loop-place.invariant.1)
