use Rattle.std.proofs.Common.{◌≡◌, ap, ◌∙◌, subst, true, false, List, ℕ, length}
use Rattle.std.proofs.lemmas.List.{length-replicate}
use Rattle.asp_bits.specs.Places.{true_places}
use Rattle.asp_defs.specs.Games.{is_subset}
use Rattle.cube_tests.proofs.Moving.{within_none, subset_within}
use Rattle.cube_tests.proofs.moves.outer_move.Goals as goal

pub loop-place-init : goal.loop-place-init
loop-place-init c =
    (ap length c.in-Ok.ensures ∙ (length-replicate _ false ∙ c.len.ensures), within_none c.outer_atoms-base.result.now _ c.in-Ok.set c.in-Ok.ensures)

pub returns-clause-subset : goal.returns-clause-subset
returns-clause-subset c =
    subst (λ (B : List ℕ). is_subset (true_places c.loop-place.set) B ≡ true) c.outer_atoms-base.ensures
    (subset_within c.outer_atoms-base.result.now c.loop-place.set c.loop-place.invariant.1)
