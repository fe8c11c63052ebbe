use Rattle.asp_bits.specs.Places.{true_places}
use Rattle.asked_moves.specs.Asking.{IsCubeOf}
use Rattle.asked_moves.proofs.questions.literals.Given as goal

-- the literals so far are true in the set, and on atoms of the base
abbrev pub invariant-loop-atom : goal.invariant-loop-atom
invariant-loop-atom l = IsCubeOf l.base (true_places l.set) l.cube.items
