use Rattle.std.proofs.Common.{◌≡◌, ◌+◌, ◌∷◌, [], length}
use Rattle.asp_defs.specs.declared.syntax.Term.{Term}
use Rattle.asp_safety.specs.Variables.{terms_of}
use Rattle.asp_safety.specs.Bindings.{links_of}
use Rattle.asp_safety.specs.Closure.{Settles, missing}
use Rattle.asp_safety.proofs.Spreading.{Reaching}
use Rattle.asp_safety.proofs.closure.reach.Given as goal

abbrev pub invariant-loop-from : goal.invariant-loop-from
invariant-loop-from l =
    (start : Term) → Settles start [] (terms_of l.fn.safe.keys) [] (terms_of l.fn.queue.items) → terms_of l.fn.out.items ≡ []
    → Reaching (start ∷ []) (links_of l.links) (terms_of l.safe.keys) (terms_of l.queue.items) (terms_of l.out.items)

abbrev pub decreases-loop-from : goal.decreases-loop-from
decreases-loop-from l = length (terms_of l.queue.items) + missing (links_of l.links) (terms_of l.safe.keys)
