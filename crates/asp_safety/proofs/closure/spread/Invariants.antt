use Rattle.std.proofs.Common.{List, ◌+◌, length}
use Rattle.asp_defs.specs.declared.syntax.Term.{Term}
use Rattle.asp_safety.specs.Variables.{terms_of}
use Rattle.asp_safety.specs.Bindings.{links_of}
use Rattle.asp_safety.specs.Closure.{Gathers, missing}
use Rattle.asp_safety.proofs.Spreading.{Spreading}
use Rattle.asp_safety.proofs.closure.spread.Given as goal

abbrev pub invariant-loop-from : goal.invariant-loop-from
invariant-loop-from l =
    (bound : List Term) → Gathers bound (terms_of l.fn.safe.keys) (terms_of l.fn.queue.items)
    → Spreading bound (links_of l.links) (terms_of l.safe.keys) (terms_of l.queue.items)

abbrev pub decreases-loop-from : goal.decreases-loop-from
decreases-loop-from l = length (terms_of l.queue.items) + missing (links_of l.links) (terms_of l.safe.keys)
