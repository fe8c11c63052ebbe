use Rattle.asp_safety.specs.Variables.{term_of, terms_of}
use Rattle.asp_safety.specs.Bindings.{links_of}
use Rattle.asp_safety.specs.Index.{reach}
use Rattle.asp_safety.proofs.Places.{Following}
use Rattle.asp_safety.proofs.closure.follow.Given as goal

abbrev pub invariant-loop-at : goal.invariant-loop-at
invariant-loop-at l =
    Following (links_of l.links) (term_of l.from) l.at
    (terms_of l.fn.safe.keys) (terms_of l.safe.keys) (terms_of l.fn.queue.items) (terms_of l.queue.items)

abbrev pub decreases-loop-at : goal.decreases-loop-at
decreases-loop-at l = reach l.at
