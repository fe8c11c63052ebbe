use Rattle.asp_safety.specs.Bindings.{links_of}
use Rattle.asp_safety.specs.Index.{IsIndexOf}
use Rattle.asp_safety.proofs.index.index_of.Given as goal

abbrev pub invariant-loop-place : goal.invariant-loop-place
invariant-loop-place l = IsIndexOf (links_of l.links) l.place l.last.entries l.previous.items
