use Rattle.std.proofs.Common.{take}
use Rattle.asp_safety.specs.Bindings.{links_of}
use Rattle.asp_safety.specs.Representatives.{RepresentSome}
use Rattle.asp_safety.proofs.representatives.representatives_of.Given as goal

abbrev pub invariant-loop-link : goal.invariant-loop-link
invariant-loop-link l = RepresentSome (links_of l.links) (links_of (take l.link-index l.links)) l.representatives.entries
