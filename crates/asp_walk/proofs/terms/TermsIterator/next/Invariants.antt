use Rattle.std.proofs.Common.{◌≡◌, ◌++◌, length}
use Rattle.std.specs.List.{flat_map}
use Rattle.asp_walk.specs.Written.{literal_terms}
use Rattle.asp_walk.proofs.terms.TermsIterator.next.Given as goal

abbrev pub invariant-loop-term : goal.invariant-loop-term
invariant-loop-term l = l.self-inside.first.now ++ (l.self-inside.second.now ++ flat_map literal_terms l.self-inside.walk) ≡ l.fn.self

abbrev pub decreases-loop-term : goal.decreases-loop-term
decreases-loop-term l = length l.self-inside.walk
