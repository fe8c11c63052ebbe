use Rattle.std.proofs.Common.{◌++◌, List, Bool}
use Rattle.asp_pages.specs.Collected.{IsPageOf}
use Rattle.asp_pages.proofs.page.add_part.Given as goal

-- the page of the sets before and of those so far
abbrev pub invariant-loop-set : goal.invariant-loop-set
invariant-loop-set l = (sets : List (List Bool)) → IsPageOf sets l.count l.fn.page → IsPageOf (sets ++ l.yielded) l.count l.page
