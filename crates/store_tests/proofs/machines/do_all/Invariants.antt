use Rattle.store_tests.specs.Members.{Knows}
use Rattle.store_tests.proofs.machines.do_all.Given as goal

-- it is known which members live
abbrev pub invariant-loop-one : goal.invariant-loop-one
invariant-loop-one l = Knows l.machine l.lives.items
