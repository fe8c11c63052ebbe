use Rattle.std.proofs.Common.{◌≡◌, ◌*◌, take}
use Rattle.std.specs.List.{fold}
use Rattle.asp_atoms.specs.Counts.{shown}
use Rattle.asp_ground.specs.Counts.{choice_count}
use Rattle.asp_ground.proofs.counts.fact_count.Given as goal

abbrev pub invariant-loop-term : goal.invariant-loop-term
invariant-loop-term l = l.count ≡ shown (fold (λ n t. n * choice_count t) 1 (take l.term-index l.args))
