use Rattle.std.proofs.Common.{◌≡◌, ◌+◌, map, drop}
use Rattle.asp_defs.specs.Safety.{first_unsafe_from}
use Rattle.asp_check.proofs.checks.unsafe_in.Given as goal

abbrev pub invariant-loop-at : goal.invariant-loop-at
invariant-loop-at l =
    first_unsafe_from 1 (map (λ r. r.now) l.rules) ≡ first_unsafe_from (l.at + 1) (map (λ r. r.now) (drop l.at l.rules))
