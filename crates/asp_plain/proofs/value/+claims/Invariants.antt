use Rattle.std.proofs.Common.{◌+◌, length, drop}
use Rattle.std.specs.List.{sum_by}
use Rattle.asp_plain.proofs.value.+claims.Given as goal

-- the bits that are left at the first level, and a step and the own bits for each level behind it
abbrev pub decreases-claims : goal.decreases-claims
decreases-claims l = length l.rest.now + sum_by (λ level. length level.own + 1) (drop 1 l.levels.now)
