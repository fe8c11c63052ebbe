use Rattle.std.proofs.Common.{◌≡◌, ◌++◌, codes, drop}
use Rattle.std.specs.List.{flat_map}
use Rattle.asp_defs.specs.Sets.{const_text}
use Rattle.asp_sets.proofs.suffix.before_each.Given as goal

-- what is left, and behind it the constants from the place on
abbrev pub invariant-loop-at : goal.invariant-loop-at
invariant-loop-at l = l.left ++ flat_map (λ x. codes "," ++ const_text x) (drop l.at l.constants) ≡ l.text
