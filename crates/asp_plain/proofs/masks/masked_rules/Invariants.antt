use Rattle.std.proofs.Common.{◌≡◌, map, take}
use Rattle.asp_plain.specs.Masks.{masked}
use Rattle.asp_plain.proofs.masks.masked_rules.Given as goal

-- the rules so far
abbrev pub invariant-loop-rule : goal.invariant-loop-rule
invariant-loop-rule l = l.all.items ≡ map masked (take l.rule-index l.rules)
