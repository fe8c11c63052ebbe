use Rattle.std.proofs.Common.{◌≡◌, true, not, take}
use Rattle.std.specs.List.{list_all}
use Rattle.asp_plain.specs.declared.masks.MaskedRule.{MaskedRule}
use Rattle.asp_plain.specs.Cubes.{is_bare, left_of}
use Rattle.asp_plain.proofs.left.rules_left.Given as goal

-- what is left of the rules so far, each with an atom
abbrev pub invariant-loop-rule : goal.invariant-loop-rule
invariant-loop-rule l = (l.left.items ≡ left_of l.set l.small l.rest l.loose (take l.rule-index l.rules))
    × (list_all (λ (rule : MaskedRule). not (is_bare rule)) l.left.items ≡ true)
