use Rattle.std.proofs.Common.{◌≡◌, ◌++◌, map}
use Rattle.asp_walk.specs.Written.{rule_terms}
use Rattle.asp_atoms.proofs.terms.add_rule.Given as goal

abbrev pub invariant-loop-term : goal.invariant-loop-term
invariant-loop-term l =
    map (λ t. t.now) l.out.items ++ l.term-iterator ≡ map (λ t. t.now) l.fn.out.items ++ rule_terms l.rule
