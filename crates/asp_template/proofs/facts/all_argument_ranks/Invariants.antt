use Rattle.std.proofs.Common.{◌≡◌, map, take}
use Rattle.asp_template.specs.Compiled.{argument_ranks}
use Rattle.asp_template.proofs.facts.all_argument_ranks.Given as goal

abbrev pub invariant-loop-term : goal.invariant-loop-term
invariant-loop-term l = l.ranks.items ≡ map (argument_ranks l.constants) (take l.term-index l.terms)
