use Rattle.std.proofs.Common.{◌≡◌, true, take}
use Rattle.std.specs.List.{list_all}
use Rattle.asp_template.specs.Templates.{is_true}
use Rattle.asp_template.proofs.instances.are_true.Given as goal

abbrev pub invariant-loop-comparison : goal.invariant-loop-comparison
invariant-loop-comparison l = list_all (is_true l.ranks) (take l.comparison-index l.comparisons) ≡ true
