use Rattle.std.proofs.Common.{ℕ, ◌≡◌, ◌<◌, false, get_or}
use Rattle.asp_defs.specs.Instances.{same_variable}
use Rattle.asp_safety.specs.declared.variable.Variable.{Variable}
use Rattle.asp_safety.specs.Variables.{term_of}
use Rattle.asp_template.proofs.compiler.place_of.Given as goal

abbrev pub invariant-loop-place : goal.invariant-loop-place
invariant-loop-place l =
    (k : ℕ) (d : Variable) → k < l.place → same_variable (term_of l.variable) (term_of (get_or l.variables k d)) ≡ false
