use Rattle.std.proofs.Common.{◌≡◌, map}
use Rattle.asp_defs.specs.declared.syntax.Term.TheVariants.{Anon}
use Rattle.asp_defs.specs.Lists.{numbers_from}
use Rattle.asp_ground.proofs.consistency.variables.Given as goal

-- the variables so far
abbrev pub invariant-loop-place : goal.invariant-loop-place
invariant-loop-place l = l.terms.items ≡ map Anon (numbers_from 1 l.place)
