use Rattle.std.proofs.Common.{◌≡◌, ◌++◌, map}
use Rattle.asp_atoms.proofs.tuples.add_atoms.Given as goal

abbrev pub invariant-loop-args : goal.invariant-loop-args
invariant-loop-args l = l.atoms.items ≡ l.fn.atoms.items ++ map (λ tuple. record { name = l.predicate.name; args = tuple }) l.yielded
