use Rattle.std.proofs.Common.{ℕ, List, subst, Option, IfOk, option_map, ◌≡◌}
use Rattle.asp_bits.specs.Places.{true_places}
use Rattle.asp_sets.proofs.Reading.{inside_braces, no_braces}
use Rattle.asp_sets.proofs.set.read_set.Goals as goal

pub returns-in-Some-clause-set : goal.returns-in-Some-clause-set
returns-in-Some-clause-set c =
    subst (λ (o : Option (List ℕ)). IfOk c.read_inner.result (λ s. option_map true_places s ≡ o))
    (inside_braces c.args.bases.now c.in-Some.inner.now c.args.text.now c.in-Some.ensures) c.read_inner.ensures.set

pub returns-in-None-clause-set : goal.returns-in-None-clause-set
returns-in-None-clause-set c = no_braces c.args.bases.now c.args.text.now c.in-None.ensures
