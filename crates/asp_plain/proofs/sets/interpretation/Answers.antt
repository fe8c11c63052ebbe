use Rattle.std.proofs.Common.{false, eqb, arith}
use Rattle.std.specs.Int.{bit_at}
use Rattle.std.proofs.lemmas.List.FromFn.{fill_by_all}
use Rattle.asp_plain.proofs.sets.interpretation.Goals as goal

pub returns : goal.returns
returns c =
    fill_by_all (λ a. eqb (bit_at c.args.set a) 1) c.loop-atom.bits c.args.count false c.loop-atom.invariant.places
    (λ k l. c.loop-atom.invariant.values k (omega arith))
