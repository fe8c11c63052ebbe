use Rattle.std.proofs.Common.{arith, ◌∙◌, sym}
use Rattle.std.proofs.lemmas.Nat.Bits.{shr_and_one}
use Rattle.asp_bits.proofs.Packed.{lowest_difference, WordComesBefore-from, WordComesBefore-swapped}
use Rattle.asp_bits.proofs.compare_words.Goals as goal

pub overflow_shr-mine : goal.overflow_shr-mine
overflow_shr-mine c =
    (lowest_difference c.args.mine c.args.theirs (omega arith) (omega arith) c.requires).within

pub returns-then-mine-bit-eq0-clause-less : goal.returns-then-mine-bit-eq0-clause-less
returns-then-mine-bit-eq0-clause-less c =
    λ _. WordComesBefore-from c.args.mine c.args.theirs _ (lowest_difference c.args.mine c.args.theirs (omega arith) (omega arith) c.requires) (sym (shr_and_one c.args.mine _) ∙ c.if-mine-bit-eq0.true)

pub returns-else-mine-bit-eq0-clause-greater : goal.returns-else-mine-bit-eq0-clause-greater
returns-else-mine-bit-eq0-clause-greater c =
    λ _. WordComesBefore-swapped c.args.mine c.args.theirs _ (lowest_difference c.args.mine c.args.theirs (omega arith) (omega arith) c.requires) (λ z. c.if-mine-bit-eq0.false (shr_and_one c.args.mine _ ∙ z))
