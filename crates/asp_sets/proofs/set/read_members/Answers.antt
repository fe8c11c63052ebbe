use Rattle.std.proofs.Common.{◌∙◌}
use Rattle.asp_bits.specs.Places.{true_places}
use Rattle.asp_sets.proofs.Reading.{taken_read, left_read, emptied, filled}
use Rattle.asp_sets.proofs.set.read_members.Goals as goal

pub returns-then-is_empty-clause-set : goal.returns-then-is_empty-clause-set
returns-then-is_empty-clause-set c =
    taken_read c.args.bases.now c.as_slice.result.now c.first_base.result.now c.args.text.now c.as_slice-2.result.now c.take_members-left.result.now (true_places c.take_members-left.new.set)
    c.requires.readable c.requires.some c.as_slice.ensures c.first_base.ensures (c.as_slice-2.ensures.value ∙ c.in_ok-led.ensures) c.take_members-left.ensures.taken
    (emptied c.take_members-left.result.now c.is_empty.result c.is_empty.ensures c.if-is_empty.true)

pub returns-clause-set : goal.returns-clause-set
returns-clause-set c =
    left_read c.args.bases.now c.as_slice.result.now c.first_base.result.now c.args.text.now c.as_slice-2.result.now c.take_members-left.result.now (true_places c.take_members-left.new.set)
    c.requires.readable c.requires.some c.as_slice.ensures c.first_base.ensures (c.as_slice-2.ensures.value ∙ c.in_ok-led.ensures) c.take_members-left.ensures.taken
    (filled c.take_members-left.result.now c.is_empty.result c.is_empty.ensures c.if-is_empty.false)
