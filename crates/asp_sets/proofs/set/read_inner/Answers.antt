use Rattle.asp_sets.proofs.Reading.{emptied, filled, empty_inner}
use Rattle.asp_sets.proofs.set.read_inner.Goals as goal

pub read_members-requires-clause-some : goal.read_members-requires-clause-some
read_members-requires-clause-some c = filled c.args.text.now c.is_empty.result c.is_empty.ensures c.if-is_empty.false

pub returns-in_ok-set-clause-set : goal.returns-in_ok-set-clause-set
returns-in_ok-set-clause-set c =
    empty_inner c.args.bases.now c.args.text.now c.in_ok-set.set _ (emptied c.args.text.now c.is_empty.result c.is_empty.ensures c.if-is_empty.true) c.in_ok-set.ensures
