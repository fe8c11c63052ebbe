use Rattle.asked_moves.proofs.Moving.{within_with}
use Rattle.asked_moves.proofs.questions.add.Goals as goal

pub returns-then-atom-len-clause-within : goal.returns-then-atom-len-clause-within
returns-then-atom-len-clause-within c =
    within_with c.args.base.now c.args.place _ c.args.set.now c.set.new.self c.if-place-base.false c.requires c.set.ensures
