use Rattle.asp_turn.proofs.Spelled.{rests_at_home, has_one_holder, counts_only_refusals}
use Rattle.asp_turn.proofs.law.running_turn.Goals as goal

pub returns-clause-free : goal.returns-clause-free
returns-clause-free g c = λ k s holds free. rests_at_home g.V.Kept.world g.V.Kept.story (g.V.Kept.world k.value) s holds free

pub returns-clause-taken : goal.returns-clause-taken
returns-clause-taken g c = λ k s holds taken. has_one_holder g.V.Kept.world g.V.Kept.story (g.V.Kept.world k.value) s holds taken

pub returns-clause-refused : goal.returns-clause-refused
returns-clause-refused g c = λ k. counts_only_refusals g.V.Kept.world g.V.Kept.story (g.V.Kept.world k.value)
