use Rattle.std.proofs.Common.{◌∙◌}
use Rattle.asp_turn.proofs.Prefixes.{prefix_self}
use Rattle.turn_tests.proofs.turns.is_refused.Goals as goal

pub give-requires-clause-own : goal.give-requires-clause-own
give-requires-clause-own c = c.try_take.ensures.own

pub give-requires-clause-world : goal.give-requires-clause-world
give-requires-clause-world c = c.try_take.ensures.world ∙ c.in-Some.ensures.stands

pub give-requires-clause-grown : goal.give-requires-clause-grown
give-requires-clause-grown c = rw c.in-Some.ensures.holds (prefix_self _)
