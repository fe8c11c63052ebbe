use Rattle.std.proofs.Common.{sym}
use Rattle.asp_clauses.proofs.LiteralLemmas.{negated_even, negated_odd}
use Rattle.asp_search.proofs.solver.opposite.Goals as goal

pub returns-then-literal-eq0 : goal.returns-then-literal-eq0
returns-then-literal-eq0 c = sym (negated_even c.args.literal c.if-literal-eq0.true)

pub returns-else-literal-eq0 : goal.returns-else-literal-eq0
returns-else-literal-eq0 c = sym (negated_odd c.args.literal c.if-literal-eq0.false)
