use Rattle.std.proofs.Common.{inr}
use Rattle.asp_bounds.proofs.denials.settle.Goals as goal

pub returns-then-lit-term : goal.returns-then-lit-term
returns-then-lit-term c = inr (c.if-lit.true, c.if-lit-term.true, c.set.ensures)
