use Rattle.std.proofs.Common.{arith}
use Rattle.asp_completion.proofs.Loops.{item-in}
use Rattle.asp_completion.proofs.clauses.push_literals.Goals as goal

pub code-requires-clause-inside : goal.code-requires-clause-inside
code-requires-clause-inside c =
    c.requires.inside _ (item-in c.args.literals.now c.loop-literal.literal-index _ (omega arith))
