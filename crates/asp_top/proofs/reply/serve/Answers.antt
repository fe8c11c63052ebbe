use Rattle.asp_top.proofs.Solved.{solved_so}
use Rattle.asp_top.proofs.reply.serve.Goals as goal

pub returns-in-Solve : goal.returns-in-Solve
returns-in-Solve c =
    solved_so c.args.command c.in-Solve.tuning c.args.accepted.checked c.solve.result c.in-Solve.is c.solve.ensures
