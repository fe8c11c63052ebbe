use Rattle.asp_print.proofs.Forms.{headless, headed, has_head}
use Rattle.asp_print.proofs.Writing.{as_text}
use Rattle.asp_print.proofs.program.print_statement.Goals as goal

pub returns-then-is_constraint : goal.returns-then-is_constraint
returns-then-is_constraint g c =
    as_text (headless c.args.rule.now.head c.args.rule.now.body _ c.is_constraint.ensures c.if-is_constraint.true) c.print_constraint.ensures

pub returns-else-is_constraint : goal.returns-else-is_constraint
returns-else-is_constraint g c =
    as_text (headed c.args.rule.now.head c.args.rule.now.body (has_head _ _ c.is_constraint.ensures c.if-is_constraint.false)) c.print_headed.ensures
