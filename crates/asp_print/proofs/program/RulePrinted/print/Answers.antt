use Rattle.std.proofs.Common.{sym, [], ◌∷◌, codes, append_assoc}
use Rattle.asp_defs.specs.Canonical.{statement_text}
use Rattle.asp_print.proofs.Writing.{behind, cut, failed, as_text}
use Rattle.asp_print.proofs.program.RulePrinted.print.Goals as goal

pub returns-in_err-print_statement : goal.returns-in_err-print_statement
returns-in_err-print_statement g c = failed _ c.from_residual.ensures.0 (cut _ (cut _ c.in_err-print_statement.ensures))

pub returns : goal.returns
returns g c =
    as_text (sym (append_assoc (statement_text c.args.self.now.head c.args.self.now.body) (codes ".") (10 ∷ [])))
    (behind c.in_ok-print_statement.ensures c.print_bytes.ensures)
