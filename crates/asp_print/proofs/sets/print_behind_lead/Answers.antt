use Rattle.std.proofs.Common.{true}
use Rattle.asp_defs.specs.Sets.{ground_atom_text}
use Rattle.asp_print.proofs.Writing.{behind, cut, failed, as_text, answered}
use Rattle.asp_print.proofs.sets.print_behind_lead.Goals as goal

pub returns-in_err-print_bytes-clause-text : goal.returns-in_err-print_bytes-clause-text
returns-in_err-print_bytes-clause-text g c =
    failed _ c.from_residual.ensures.0 (cut (ground_atom_text c.args.atom.now) (as_text c.lead.ensures c.in_err-print_bytes.ensures))

pub returns-in_err-print-clause-text : goal.returns-in_err-print-clause-text
returns-in_err-print-clause-text g c =
    failed _ c.from_residual-in_err-print.ensures.0 (behind (as_text c.lead.ensures c.in_ok-print_bytes.ensures) c.in_err-print.ensures)

pub returns-clause-text : goal.returns-clause-text
returns-clause-text g c =
    answered true (behind (as_text c.lead.ensures c.in_ok-print_bytes.ensures) c.in_ok-print.ensures)
