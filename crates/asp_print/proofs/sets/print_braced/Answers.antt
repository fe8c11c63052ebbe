use Rattle.std.proofs.Common.{ap, codes, List}
use Rattle.std.specs.List.{join_by}
use Rattle.asp_defs.specs.declared.ground.GroundAtom.{GroundAtom}
use Rattle.asp_defs.specs.Sets.{ground_atom_text}
use Rattle.asp_print.specs.Members.{members}
use Rattle.asp_print.proofs.Writing.{behind, cut, failed, as_text}
use Rattle.asp_print.proofs.sets.print_braced.Goals as goal

pub returns-in_err-print_bytes : goal.returns-in_err-print_bytes
returns-in_err-print_bytes g c =
    failed _ c.from_residual.ensures.0 (cut (codes "}") (cut (join_by ground_atom_text (codes ", ") (members c.args.bases.now.atoms c.args.set.now)) c.in_err-print_bytes.ensures))

pub returns-in_err-print_members : goal.returns-in_err-print_members
returns-in_err-print_members g c =
    failed _ c.from_residual-in_err-print_members.ensures.0
    (cut (codes "}") (behind c.in_ok-print_bytes.ensures
    (as_text (ap (λ (atoms : List GroundAtom). join_by ground_atom_text (codes ", ") (members atoms c.args.set.now)) c.as_slice.ensures) c.in_err-print_members.ensures)))

pub returns : goal.returns
returns g c =
    behind (behind c.in_ok-print_bytes.ensures
    (as_text (ap (λ (atoms : List GroundAtom). join_by ground_atom_text (codes ", ") (members atoms c.args.set.now)) c.as_slice.ensures) c.in_ok-print_members.ensures))
    c.print_bytes-2.ensures
