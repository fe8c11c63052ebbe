use Rattle.std.proofs.Common.{codes, option_copied}
use Rattle.asp_defs.specs.Sets.{ground_atom_text}
use Rattle.asp_sets.proofs.Ends.{before_both, none_left}
use Rattle.asp_sets.proofs.suffix.before_member.Goals as goal

pub returns-in_err-before_atom : goal.returns-in_err-before_atom
returns-in_err-before_atom c =
    none_left c.args.text.now (codes ", ") (ground_atom_text c.args.atom.now) c.from_residual.result c.from_residual.ensures c.in_err-before_atom.ensures

pub returns : goal.returns
returns c =
    before_both c.args.text.now (codes ", ") (ground_atom_text c.args.atom.now) c.in_ok-before_atom.field-0.now (option_copied c.before-2.result)
    c.in_ok-before_atom.ensures c.before-2.ensures
