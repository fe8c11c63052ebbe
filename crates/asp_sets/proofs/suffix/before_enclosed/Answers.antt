use Rattle.std.proofs.Common.{codes, ◌++◌, option_copied}
use Rattle.std.specs.List.{join_by}
use Rattle.asp_defs.specs.Sets.{const_text}
use Rattle.asp_sets.proofs.Ends.{before_both, none_left, middle_none}
use Rattle.asp_sets.proofs.suffix.before_enclosed.Goals as goal

pub returns-in_err-before : goal.returns-in_err-before
returns-in_err-before c =
    none_left c.args.text.now (codes "(" ++ join_by const_text (codes ",") c.args.constants.now) (codes ")") c.from_residual.result c.from_residual.ensures c.in_err-before.ensures

pub returns-in_err-before_joined : goal.returns-in_err-before_joined
returns-in_err-before_joined c =
    middle_none c.args.text.now (codes "(") (join_by const_text (codes ",") c.args.constants.now) (codes ")") c.in_ok-before.field-0.now
    c.from_residual-in_err-before_joined.result c.in_ok-before.ensures c.in_err-before_joined.ensures c.from_residual-in_err-before_joined.ensures

pub returns : goal.returns
returns c =
    before_both c.args.text.now (codes "(" ++ join_by const_text (codes ",") c.args.constants.now) (codes ")") c.in_ok-before.field-0.now (option_copied c.before-3.result)
    c.in_ok-before.ensures
    (before_both c.in_ok-before.field-0.now (codes "(") (join_by const_text (codes ",") c.args.constants.now) c.in_ok-before_joined.field-0.now (option_copied c.before-3.result)
    c.in_ok-before_joined.ensures c.before-3.ensures)
