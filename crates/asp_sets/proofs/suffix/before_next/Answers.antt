use Rattle.std.proofs.Common.{codes, option_copied}
use Rattle.asp_defs.specs.Sets.{const_text}
use Rattle.asp_sets.proofs.Ends.{before_both, none_left}
use Rattle.asp_sets.proofs.suffix.before_next.Goals as goal

pub returns-in_err-before_constant : goal.returns-in_err-before_constant
returns-in_err-before_constant c =
    none_left c.args.text.now (codes ",") (const_text c.args.constant.now) c.from_residual.result c.from_residual.ensures c.in_err-before_constant.ensures

pub returns : goal.returns
returns c =
    before_both c.args.text.now (codes ",") (const_text c.args.constant.now) c.in_ok-before_constant.field-0.now (option_copied c.before-2.result)
    c.in_ok-before_constant.ensures c.before-2.ensures
