use Rattle.std.proofs.Common.{arith, codes, ◌++◌, ◌-◌, option_copied, take, drop, length}
use Rattle.std.specs.List.{flat_map}
use Rattle.asp_defs.specs.Sets.{const_text}
use Rattle.asp_sets.proofs.Ends.{before_both, none_left, joined_is, as_end}
use Rattle.asp_sets.proofs.suffix.before_joined.Goals as goal

pub returns-in_err-before_each-in-len1-up : goal.returns-in_err-before_each-in-len1-up
returns-in_err-before_each-in-len1-up c =
    as_end c.args.text.now _ _ c.from_residual.result
    (joined_is const_text (codes ",") c.args.constants.now c.first-item.result (omega arith) c.first-item.is)
    (none_left c.args.text.now (const_text c.first-item.result) (flat_map (λ x. codes "," ++ const_text x) (take (length c.args.constants.now - 1) (drop 1 c.args.constants.now)))
    c.from_residual.result c.from_residual.ensures c.in_err-before_each-in-len1-up.ensures)

pub returns-in_ok-before_each-in-len1-up : goal.returns-in_ok-before_each-in-len1-up
returns-in_ok-before_each-in-len1-up c =
    as_end c.args.text.now _ _ c.before_constant.result
    (joined_is const_text (codes ",") c.args.constants.now c.first-item.result (omega arith) c.first-item.is)
    (before_both c.args.text.now (const_text c.first-item.result) (flat_map (λ x. codes "," ++ const_text x) (take (length c.args.constants.now - 1) (drop 1 c.args.constants.now)))
    c.in_ok-before_each-in-len1-up.field-0.now (option_copied c.before_constant.result) c.in_ok-before_each-in-len1-up.ensures c.before_constant.ensures)
