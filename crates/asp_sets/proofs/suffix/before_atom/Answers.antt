use Rattle.std.proofs.Common.{◌++◌, option_copied, ap, sym, ◌∙◌}
use Rattle.asp_defs.specs.Sets.{const_text}
use Rattle.asp_sets.proofs.Ends.{before_both, none_left, applied_some, untrue, as_end, named, enclosed}
use Rattle.asp_sets.proofs.suffix.before_atom.Goals as goal

pub returns-in_err-before_enclosed : goal.returns-in_err-before_enclosed
returns-in_err-before_enclosed c =
    as_end c.args.text.now _ _ c.from_residual.result
    (applied_some const_text c.args.atom.now.name c.args.atom.now.args (untrue _ _ _ c.is_empty.ensures c.if-is_empty.false))
    (none_left c.args.text.now c.args.atom.now.name (enclosed c.args.atom.now.args) c.from_residual.result c.from_residual.ensures
    (named (λ args before. before ++ enclosed args) c.args.text.now c.as_slice-else-is_empty.result.now c.args.atom.now.args c.as_slice-else-is_empty.ensures c.in_err-before_enclosed.ensures))

pub returns-in_ok-before_enclosed : goal.returns-in_ok-before_enclosed
returns-in_ok-before_enclosed c =
    as_end c.args.text.now _ _ c.before-else-is_empty.result
    (ap (λ l. l ++ enclosed c.args.atom.now.args) c.as_slice-else-is_empty-2.ensures
    ∙ applied_some const_text c.args.atom.now.name c.args.atom.now.args (untrue _ _ _ c.is_empty.ensures c.if-is_empty.false))
    (before_both c.args.text.now c.as_slice-else-is_empty-2.result.now (enclosed c.args.atom.now.args) c.in_ok-before_enclosed.field-0.now (option_copied c.before-else-is_empty.result)
    (sym (ap (λ args. c.in_ok-before_enclosed.field-0.now ++ enclosed args) c.as_slice-else-is_empty.ensures) ∙ c.in_ok-before_enclosed.ensures) c.before-else-is_empty.ensures)
