use Rattle.std.proofs.Common.{sym, arith}
use Rattle.asp_defs.specs.Instances.{same_variable}
use Rattle.asp_safety.specs.Variables.{term_of}
use Rattle.asp_template.proofs.Steps.{mapped_any}
use Rattle.asp_template.proofs.variables.is_among.Goals as goal

pub returns-then-is_same : goal.returns-then-is_same
returns-then-is_same c =
    sym (mapped_any term_of (same_variable (term_of c.args.variable)) c.args.variables.now c.loop-other.other-index _ (omega arith) (sym c.if-is_same.ensures))
