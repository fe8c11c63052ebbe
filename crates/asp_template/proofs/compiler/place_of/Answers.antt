use Rattle.std.proofs.Common.{sym, arith}
use Rattle.asp_defs.specs.Instances.{same_variable}
use Rattle.asp_safety.specs.Variables.{term_of}
use Rattle.asp_template.proofs.Steps.{mapped_place, mapped_none}
use Rattle.asp_template.proofs.compiler.place_of.Goals as goal

pub returns-then-is_same : goal.returns-then-is_same
returns-then-is_same c =
    sym (mapped_place term_of (same_variable (term_of c.args.variable)) c.args.variables.now c.loop-place.place _ (omega arith) (sym c.if-is_same.ensures) c.loop-place.invariant)

pub returns : goal.returns
returns c =
    sym (mapped_none term_of (same_variable (term_of c.args.variable)) c.args.variables.now c.loop-place.place (omega arith) c.loop-place.invariant)
