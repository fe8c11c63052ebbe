use Rattle.std.proofs.Common.{◌+◌, ◌∙◌, Some, sym, ap, arith, ℕ}
use Rattle.std.specs.Option.{option_map}
use Rattle.asp_defs.specs.declared.faults.Var.{Var}
use Rattle.asp_defs.specs.Safety.{shown_number}
use Rattle.asp_safety.specs.Variables.{term_of}
use Rattle.asp_check.proofs.Rules.{unsafe_here, unsafe_later}
use Rattle.asp_check.proofs.checks.unsafe_in.Goals as goal

pub returns-in-Some : goal.returns-in-Some
returns-in-Some c =
    ap (λ (n : ℕ). Some (n, c.in_ok-variable-2.variable)) c.shown_number.ensures
    ∙ (ap (λ (v : Var). Some (shown_number (c.loop-at.at + 1), v)) c.in_ok-variable-2.ensures
    ∙ unsafe_here c.args.rules.now c.loop-at.at c.index-rules-at.result (term_of c.in-Some.variable) (omega arith) c.index-rules-at.is c.loop-at.invariant
    (sym c.in_ok-variable.ensures ∙ ap (option_map term_of) c.in-Some.is))

pub loop-at-preserved : goal.loop-at-preserved
loop-at-preserved c =
    unsafe_later c.args.rules.now c.loop-at.at c.index-rules-at.result (omega arith) c.index-rules-at.is c.loop-at.invariant
    (sym c.in_ok-variable.ensures ∙ ap (option_map term_of) c.in_default.is)
