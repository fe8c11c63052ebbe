use Rattle.std.proofs.Common.{◌≡◌, ◌∙◌, sym, arith}
use Rattle.asp_defs.specs.declared.syntax.Term.{Term}
use Rattle.asp_defs.specs.Safety.{is_variable_of}
use Rattle.asp_safety.specs.Variables.{terms_of}
use Rattle.asp_safety.proofs.Members.{same_test}
use Rattle.asp_safety.proofs.Unsafe.{found_here, found_later}
use Rattle.asp_safety.proofs.safety.first_of.Goals as goal

pub returns-then-has : goal.returns-then-has
returns-then-has c =
    let same : (v : Term) → is_variable_of (terms_of c.settle_all.new.safe.keys) v ≡ is_variable_of (terms_of c.args.others.now) v =
    same_test (terms_of c.settle_all.new.safe.keys) (terms_of c.args.others.now) c.in_ok-settle_all.ensures.only c.in_ok-settle_all.ensures.all in
    found_here (is_variable_of (terms_of c.args.others.now)) c.args.variables.now c.loop-variable.variable-index _ (omega arith) c.loop-variable.invariant
    (sym (same _) ∙ (sym c.has.ensures ∙ c.if-has.true))

pub loop-variable-preserved : goal.loop-variable-preserved
loop-variable-preserved c =
    let same : (v : Term) → is_variable_of (terms_of c.settle_all.new.safe.keys) v ≡ is_variable_of (terms_of c.args.others.now) v =
    same_test (terms_of c.settle_all.new.safe.keys) (terms_of c.args.others.now) c.in_ok-settle_all.ensures.only c.in_ok-settle_all.ensures.all in
    found_later (is_variable_of (terms_of c.args.others.now)) c.args.variables.now c.loop-variable.variable-index _ (omega arith) c.loop-variable.invariant
    (sym (same _) ∙ (sym c.has.ensures ∙ c.if-has.false))
