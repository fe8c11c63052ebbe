use Rattle.std.proofs.Common.{◌≡◌, ◌∙◌, ◌++◌, List, not, subst, ap, rules}
use Rattle.std.specs.List.{flat_map, filter}
use Rattle.std.proofs.lemmas.Result.{IfOk-weaker}
use Rattle.asp_defs.specs.declared.syntax.Literal.{Literal}
use Rattle.asp_defs.specs.Instances.{literal_variables}
use Rattle.asp_defs.specs.Safety.{is_variable_of, safe_variables, head_unsafe, rule_unsafe}
use Rattle.asp_safety.specs.Variables.{terms_of}
use Rattle.asp_safety.specs.Safe.{Agree}
use Rattle.asp_safety.proofs.Unsafe.{rule_unsafe_is}
use Rattle.asp_safety.proofs.safety.rule_unsafe.Goals as goal

pub returns : goal.returns
returns c =
    let agree : Agree (terms_of c.in_ok-safe.safe.keys) (safe_variables c.args.rule.now.body) =
    subst (λ (b : List Literal). Agree (terms_of c.in_ok-safe.safe.keys) (safe_variables b)) c.as_slice-body.ensures c.in_ok-safe.ensures in
    let mine : terms_of c.as_slice.result.now ≡ flat_map literal_variables c.as_slice-body.result.now = search rules in
    let written : terms_of c.as_slice.result.now ≡ flat_map literal_variables c.args.rule.now.body =
    mine ∙ ap (flat_map literal_variables) c.as_slice-body.ensures in
    IfOk-weaker c.unsafe_beside.result
    (λ out. terms_of out.items ≡ head_unsafe c.args.rule.now.body c.args.rule.now.head ++ filter (λ v. not (is_variable_of (terms_of c.in_ok-safe.safe.keys) v)) (terms_of c.as_slice.result.now))
    (λ out. terms_of out.items ≡ rule_unsafe c.args.rule.now)
    (λ out e. e ∙ rule_unsafe_is c.args.rule.now (terms_of c.in_ok-safe.safe.keys) (terms_of c.as_slice.result.now) agree written)
    c.unsafe_beside.ensures
