use Rattle.std.proofs.Common.{◌≡◌, ◌∙◌, ◌++◌, List, rules, ap, subst, not}
use Rattle.std.specs.List.{filter}
use Rattle.std.proofs.lemmas.Result.{IfOk-equal}
use Rattle.asp_defs.specs.declared.syntax.Term.{Term}
use Rattle.asp_defs.specs.Safety.{is_variable_of, element_variables, safe_variables}
use Rattle.asp_safety.specs.Variables.{terms_of}
use Rattle.asp_safety.specs.Safe.{AgreeOn, element_unsafe}
use Rattle.asp_safety.proofs.Unsafe.{unbound_is}
use Rattle.asp_safety.proofs.safety.add_element_unsafe.Goals as goal

pub returns : goal.returns
returns c =
    let mine : terms_of c.as_slice-2.result.now ≡ element_variables c.args.element.now = search rules in
    let given : terms_of c.as_slice.result.now ≡ element_variables c.args.element.now = search rules in
    let agree : AgreeOn (element_variables c.args.element.now) (terms_of c.in_ok-set.set.keys) (safe_variables (c.args.body.now ++ c.args.element.now.cond)) =
    subst (λ (vs : List Term). AgreeOn vs (terms_of c.in_ok-set.set.keys) (safe_variables (c.args.body.now ++ c.args.element.now.cond))) given c.in_ok-set.ensures in
    IfOk-equal c.add_others.result (terms_of c.add_others.new.out.items)
    (terms_of c.args.out.now.items ++ filter (λ v. not (is_variable_of (terms_of c.in_ok-set.set.keys) v)) (terms_of c.as_slice-2.result.now))
    (terms_of c.args.out.now.items ++ element_unsafe c.args.body.now c.args.element.now)
    c.add_others.ensures
    (ap (λ (vs : List Term). terms_of c.args.out.now.items ++ filter (λ v. not (is_variable_of (terms_of c.in_ok-set.set.keys) v)) vs) mine
    ∙ ap (λ (vs : List Term). terms_of c.args.out.now.items ++ vs)
    (unbound_is (terms_of c.in_ok-set.set.keys) (c.args.body.now ++ c.args.element.now.cond) (element_variables c.args.element.now) agree))
