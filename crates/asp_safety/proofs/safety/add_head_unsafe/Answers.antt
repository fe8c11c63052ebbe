use Rattle.std.proofs.Common.{◌≡◌, ◌∙◌, ◌++◌, List, rules, sym, ap, not}
use Rattle.std.specs.List.{flat_map, filter}
use Rattle.std.proofs.lemmas.Result.{IfOk-equal}
use Rattle.asp_defs.specs.declared.syntax.Term.{Term}
use Rattle.asp_defs.specs.declared.syntax.Head.{Head}
use Rattle.asp_defs.specs.declared.syntax.Head.TheVariants.{Disj}
use Rattle.asp_defs.specs.Instances.{atom_variables}
use Rattle.asp_defs.specs.Safety.{is_variable_of, head_unsafe}
use Rattle.asp_safety.specs.Variables.{terms_of}
use Rattle.asp_safety.proofs.Unsafe.{unbound_is}
use Rattle.asp_safety.proofs.safety.add_head_unsafe.Goals as goal

pub returns-in_ok-variables-in-Disj : goal.returns-in_ok-variables-in-Disj
returns-in_ok-variables-in-Disj c =
    let mine : terms_of c.as_slice-in-Disj.result.now ≡ flat_map atom_variables c.in-Disj.atoms = search rules in
    let head : head_unsafe c.args.body.now (Disj c.in-Disj.atoms) ≡ head_unsafe c.args.body.now c.args.head.now = ap (λ (h : Head). head_unsafe c.args.body.now h) (sym c.in-Disj.is) in
    IfOk-equal c.add_others.result (terms_of c.add_others.new.out.items)
    (terms_of c.args.out.now.items ++ filter (λ v. not (is_variable_of (terms_of c.args.safe.now.keys) v)) (terms_of c.as_slice-in-Disj.result.now))
    (terms_of c.args.out.now.items ++ head_unsafe c.args.body.now c.args.head.now)
    c.add_others.ensures
    (ap (λ (vs : List Term). terms_of c.args.out.now.items ++ filter (λ v. not (is_variable_of (terms_of c.args.safe.now.keys) v)) vs) mine
    ∙ (ap (λ (vs : List Term). terms_of c.args.out.now.items ++ vs)
    (unbound_is (terms_of c.args.safe.now.keys) c.args.body.now (flat_map atom_variables c.in-Disj.atoms) (λ v i. c.requires.safe v))
    ∙ ap (λ (vs : List Term). terms_of c.args.out.now.items ++ vs) head))
