use Rattle.std.proofs.Common.{◌++◌, List, sym, subst}
use Rattle.std.specs.List.{flat_map, filter}
use Rattle.std.proofs.lemmas.Result.{IfOk-weaker}
use Rattle.asp_defs.specs.declared.syntax.Term.{Term}
use Rattle.asp_defs.specs.declared.syntax.Literal.{Literal}
use Rattle.asp_defs.specs.Lists.{IsIn}
use Rattle.asp_defs.specs.Instances.{atom_variables, literal_variables}
use Rattle.asp_defs.specs.Safety.{is_variable_of, safe_variables}
use Rattle.asp_defs.proofs.Lists.{append_right}
use Rattle.asp_safety.specs.Variables.{terms_of}
use Rattle.asp_safety.specs.Bindings.{bound_alone, literal_links}
use Rattle.asp_safety.specs.Closure.{Within, IsLeast}
use Rattle.asp_safety.specs.Representatives.{representative_links}
use Rattle.asp_safety.specs.Safe.{AgreeOn}
use Rattle.asp_safety.proofs.Beside.{safe_beside}
use Rattle.asp_safety.proofs.safety.safe_of_element.Goals as goal

pub returns : goal.returns
returns c =
    let own : Within (flat_map literal_variables c.as_slice-cond.result.now) (terms_of c.args.variables.now) =
    λ v i. subst (λ (vs : List Term). IsIn v vs) (sym c.requires.variables)
    (append_right (atom_variables c.args.element.now.atom) (flat_map literal_variables c.args.element.now.cond) v
    (subst (λ (ls : List Literal). IsIn v (flat_map literal_variables ls)) c.as_slice-cond.ensures i)) in
    IfOk-weaker c.safe_beside.result
    (λ set. IsLeast (flat_map bound_alone c.as_slice-cond.result.now ++ filter (is_variable_of (terms_of c.args.safe.now.keys)) (terms_of c.args.variables.now))
    (flat_map literal_links c.as_slice-cond.result.now ++ flat_map (representative_links c.args.representatives.now.entries) (terms_of c.args.variables.now)) (terms_of set.keys))
    (λ set. AgreeOn (terms_of c.args.variables.now) (terms_of set.keys) (safe_variables (c.args.body.now ++ c.args.element.now.cond)))
    (λ set least. subst (λ (ls : List Literal). AgreeOn (terms_of c.args.variables.now) (terms_of set.keys) (safe_variables (c.args.body.now ++ ls))) c.as_slice-cond.ensures
    (safe_beside c.args.body.now c.as_slice-cond.result.now c.args.variables.now (terms_of c.args.safe.now.keys) (terms_of set.keys) c.args.representatives.now.entries c.requires.safe c.requires.representatives own least))
    c.safe_beside.ensures
