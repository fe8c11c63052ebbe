use Rattle.std.proofs.Common.{◌∙◌, ◌++◌, List, map, false, ap}
use Rattle.asp_bits.specs.Places.{true_places}
use Rattle.asp_defs.specs.declared.ground.Lit.{Lit}
use Rattle.asp_bounds.specs.Terms.{literal}
use Rattle.asp_bounds.proofs.Denying.{body-denial}
use Rattle.asp_bounds.proofs.denials.body_denial.Goals as goal

pub returns : goal.returns
returns c =
    body-denial c.args.bound.now (true_places c.args.set.now) c.as_slice.result.now c.as_slice-2.result.now c.push_literals.new.clause.items
    c.push_literals-2.new.clause.items c.as_slice.ensures c.as_slice-2.ensures c.requires
    (c.in_ok-push_literals.ensures ∙ ap (λ (ls : List Lit). ls ++ map (literal false) c.as_slice.result.now) c.new-clause.ensures.items)
    c.in_ok-push_literals-2.ensures
