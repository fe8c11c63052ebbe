use Rattle.std.proofs.Common.{◌≡◌, ◌∙◌, ap, List, ◌++◌, take, drop, length, replicate, arith}
use Rattle.std.specs.List.{flat_map}
use Rattle.std.proofs.lemmas.Result.{IfOk-equal}
use Rattle.asp_defs.specs.declared.ground.Counted.{Counted}
use Rattle.asp_defs.specs.Bases.{product}
use Rattle.asp_ground.specs.BoundTemplates.{term_at, terms_at}
use Rattle.asp_ground.proofs.Rooms.{room}
use Rattle.asp_ground.proofs.bounds.add_element.Goals as goal

pub returns : goal.returns
returns c =
    let given = length c.args.ranks.now in
    let all = c.as_mut_slice.result.now in
    let count = c.len.result in
    IfOk-equal c.add_terms.result c.add_terms.new.out
    (c.args.out.now ++ flat_map (λ rest. term_at c.args.size c.args.element.now (take given all ++ rest)) (product (drop given (replicate count c.args.universe.now))))
    (c.args.out.now ++ terms_at c.args.size c.args.universe.now c.args.ranks.now c.args.element.now)
    c.add_terms.ensures.added
    (ap (λ (ts : List Counted). c.args.out.now ++ ts)
    (room c.args.size c.args.universe.now c.args.ranks.now all c.args.element.now given count (let same : given ≡ length c.args.ranks.now = omega arith in same)
    (let l = c.len.ensures in let v = c.as_mut_slice.ensures.len in let o = c.in_ok-all.all.ok in omega (arith, l, v, o))
    (c.as_mut_slice.ensures.value ∙ c.in_ok-all.ensures)))
