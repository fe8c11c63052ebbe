use Rattle.std.proofs.Common.{List, ◌<◌, ◌≤◌, subst, arith}
use Rattle.std.proofs.lemmas.Result.{on_ok_weaker}
use Rattle.asp_defs.specs.declared.ground.Bound.{Bound}
use Rattle.asp_completion.specs.Levels.{bounds_at}
use Rattle.asp_completion.specs.AtOnce.{HaveOne, HaveNoTwo, AreMetAtOnce, pairs}
use Rattle.asp_completion.proofs.Headed.{completes-both, completes-as}
use Rattle.asp_completion.proofs.bounding.add_bounds.Goals as goal

pub returns-then-not-are_few : goal.returns-then-not-are_few
returns-then-not-are_few c =
    let l = c.args.level.now in
    let bounds = bounds_at l in
    let many : 20000 < pairs bounds = subst (λ (bs : List Bound). 20000 < pairs bs) c.bounds.ensures (c.are_few.ensures.many c.if-not-are_few.true) in
    completes-as l (HaveOne bounds) (AreMetAtOnce bounds) c.args.search.now c.add_ones.new.search
    (λ N one. record { one = one; no_two = λ few. absurd (omega (arith, many, few)) }) (λ N all. all.one) c.in_ok-add_ones.ensures

pub returns : goal.returns
returns c =
    let l = c.args.level.now in
    let bounds = bounds_at l in
    let few : pairs bounds ≤ 20000 = subst (λ (bs : List Bound). pairs bs ≤ 20000) c.bounds.ensures (c.are_few.ensures.few c.if-not-are_few.false) in
    on_ok_weaker c.add_no_twos.result
    (completes-both l (HaveOne bounds) (HaveNoTwo bounds) (AreMetAtOnce bounds) c.args.search.now c.add_ones.new.search c.add_no_twos.new.search
    (λ N one two. record { one = one; no_two = λ less. two }) (λ N all. (all.one, all.no_two few)) c.in_ok-add_ones.ensures)
    c.add_no_twos.ensures
