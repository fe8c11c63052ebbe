use Rattle.std.proofs.Common.{◌+◌, take, sym, subst}
use Rattle.asp_defs.specs.declared.ground.Counted.{Counted}
use Rattle.asp_defs.specs.Lists.{IsIn}
use Rattle.asp_defs.proofs.Lists.{map_from}
use Rattle.asp_completion.specs.AtOnce.{atoms_of, AreNotBoth, NoneOfBoth}
use Rattle.asp_completion.proofs.Loops.{item-in}
use Rattle.asp_completion.proofs.Headed.{completes-both}
use Rattle.asp_completion.proofs.BoundSteps.{none-forth, none-back}
use Rattle.asp_completion.proofs.bounding.deny_with.Goals as goal

pub deny_pair-requires-clause-second : goal.deny_pair-requires-clause-second
deny_pair-requires-clause-second c =
    let others = c.args.others.now in
    let t = c.other-item.result in
    c.requires.others t.atom
    (map_from (λ (x : Counted). x.atom) others t
    (subst (λ (x : Counted). IsIn x others) (sym c.other-item.is) (item-in others c.loop-other.other-index t c.loop-other-test.true)))

pub loop-other-preserved : goal.loop-other-preserved
loop-other-preserved c =
    let l = c.args.level.now in
    let b = c.args.bound.now in
    let first = c.args.first in
    let k = c.loop-other.other-index in
    let others = c.args.others.now in
    let t = c.other-item.result in
    completes-both l (NoneOfBoth b first (atoms_of (take k others))) (AreNotBoth b first t.atom) (NoneOfBoth b first (atoms_of (take (k + 1) others)))
    c.args.search.now c.loop-other.search c.deny_pair.new.search
    (λ N. none-forth others k t c.loop-other-test.true c.other-item.is b first N)
    (λ N. none-back others k t c.loop-other-test.true c.other-item.is b first N)
    c.loop-other.invariant c.in_ok-deny_pair.ensures
