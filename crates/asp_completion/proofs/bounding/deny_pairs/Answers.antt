use Rattle.std.proofs.Common.{List, ◌+◌, get_or, take, sym, subst}
use Rattle.asp_defs.specs.declared.ground.Counted.{Counted}
use Rattle.asp_defs.specs.Lists.{IsIn}
use Rattle.asp_defs.proofs.Lists.{map_from}
use Rattle.asp_completion.specs.Completions.{Completes}
use Rattle.asp_completion.specs.AtOnce.{atoms_of, NoneOfBoth, HasNoTwo}
use Rattle.asp_completion.proofs.Loops.{item-in}
use Rattle.asp_completion.proofs.Headed.{completes-both}
use Rattle.asp_completion.proofs.BoundSteps.{two-forth, two-back, atoms-before}
use Rattle.asp_completion.proofs.bounding.deny_pairs.Goals as goal

pub deny_with-requires-clause-first : goal.deny_with-requires-clause-first
deny_with-requires-clause-first c =
    let terms = c.as_slice-terms.result.now in
    let k = c.loop-place.place in
    let t = get_or terms k c.index-terms-place.result in
    map_from (λ (x : Counted). x.atom) c.args.bound.now.counted t
    (subst (λ (xs : List Counted). IsIn t xs) c.as_slice-terms.ensures (item-in terms k c.index-terms-place.result c.loop-place-test.true))

pub deny_with-requires-clause-others : goal.deny_with-requires-clause-others
deny_with-requires-clause-others c a i =
    subst (λ (xs : List Counted). IsIn a (atoms_of xs)) c.as_slice-terms.ensures (atoms-before c.as_slice-terms.result.now c.loop-place.place a i)

pub loop-place-preserved : goal.loop-place-preserved
loop-place-preserved c =
    let l = c.args.level.now in
    let b = c.args.bound.now in
    let k = c.loop-place.place in
    let terms = c.as_slice-terms.result.now in
    let t = c.index-terms-place.result in
    completes-both l (HasNoTwo b (atoms_of (take k terms))) (NoneOfBoth b t.atom (atoms_of (take k terms))) (HasNoTwo b (atoms_of (take (k + 1) terms)))
    c.args.search.now c.loop-place.search c.deny_with.new.search
    (λ N. two-forth terms k t c.loop-place-test.true c.index-terms-place.is b N)
    (λ N. two-back terms k t c.loop-place-test.true c.index-terms-place.is b N)
    c.loop-place.invariant
    (subst (λ (x : Counted). Completes l (NoneOfBoth b x.atom (atoms_of (take k terms))) c.loop-place.search c.deny_with.new.search)
    (sym c.index-terms-place.is) c.in_ok-deny_with.ensures)
