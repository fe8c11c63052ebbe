use Rattle.std.proofs.Common.{length, List, subst}
use Rattle.std.proofs.lemmas.List.Filters.{dedup_is}
use Rattle.asp_bits.specs.Places.{true_places}
use Rattle.asp_defs.specs.declared.ground.Counted.{Counted}
use Rattle.asp_defs.specs.Lists.{IsIn}
use Rattle.asp_reduct.proofs.Truths.{ascends-true_from}
use Rattle.asp_bounds.proofs.Counting.{bound-term}
use Rattle.asp_bounds.proofs.Sorting.{counted-settled}
use Rattle.asp_bounds.proofs.terms.counted.Goals as goal

pub repeated-requires : goal.repeated-requires
repeated-requires c = λ term i.
    bound-term (length c.args.set.now) c.args.bound.now term (subst (λ (cs : List Counted). IsIn term cs) c.as_slice.ensures i) c.requires

pub returns : goal.returns
returns c =
    counted-settled (true_places c.args.set.now) c.args.bound.now c.as_slice.result.now c.in_ok-atoms.atoms.items c.sort_unstable.new.self.items
    c.dedup.new.self.items (ascends-true_from 0 c.args.set.now) c.as_slice.ensures c.in_ok-atoms.ensures c.sort_unstable.ensures.permutation
    c.sort_unstable.ensures.sorted (dedup_is _ _ _ c.dedup.ensures.filtered)
