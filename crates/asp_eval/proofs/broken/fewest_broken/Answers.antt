use Rattle.std.proofs.Common.{arith}
use Rattle.asp_bits.specs.Places.{true_places}
use Rattle.asp_eval.proofs.Searching.{found_more, found_all}
use Rattle.asp_eval.proofs.broken.fewest_broken.Goals as goal

pub loop-place-preserved : goal.loop-place-preserved
loop-place-preserved c =
    found_more (true_places c.args.set.now) c.args.rules.now c.loop-place.place c.loop-place.found c.fewer_at-found.result
    (omega arith) c.loop-place.invariant c.fewer_at-found.ensures

pub returns : goal.returns
returns c =
    found_all (true_places c.args.set.now) c.args.rules.now c.loop-place.place c.loop-place.found (omega arith) c.loop-place.invariant
