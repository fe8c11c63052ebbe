use Rattle.std.proofs.Common.{◌∙◌, refl, pos, get_or, arith, rules, SFits, w64, to_z, of_z, to_z-of_z}
use Rattle.asp_atoms.specs.Gaps.{apart_from, first_low}
use Rattle.asp_atoms.specs.Universes.{between}
use Rattle.asp_atoms.proofs.Loops.{apart_more}
use Rattle.asp_atoms.proofs.intervals.apart.Goals as goal

pub loop-interval-preserved : goal.loop-interval-preserved
loop-interval-preserved c =
    let s : SFits w64 c.in_ok-free.free = search rules in
    apart_more (apart_from (first_low c.args.intervals.now) c.args.intervals.now) c.args.intervals.now c.loop-interval.interval-index
    (get_or c.args.intervals.now c.loop-interval.interval-index (between (pos 0) (pos 0))) (between (pos 0) (pos 0)) (to_z w64 c.loop-interval.free-bits)
    c.loop-interval.out.items c.add_apart.new.out.items (to_z w64 (of_z w64 c.in_ok-free.free)) (omega arith) refl
    c.loop-interval.invariant c.in_ok-free.ensures.added (to_z-of_z s ∙ c.in_ok-free.ensures.free)
