use Rattle.std.proofs.Common.{◌<◌, length, get_or, nat_lt, ◌∙◌, arith}
use Rattle.std.proofs.lemmas.Bool.{ltb-true}
use Rattle.std.proofs.lemmas.List.{length-set}
use Rattle.asp_defs.proofs.Lists.{all_at}
use Rattle.asp_completion.proofs.Places.{in_at}
use Rattle.asp_completion.proofs.Bases.{ranks-step, ranks-all}
use Rattle.asp_completion.proofs.ranks.places.Goals as goal

pub loop-place-preserved : goal.loop-place-preserved
loop-place-preserved c =
    let B = c.args.base.now in
    let i = c.loop-place.place in
    let h : i < length B = omega arith in
    let small : get_or B i 0 < c.args.atoms =
    ltb-true (get_or B i 0) c.args.atoms (all_at (λ a. nat_lt a c.args.atoms) B (get_or B i 0) c.requires.below (in_at B i h)) in
    let size = c.loop-place.invariant.0 in
    let fits : get_or B i 0 < length c.loop-place.ranks.items = omega (arith, size) in (
      length-set c.loop-place.ranks.items (get_or B i 0) i ∙ size,
      ranks-step B c.loop-place.ranks.items i c.requires.ascending h fits c.loop-place.invariant.1,
    )

pub returns : goal.returns
returns c =
    ranks-all c.args.base.now c.loop-place.ranks.items c.args.atoms c.loop-place.invariant.0
    (λ k h. c.loop-place.invariant.1 k (omega arith))
