use Rattle.std.proofs.Common.{length}
use Rattle.asp_eval.proofs.Choosing.{part_low, part_with}
use Rattle.asp_eval.proofs.thinning.add_only_cover.Goals as goal

pub set-requires : goal.set-requires
set-requires c =
    part_low c.args.chosen.now (length c.args.set.now) c.in-Some.atom c.args.needed.now c.requires.chosen c.requires.part (c.only_cover.ensures c.in-Some.atom c.in-Some.is)

pub returns-in-Some : goal.returns-in-Some
returns-in-Some c =
    part_with c.args.chosen.now (length c.args.set.now) c.in-Some.atom c.args.needed.now c.set.new.self c.requires.chosen c.requires.part
    (c.only_cover.ensures c.in-Some.atom c.in-Some.is) c.set.ensures
