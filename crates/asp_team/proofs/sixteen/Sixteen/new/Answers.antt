use Rattle.std.proofs.Common.{◌≡◌}
use Rattle.asp_team.proofs.Wrapping.{unfinished-all, all-wrapped}
use Rattle.asp_team.proofs.sixteen.Sixteen.new.Goals as goal

pub around-eight-requires : goal.around-eight-requires
around-eight-requires c =
    unfinished-all c.args.game.now.value c.args.budget c.in_ok-levels.levels.items c.in_ok-base.base c.requires.valid c.in_ok-levels.ensures c.in_ok-base.ensures

pub returns : goal.returns
returns c =
    all-wrapped c.args.game.now.value c.args.budget c.in_ok-levels.levels.items c.around-eight.new.levels.items c.around.new.levels.items c.in_ok-base.base c.around-eight.result
    c.around.result c.requires.valid c.in_ok-levels.ensures c.in_ok-base.ensures.game c.in_ok-base.ensures.budget c.around-eight.ensures c.around.ensures
