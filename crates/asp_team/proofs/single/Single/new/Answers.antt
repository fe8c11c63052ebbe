use Rattle.std.proofs.Common.{◌≡◌, ap, ◌∙◌, []}
use Rattle.asp_defs.specs.declared.ground.Game.{Game}
use Rattle.asp_store.specs.Histories.{StoreState}
use Rattle.asp_team.proofs.Teams.{opened-team}
use Rattle.asp_team.proofs.single.Single.new.Goals as goal

pub returns : goal.returns
returns c =
    opened-team c.args.game.value c.args.budget c.args.cells c.in_ok-store.store c.new-2.result c.in_ok-new.field-0
    (c.in_ok-store.ensures ∙ ap (λ (g : Game). record { game = g; allowed = c.args.cells; history = [] }) c.in_ok-try_clone.ensures) c.new-2.ensures c.in_ok-new.ensures
