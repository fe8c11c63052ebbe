use Rattle.std.proofs.Common.{sym, subst}
use Rattle.std.specs.Prelude.{Option, IsTrue, IfSome}
use Rattle.asp_defs.specs.declared.ground.Game.{Game}
use Rattle.asp_defs.specs.declared.syntax.Program.{Program}
use Rattle.asp_defs.specs.Checks.{is_checked}
use Rattle.asp_check.specs.Condition.{IsCheckable}
use Rattle.asp_sets.specs.Readable.{AreReadable}
use Rattle.game_tests.proofs.Readable.{readable_from}
use Rattle.game_tests.proofs.sets.readable_game.Goals as goal

pub returns : goal.returns
returns c =
    subst (λ (game : Option Game). IfSome game (λ g. AreReadable g.bases)) (sym c.ok.ensures.value)
    (readable_from c.ground.result c.in_ok-checked.ensures.0 c.in_ok-checked.checked c.in_ok-checked.ensures.1
    (subst (λ (p : Program). IsTrue (is_checked p)) c.checked.view_is c.checked.invariant.0)
    (subst (λ (p : Program). IsCheckable p) c.checked.view_is c.checked.invariant.1)
    c.in-Ok.ensures.answers.small c.ground.ensures.game c.ground.ensures.small)
