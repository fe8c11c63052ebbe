use Rattle.std.proofs.Common.{◌≡◌, sym, subst}
use Rattle.std.specs.Prelude.{None, Result, Ok, Err, IfOk, IsTrue}
use Rattle.asp_defs.specs.declared.ground.Game.{Game}
use Rattle.asp_defs.specs.declared.syntax.Program.{Program}
use Rattle.asp_defs.specs.Checks.{is_checked}
use Rattle.asp_defs.specs.Games.{game_of, IsValid}
use Rattle.asp_defs.specs.Sizes.{game_too_large}
use Rattle.asp_check.specs.Condition.{IsCheckable}
use Rattle.asp_ground.proofs.Levels.{few_in_bases}
use Rattle.asp_ground.proofs.Valid.{text_game_is_valid}
use Rattle.asp_top.proofs.solve.game.Goals as goal

-- a game that was made of a program is valid
valid_from : {E : Type 0} (made : Result Game E) (p : Program) → IsTrue (is_checked p) → IsCheckable p → game_too_large p ≡ None
    → IfOk made (λ g. g ≡ game_of p) → IfOk made IsValid
valid_from (Ok g) p checked checkable small same =
    subst (λ (h : Game). IsValid h) (sym same) (text_game_is_valid p checked checkable small)
valid_from (Err e) p checked checkable small same = tt

pub bases_over-requires-clause-small : goal.bases_over-requires-clause-small
bases_over-requires-clause-small c = few_in_bases c.args.checked.now c.requires.small

pub returns-clause-valid : goal.returns-clause-valid
returns-clause-valid c =
    valid_from c.instantiate.result c.args.checked.now c.program-program.ensures.checked c.program-program.ensures.checkable c.requires.small
    c.instantiate.ensures
