use Rattle.std.proofs.Common.{◌≡◌, ap, ◌∙◌, sym, subst}
use Rattle.std.specs.Prelude.{Option, Some, None, Result, Ok, Err, IsTrue, IfOk, OnOk, IfSome}
use Rattle.std.specs.Result.{result_ok}
use Rattle.std.specs.Option.{option_or}
use Rattle.asp_defs.specs.declared.faults.Which.TheVariants.{Constants, Atoms, Instances}
use Rattle.asp_defs.specs.declared.ground.Game.{Game}
use Rattle.asp_defs.specs.declared.syntax.Program.{Program}
use Rattle.asp_defs.specs.Checks.{is_checked}
use Rattle.asp_defs.specs.Games.{game_of, IsValid}
use Rattle.asp_defs.specs.declared.faults.SizeFault.{SizeFault}
use Rattle.asp_defs.specs.Limits.{past_limit}
use Rattle.asp_defs.specs.Sizes.{constant_total, atom_total, instance_total, game_too_large}
use Rattle.asp_atoms.specs.Answers.{base_too_large}
use Rattle.asp_check.specs.Condition.{IsCheckable}
use Rattle.asp_ground.proofs.Valid.{text_game_is_valid}
use Rattle.bases_tests.proofs.texts.game.Goals as goal

neither : {A : Type 0} (a b c : Option A) → option_or a b ≡ None → c ≡ None → option_or a (option_or b c) ≡ None
neither None b c h k = ap (λ x. option_or x c) h ∙ k
neither (Some x) b c h k = h

keeps_limits : (p : Program) → base_too_large p ≡ None → past_limit Instances (instance_total p) ≡ None → game_too_large p ≡ None
keeps_limits p few_atoms few_instances =
    neither (past_limit Constants (constant_total p)) (past_limit Atoms (atom_total p)) (past_limit Instances (instance_total p))
    few_atoms few_instances

-- a game that was made of a program is valid
valid_from : (made : Result Game SizeFault) (p : Program) → IsTrue (is_checked p) → IsCheckable p → base_too_large p ≡ None
    → IfOk made (λ g. g ≡ game_of p) → OnOk made (past_limit Instances (instance_total p) ≡ None) → IfSome (result_ok made) IsValid
valid_from (Ok g) p checked checkable few_atoms same few_instances =
    subst (λ (h : Game). IsValid h) (sym same) (text_game_is_valid p checked checkable (keeps_limits p few_atoms few_instances))
valid_from (Err fault) p checked checkable few_atoms same few_instances = tt

pub returns : goal.returns
returns c =
    subst (λ (game : Option Game). IfSome game IsValid) (sym c.ok.ensures.value)
    (valid_from c.ground.result c.in_ok-checked.checked
    (subst (λ (p : Program). IsTrue (is_checked p)) c.checked-2.view_is c.checked-2.invariant.0)
    (subst (λ (p : Program). IsCheckable p) c.checked-2.view_is c.checked-2.invariant.1)
    c.in-Ok.ensures.answers.small c.ground.ensures.game c.ground.ensures.small)
