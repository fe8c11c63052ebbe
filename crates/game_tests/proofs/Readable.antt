-- The sets of a game that was made of a text can be read.
use Rattle.std.proofs.Common.{ℕ, ◌≡◌, ap, ◌∙◌, sym, subst, List}
use Rattle.std.specs.Prelude.{Option, Some, None, Result, Ok, Err, IsTrue, IfOk, OnOk, IfSome}
use Rattle.std.specs.Result.{result_ok}
use Rattle.std.specs.Option.{option_or}
use Rattle.asp_defs.specs.declared.faults.SizeFault.{SizeFault}
use Rattle.asp_defs.specs.declared.faults.Which.TheVariants.{Constants, Atoms, Instances}
use Rattle.asp_defs.specs.declared.ground.Game.{Game}
use Rattle.asp_defs.specs.declared.syntax.Program.{Program}
use Rattle.asp_defs.specs.Checks.{is_checked}
use Rattle.asp_defs.specs.Games.{game_of}
use Rattle.asp_defs.specs.Grammar.{IsText}
use Rattle.asp_defs.specs.Limits.{past_limit}
use Rattle.asp_defs.specs.Sizes.{constant_total, atom_total, instance_total, game_too_large}
use Rattle.asp_atoms.specs.Answers.{base_too_large}
use Rattle.asp_check.specs.Condition.{IsCheckable}
use Rattle.asp_ground.proofs.Valid.{text_game_is_valid}
use Rattle.asp_sets.specs.Readable.{AreReadable}
use Rattle.asp_sets.proofs.Vocabulary.{text_bases_are_readable}

-- a text that was read is one of the program that passed the checks
pub text_from : {E : Type 0} (made : Result Program E) (bytes : List ℕ) (p : Program) → IsText bytes p → IfOk made (λ q. q ≡ p) → IfSome (result_ok made) (λ q. (bs : List ℕ) × IsText bs q)
text_from (Ok q) bytes p text same = (bytes, subst (λ (r : Program). IsText bytes r) (sym same) text)
text_from (Err fault) bytes p text same = tt

neither : {A : Type 0} (a b c : Option A) → option_or a b ≡ None → c ≡ None → option_or a (option_or b c) ≡ None
neither None b c h k = ap (λ x. option_or x c) h ∙ k
neither (Some x) b c h k = h

keeps_limits : (p : Program) → base_too_large p ≡ None → past_limit Instances (instance_total p) ≡ None → game_too_large p ≡ None
keeps_limits p few_atoms few_instances =
    neither (past_limit Constants (constant_total p)) (past_limit Atoms (atom_total p)) (past_limit Instances (instance_total p))
    few_atoms few_instances

pub readable_from : (made : Result Game SizeFault) (bytes : List ℕ) (p : Program) → IsText bytes p → IsTrue (is_checked p) → IsCheckable p → base_too_large p ≡ None
    → IfOk made (λ g. g ≡ game_of p) → OnOk made (past_limit Instances (instance_total p) ≡ None) → IfSome (result_ok made) (λ g. AreReadable g.bases)
readable_from (Ok g) bytes p text checked checkable few_atoms same few_instances =
    subst (λ (h : Game). AreReadable h.bases) (sym same)
    (text_bases_are_readable bytes p text (text_game_is_valid p checked checkable (keeps_limits p few_atoms few_instances)))
readable_from (Err fault) bytes p text checked checkable few_atoms same few_instances = tt
