-- The line of a refused text is that of its first refusal, whichever of the reader, the checks and the limits refuses it.
use Rattle.std.proofs.Common.{◌<◌, ◌≤◌, ℕ, true, List, length, refl, sym, ap, subst, arith}
use Rattle.std.specs.Prelude.{◌≡◌, ◌≢◌, Option, Some, None, is_none, IsTrue}
use Rattle.asp_check.specs.declared.checks.CheckFault.{CheckFault}
use Rattle.asp_check.specs.declared.checks.CheckFault.TheVariants as check
use Rattle.asp_check.specs.Refusals.{IsRefusal}
use Rattle.asp_defs.specs.declared.faults.SizeFault.{SizeFault}
use Rattle.asp_defs.specs.declared.faults.SizeFault.TheVariants as size
use Rattle.asp_defs.specs.declared.faults.TextFault.{TextFault}
use Rattle.asp_defs.specs.declared.faults.TextFault.TheVariants as text
use Rattle.asp_defs.specs.declared.syntax.Program.{Program}
use Rattle.asp_defs.specs.Checks.{CheckRefusal, UnsafeRule, HeadedRule, PastLimit, check_refusal, is_checked, IsCheckedText}
use Rattle.asp_defs.specs.Sizes.{game_too_large, IsAccepted}
use Rattle.asp_defs.specs.declared.faults.Which.TheVariants.{Bytes}
use Rattle.asp_defs.specs.Limits.{limit}
use Rattle.asp_defs.specs.Grammar.{IsText}
use Rattle.asp_defs.specs.TextRefusals.{IsRefused}
use Rattle.asp_defs.specs.Runs.{NoText, FailedCheck, LargeGame}
use Rattle.asp_defs.proofs.TextRefutations.{clash}
use Rattle.asp_top.specs.Replies.{refusal_of_text, refusal_of_check, refusal_of_size, IsRefusedSo}
use Rattle.asp_ground.specs.Faults.{IsGameRefusal}

module _ (bytes : List ℕ) (short : limit Bytes < length bytes → ⊥) where
  -- a fault of the reader
  pub text_refused : (fault : TextFault) → (fault ≢ text.NoMemory → IsRefused bytes fault)
      → IsRefusedSo bytes (refusal_of_text fault)
  text_refused (text.BadByte place) h = NoText (text.BadByte place) short (h (λ e. cc)) refl
  text_refused (text.BadNumber place) h = NoText (text.BadNumber place) short (h (λ e. cc)) refl
  text_refused (text.OpenComment place) h = NoText (text.OpenComment place) short (h (λ e. cc)) refl
  text_refused text.NoLevel h = NoText text.NoLevel short (h (λ e. cc)) refl
  text_refused text.Unfinished h = NoText text.Unfinished short (h (λ e. cc)) refl
  text_refused (text.UnknownDirective place) h = NoText (text.UnknownDirective place) short (h (λ e. cc)) refl
  text_refused (text.BeforeLevel place) h = NoText (text.BeforeLevel place) short (h (λ e. cc)) refl
  text_refused (text.AfterConstraint place) h = NoText (text.AfterConstraint place) short (h (λ e. cc)) refl
  text_refused (text.Unexpected place) h = NoText (text.Unexpected place) short (h (λ e. cc)) refl
  text_refused text.NoMemory h = tt

  -- a fault of the checks
  pub check_refused : (p : Program) (fault : CheckFault) → IsText bytes p → IsRefusal p fault
      → IsRefusedSo bytes (refusal_of_check fault)
  check_refused p (check.Unsafe rule variable) is h = FailedCheck p (UnsafeRule rule variable) short is h refl
  check_refused p (check.NotConstraint rule) is h = FailedCheck p (HeadedRule rule) short is h refl
  check_refused p (check.TooLarge which count) is h = FailedCheck p (PastLimit which count) short is h refl
  check_refused p check.NoMemory is h = tt

-- ---- texts that pass the checks

no_refusal : (p : Program) → IsTrue (is_checked p) → check_refusal p ≡ None
no_refusal p h = go (check_refusal p) h
  where
    go : (o : Option CheckRefusal) → is_none o ≡ true → o ≡ None
    go None e = refl
    go (Some why) e = clash e

module _ (bytes : List ℕ) (p : Program) (text : IsCheckedText bytes p) where
  -- a fault for the size of the game
  pub size_refused : (fault : SizeFault) → IsGameRefusal p fault → IsRefusedSo bytes (refusal_of_size fault)
  size_refused (size.TooLarge which count) h =
      let short : length bytes ≤ limit Bytes = text.short in
      LargeGame p which count (λ past. let long : limit Bytes < length bytes = past in omega arith) text.text
      (no_refusal p text.checked) h refl
  size_refused size.NoMemory h = tt

  -- a game that keeps the limits
  pub accepted : (q : Program) → q ≡ p → game_too_large q ≡ None → IsAccepted bytes q
  accepted q same keeps =
      subst (λ (r : Program). game_too_large r ≡ None → IsAccepted bytes r) (sym same)
      (λ small. record { short = text.short; text = text.text; checked = text.checked; small = ap is_none small })
      keeps
