-- The bytes that are taken of a source that tells its bytes: what is right to say of them is right to say of all its bytes.
use Rattle.std.proofs.Common.{◌≡◌, ◌<◌, ◌≤◌, ◌+◌, ℕ, List, length, take, drop, take_all, length-take, ap, ◌∙◌, subst, inl, inr, arith}
use Rattle.std.specs.Prelude.{Option, Some, None, min}
use Rattle.std.proofs.lemmas.Bool.{cases_lt}
use Rattle.asp_defs.specs.declared.syntax.Program.{Program}
use Rattle.asp_defs.specs.Sizes.{IsAccepted}
use Rattle.asp_defs.specs.declared.faults.Which.TheVariants.{Bytes}
use Rattle.asp_defs.specs.Limits.{limit}
use Rattle.asp_defs.specs.Runs.{most_read, TooLong, NoText, FailedCheck, LargeGame}
use Rattle.asp_io.specs.Moved.{TakesFirst}
use Rattle.asp_top.specs.declared.words.Command.{Command}
use Rattle.asp_top.specs.declared.answer.Answer.{Answer}
use Rattle.asp_top.specs.declared.answer.Answer.TheVariants.{Refused, Accepted, Verdict, Unknown}
use Rattle.asp_print.specs.LineTexts.{line_text}
use Rattle.asp_top.specs.Answers.{IsRefusedWith}
use Rattle.asp_top.specs.Replies.{IsSolvedText, IsRight}

-- the bytes that were taken, where the source tells what it had
pub taken_first : (before now : Option (List ℕ)) (most : ℕ) (taken bytes : List ℕ)
    → TakesFirst before now most taken → before ≡ Some bytes → taken ≡ take most bytes
taken_first before now most taken bytes h told =
    go now (subst (λ (o : Option (List ℕ)). TakesFirst o now most taken) told h)
  where
    go : (o : Option (List ℕ)) → TakesFirst (Some bytes) o most taken → taken ≡ take most bytes
    go None k = absurd k
    go (Some rest) k = k.0

-- the bytes that are left, where the source tells what it had
pub rest_left : (before now : Option (List ℕ)) (most : ℕ) (taken bytes : List ℕ)
    → TakesFirst before now most taken → before ≡ Some bytes → now ≡ Some (drop most bytes)
rest_left before now most taken bytes h told =
    go now (subst (λ (o : Option (List ℕ)). TakesFirst o now most taken) told h)
  where
    go : (o : Option (List ℕ)) → TakesFirst (Some bytes) o most taken → o ≡ Some (drop most bytes)
    go None k = absurd k
    go (Some rest) k = ap Some k.1

-- a byte more than the limit on bytes is asked for
pub taken_of_text : (allowed : ℕ) (before now : Option (List ℕ)) (taken : List ℕ)
    → allowed ≡ limit Bytes → TakesFirst before now (allowed + 1) taken → TakesFirst before now most_read taken
taken_of_text allowed before now taken same h = subst (λ (n : ℕ). TakesFirst before now (n + 1) taken) same h

-- what was taken of bytes, where it may be more than a text has
module _ (bytes taken : List ℕ) (first : taken ≡ take most_read bytes) where
  taken_length : length taken ≡ min most_read (length bytes)
  taken_length = ap length first ∙ length-take most_read bytes

  -- no more bytes than a text has are all bytes
  all_taken : length taken ≤ limit Bytes → taken ≡ bytes
  all_taken short =
      let is = taken_length in
      let within : length bytes ≤ most_read = omega arith in
      first ∙ take_all most_read bytes within

  all_unless : (limit Bytes < length taken → ⊥) → taken ≡ bytes
  all_unless short = elim (cases_lt (limit Bytes) (length taken)) [
    | inl past ↦ absurd (short past)
    | inr within ↦ all_taken within
  ]

  accepted_whole : (p : Program) → IsAccepted taken p → IsAccepted bytes p
  accepted_whole p text =
      let short : length taken ≤ limit Bytes = text.short in
      subst (λ bs. IsAccepted bs p) (all_taken short) text

  refused_whole : (output : List ℕ) → IsRefusedWith taken output → IsRefusedWith bytes output
  refused_whole output (TooLong long is) =
      let past : limit Bytes < length taken = long in
      let same = taken_length in
      let more : limit Bytes < length bytes = omega arith in
      TooLong more is
  refused_whole output (NoText fault short refused is) =
      subst (λ bs. IsRefusedWith bs output) (all_unless short) (NoText fault short refused is)
  refused_whole output (FailedCheck p why short text fails is) =
      subst (λ bs. IsRefusedWith bs output) (all_unless short) (FailedCheck p why short text fails is)
  refused_whole output (LargeGame p which count short text passes large is) =
      subst (λ bs. IsRefusedWith bs output) (all_unless short) (LargeGame p which count short text passes large is)

  solved_whole : (command : Command) (answer : Answer) → IsSolvedText command taken answer → IsSolvedText command bytes answer
  solved_whole command answer (tuning, p, is, text, solved) = (tuning, p, is, accepted_whole p text, solved)

  -- what is right of the bytes that were taken is right of all
  pub right_of_all : (command : Command) (answer : Answer) → IsRight command taken answer → IsRight command bytes answer
  right_of_all command (Refused line) h = refused_whole (line_text line) h
  right_of_all command (Accepted p) (is, text) = (is, accepted_whole p text)
  right_of_all command (Verdict verdict t) h = solved_whole command (Verdict verdict t) h
  right_of_all command (Unknown u t) h = solved_whole command (Unknown u t) h
