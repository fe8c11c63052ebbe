-- What is said of an accepted program is right of its text.
use Rattle.std.proofs.Common.{◌≡◌, ℕ, List, refl, subst, sym}
use Rattle.std.specs.Prelude.{IfOk, Result, Ok, Err}
use Rattle.asp_defs.specs.declared.syntax.Program.{Program}
use Rattle.asp_defs.specs.Sizes.{IsAccepted}
use Rattle.asp_top.specs.declared.words.Tuning.{Tuning}
use Rattle.asp_top.specs.declared.words.Command.{Command}
use Rattle.asp_top.specs.declared.words.Command.TheVariants.{Solve}
use Rattle.asp_top.specs.declared.answer.Answer.{Answer}
use Rattle.asp_top.specs.declared.answer.Answer.TheVariants.{Refused, Accepted, Verdict, Unknown}
use Rattle.asp_top.specs.Replies.{IsRight}
use Rattle.asp_top.specs.Solved.{IsSolved}

right : (command : Command) (tuning : Tuning) (bytes : List ℕ) (p : Program) (answer : Answer) → command ≡ Solve tuning → IsSolved tuning p answer
    → IsAccepted bytes p → IsRight command bytes answer
right command tuning bytes p (Refused line) is h text = absurd h
right command tuning bytes p (Accepted q) is h text = absurd h
right command tuning bytes p (Verdict verdict t) is h text = (tuning, p, is, text, h)
right command tuning bytes p (Unknown u t) is h text = (tuning, p, is, text, h)

pub solved_so : {E : Type 0} (command : Command) (tuning : Tuning) (p : Program) (result : Result Answer E) → command ≡ Solve tuning
    → IfOk result (IsSolved tuning p) → IfOk result (λ answer. (bytes : List ℕ) → IsAccepted bytes p → IsRight command bytes answer)
solved_so command tuning p (Ok answer) is h = λ bytes text. right command tuning bytes p answer is h text
solved_so command tuning p (Err e) is h = tt
