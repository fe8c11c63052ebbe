-- What a call that prints a text does to its sink and to the bytes that are held for it.
use Rattle.std.specs.Prelude.{ℕ, ◌≡◌, List, ◌++◌, Option, Result, OnOk, OnErr}
use Rattle.std.specs.Io.KnownBytes.{Appends}
use Rattle.asp_io.specs.Causes.{HasCause}
use Rattle.asp_io.specs.Moved.{AppendsPrefix}

-- some bytes were appended, and what was held and then the text is these and what is held now
pub record Sends (before now : Option (List ℕ)) (held_before held_now text : List ℕ) : Type 0 where
  pub sent : List ℕ
  pub appended : Appends before now sent
  pub parts : held_before ++ text ≡ sent ++ held_now

-- the text was sent or is held, or a front of what was held and the text was appended before a fault that the sink counted
pub record Writes {T E : Type 0} (before now : Option (List ℕ)) (held_before held_now : List ℕ) (faults_before faults_now : ℕ) (result : Result T E) (text : List ℕ) : Type 0 where
  pub all : OnOk result (Sends before now held_before held_now text)
  pub prefix : OnErr result (AppendsPrefix before now (held_before ++ text))
  pub cause : HasCause faults_before faults_now result
