use Rattle.std.proofs.Common.{◌≡◌, ◌∷◌, min, take}
use Rattle.std.specs.Str.Parse.{digits_value}
use Rattle.asp_lex.proofs.pieces.value_of.Given as goal

abbrev pub invariant-loop-digit : goal.invariant-loop-digit
invariant-loop-digit l = l.value ≡ min (digits_value 10 (l.first ∷ take l.digit-index l.digits)) 10000000000
