-- Literals in an interpretation that is a list of truth values.
use Rattle.std.proofs.Common.{◌≡◌, refl, sym, ap, ◌∙◌, Some, Bool, true, false, not, cond, List}
use Rattle.std.specs.List.{slice_get}
use mathlib.Core.Bool.{beq}
use Rattle.asp_bits.specs.Places.{true_places}
use Rattle.asp_bits.proofs.TruePlaces.{any-read}
use Rattle.asp_defs.specs.declared.ground.Lit.{Lit}
use Rattle.asp_defs.specs.Entries.{lit_true}

signed : (value positive : Bool) → beq value positive ≡ cond positive value (not value)
signed true true = refl
signed true false = refl
signed false true = refl
signed false false = refl

-- what was read at the place of a literal's atom says whether the literal is true
pub lit_true-read : (values : List Bool) (l : Lit) (value : Bool) → slice_get values l.atom ≡ Some value
    → beq value l.positive ≡ lit_true (true_places values) l
lit_true-read values l value read =
    signed value l.positive ∙ ap (λ b. cond l.positive b (not b)) (sym (any-read values l.atom value read))
