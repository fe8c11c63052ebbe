-- Laws of interpretations. All are transparent.
use Rattle.std.specs.Prelude.{◌≡◌, ◌↔◌, Bool, true, List, length, Some}
use Rattle.asp_bits.specs.Order.{ComesBefore}
use Rattle.asp_bits.specs.Places.{true_places}
use Rattle.asp_defs.specs.Pages.{comes_after}

-- of two lists of truth values of one length, one comes before the other exactly where its set of true places does
abbrev pub OrdersAreOne : Type 0
OrdersAreOne =
    (first second : List Bool) → length first ≡ length second
    → ComesBefore first second ↔ (comes_after (Some (true_places first)) (true_places second) ≡ true)
