use Rattle.std.proofs.Common.{List, Bool, false, length, ap, ◌∙◌}
use Rattle.asp_bits.specs.Places.{true_places}
use Rattle.asp_minimal.specs.Numbers.{written}
use Rattle.asp_minimal.proofs.Places.{bound-places}
use Rattle.level_tests.proofs.minimality.bound_count.Goals as goal

pub returns : goal.returns
returns c =
    c.count_true.ensures
    ∙ ap (λ (bits : List Bool). length (true_places bits)) (c.clear.ensures ∙ ap (λ (bits : List Bool). written false bits c.args.free.now) c.in_ok-part.ensures)
    ∙ ap length (bound-places c.args.set.now c.args.free.now)
