use Rattle.std.proofs.Common.{◌≡◌, ℕ, true, List, [], ◌∷◌, refl}
use Rattle.asp_bits.specs.Places.{true_places}
use Rattle.asp_defs.specs.Games.{ascends, within, is_subset}
use Rattle.asp_defs.proofs.Lists.{both}
use Rattle.level_tests.proofs.moves.OneChoiceMoves.begin.Goals as goal

-- nothing but the empty interpretation is a subset of the empty base
empty_outer : (M : List ℕ) → is_subset M [] ≡ true → M ≡ []
empty_outer [] h = refl
empty_outer (a ∷ M) h = absurd (let parts = both (ascends (a ∷ M)) (within (a ∷ M) []) h in let e = parts.1 in cc)

pub returns-clause-begun : goal.returns-clause-begun
returns-clause-begun c =
    let e : true_places c.args._outer.now ≡ [] = empty_outer (true_places c.args._outer.now) c.requires.outer in
    rw (e, c.in_ok-region.ensures, c.new.ensures) refl
