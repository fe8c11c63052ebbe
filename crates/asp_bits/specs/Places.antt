-- The places at which a list of truth values is true: an interpretation as the ascending list of its true atoms. All
-- definitions are transparent.
use Rattle.std.specs.Prelude.{ℕ, suc, Bool, true, false, List, [], ◌∷◌}

-- the true places, counted from a first one on
abbrev pub true_from : ℕ → List Bool → List ℕ
true_from first [] = []
true_from first (true ∷ values) = first ∷ true_from (suc first) values
true_from first (false ∷ values) = true_from (suc first) values

-- the true places, ascending
abbrev pub true_places : List Bool → List ℕ
true_places values = true_from 0 values
