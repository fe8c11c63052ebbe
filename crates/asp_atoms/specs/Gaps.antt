-- Intervals whose low ends ascend, each without the integers that earlier ones have: those from a first free one on.
use Rattle.std.specs.Prelude.{ℤ, pos, ◌+ℤ◌, int_lt, if◌then◌else◌, List, [], ◌∷◌, ◌++◌}
use Rattle.std.specs.Int.{int_max}
use Rattle.asp_atoms.specs.declared.intervals.Interval.{Interval}
use Rattle.asp_atoms.specs.Universes.{between}

-- the first free integer before any interval is taken: the first low end
abbrev pub first_low : List Interval → ℤ
first_low [] = pos 0
first_low (x ∷ xs) = x.low

-- what an interval has from a free integer on
abbrev pub apart_at : ℤ → Interval → List Interval
apart_at free x = if int_lt x.high (int_max free x.low) then [] else between (int_max free x.low) x.high ∷ []

-- the first free integer behind it
abbrev pub free_behind : ℤ → Interval → ℤ
free_behind free x = int_max free (x.high +ℤ pos 1)

abbrev pub apart_from : ℤ → List Interval → List Interval
apart_from free [] = []
apart_from free (x ∷ xs) = apart_at free x ++ apart_from (free_behind free x) xs
