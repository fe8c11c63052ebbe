-- The constants of levels, as intervals of integers and as symbols.
use Rattle.std.specs.Prelude.{ℕ, ℤ, List, [], ◌∷◌, ◌++◌, map, take}
use Rattle.std.specs.List.{flat_map}
use Rattle.asp_defs.specs.declared.ground.Const.{Const}
use Rattle.asp_defs.specs.declared.ground.Const.TheVariants as const
use Rattle.asp_defs.specs.declared.syntax.Term.{Term}
use Rattle.asp_defs.specs.declared.syntax.Term.TheVariants.{Int, Sym, Var, Anon, Range}
use Rattle.asp_defs.specs.declared.syntax.Rule.{Rule}
use Rattle.asp_defs.specs.Constants.{const_cmp, distinct, interval, rule_constants}
use Rattle.asp_atoms.specs.declared.intervals.Interval.{Interval}
use Rattle.asp_atoms.specs.declared.constants.Constants.{Constants}

-- an interval by its ends, and its integers
abbrev pub between : ℤ → ℤ → Interval
between low high = record { low = low; high = high }

abbrev pub integers : Interval → List ℤ
integers x = interval x.low x.high

-- the integers of intervals, in their order
abbrev pub integers_of : List Interval → List ℤ
integers_of = flat_map integers

-- the integers and the symbol for which a term stands
abbrev pub term_intervals : Term → List Interval
term_intervals (Int x) = between x x ∷ []
term_intervals (Sym s) = []
term_intervals (Var v) = []
term_intervals (Anon k) = []
term_intervals (Range low high) = between low high ∷ []

abbrev pub term_symbols : Term → List (List ℕ)
term_symbols (Int x) = []
term_symbols (Sym s) = s ∷ []
term_symbols (Var v) = []
term_symbols (Anon k) = []
term_symbols (Range low high) = []

-- integers and symbols as constants
abbrev pub as_constants : List ℤ → List (List ℕ) → List Const
as_constants zs names = map const.Int zs ++ map const.Sym names

abbrev pub constants_of : Constants → List Const
constants_of c = as_constants (integers_of c.intervals.items) (map (λ s. s.now) c.symbols.items)

-- the constants of so many of the first levels, ascending
abbrev pub universe_to : List (List Rule) → ℕ → List Const
universe_to levels i = distinct const_cmp (flat_map rule_constants (flat_map (λ rules. rules) (take i levels)))
