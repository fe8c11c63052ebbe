-- Counts that end at the greatest one that is shown.
use Rattle.std.specs.Prelude.{ℕ, min}
use Rattle.asp_defs.specs.Limits.{most_shown}

abbrev pub shown : ℕ → ℕ
shown n = min n most_shown
