-- Members of the core machine.
use Rattle.std.specs.Prelude.{false}
use Rattle.asp_defs.specs.Machine.{Member}

-- one that was never made
abbrev pub nobody : Member
nobody = record { lives = false; seen = 0 }
