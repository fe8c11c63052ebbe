-- What the variables of a template run through (of this project). All definitions are transparent.
use Rattle.std.specs.Prelude.{ℕ, List, replicate}
use Rattle.asp_template.specs.declared.domains.Domains.{Domains}
use Rattle.asp_template.specs.declared.domains.Domains.TheVariants.{Same, Each}

-- the ranks of each variable
abbrev pub domains_of : Domains → List (List ℕ)
domains_of (Same ranks count) = replicate count ranks.now
domains_of (Each lists) = lists.now
