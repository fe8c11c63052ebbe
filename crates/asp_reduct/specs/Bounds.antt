-- Rules and bounds whose atoms are places of an interpretation of so many places. All definitions are transparent.
use Rattle.std.specs.Prelude.{ℕ, Bool, nat_lt, List}
use Rattle.std.specs.List.{list_all}
use Rattle.asp_defs.specs.declared.ground.GroundRule.{GroundRule}
use Rattle.asp_defs.specs.declared.ground.Bound.{Bound}
use Rattle.asp_defs.specs.declared.ground.Counted.{Counted}
use Rattle.asp_defs.specs.Bounds.{term_atoms, bound_atoms}
use Rattle.asp_defs.specs.Games.{rule_atoms}

-- whether each of the atoms is below a count
abbrev pub are_below : ℕ → List ℕ → Bool
are_below count atoms = list_all (λ a. nat_lt a count) atoms

-- whether each atom of a rule is below a count
abbrev pub is_rule_below : ℕ → GroundRule → Bool
is_rule_below count r = are_below count (rule_atoms r)

-- whether each atom of a counted term, and of a bound, is
abbrev pub is_term_below : ℕ → Counted → Bool
is_term_below count c = are_below count (term_atoms c)

abbrev pub is_bound_below : ℕ → Bound → Bool
is_bound_below count b = are_below count (bound_atoms b)
