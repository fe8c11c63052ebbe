-- The form of the constraint part: it has constraints alone (of this project; Amendola, Ricca and Truszczynski 2019 also
-- allow a stratified program there). All definitions are transparent.
use Rattle.std.specs.Prelude.{ℕ, suc, ◌+◌, Bool, true, false, List, [], ◌∷◌, length, Option, None, Some}
use Rattle.std.specs.List.{flat_map}
use Rattle.asp_defs.specs.declared.syntax.Head.{Head}
use Rattle.asp_defs.specs.declared.syntax.Head.TheVariants.{Disj, Choice}
use Rattle.asp_defs.specs.declared.syntax.Rule.{Rule}
use Rattle.asp_defs.specs.declared.syntax.Part.{Part}
use Rattle.asp_defs.specs.declared.syntax.Program.{Program}
use Rattle.asp_defs.specs.Lists.{is_empty}
use Rattle.asp_defs.specs.Safety.{shown_number}

-- whether a head is that of a constraint: a disjunction of no atoms
abbrev pub is_no_head : Head → Bool
is_no_head (Disj atoms) = is_empty atoms
is_no_head (Choice low elements high) = false

abbrev pub is_constraint : Rule → Bool
is_constraint r = is_no_head r.head

-- the first rule that isn't a constraint of rules that are numbered from one on
abbrev pub first_headed_from : ℕ → List Rule → Option ℕ
first_headed_from number [] = None
first_headed_from number (r ∷ rules) =
    elim (is_constraint r) [ true ↦ first_headed_from (suc number) rules | false ↦ Some (shown_number number) ]

-- how many rules the levels have
abbrev pub level_rule_count : Program → ℕ
level_rule_count p = length (flat_map (λ (part : Part). part.rules) p.levels)

-- the first rule of the constraint part that isn't a constraint, by its number in the whole program
abbrev pub headed_in : Program → Option ℕ
headed_in p = first_headed_from (level_rule_count p + 1) p.cons
