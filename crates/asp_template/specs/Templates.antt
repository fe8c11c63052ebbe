-- The instances of a template: its atoms and comparisons where its variables have ranks (of this project). All
-- definitions are transparent.
use Rattle.std.specs.Prelude.{ℕ, ◌+◌, ◌*◌, if◌then◌else◌, Bool, List, [], ◌∷◌, map, get_or}
use Rattle.std.specs.List.{fold, list_all, flat_map}
use Rattle.std.specs.Ordering.{nat_cmp}
use Rattle.asp_defs.specs.declared.ground.GroundRule.{GroundRule}
use Rattle.asp_defs.specs.Bases.{product}
use Rattle.asp_defs.specs.Instances.{op_holds}
use Rattle.asp_template.specs.declared.template.Slot.{Slot}
use Rattle.asp_template.specs.declared.template.Slot.TheVariants.{Rank, Variable}
use Rattle.asp_template.specs.declared.template.AtomTemplate.{AtomTemplate}
use Rattle.asp_template.specs.declared.template.Comparison.{Comparison}
use Rattle.asp_template.specs.declared.template.Template.{Template}
use Rattle.asp_template.specs.Ranks.{capped}

-- the rank that a term has where the variables have these ranks
abbrev pub slot_rank : List ℕ → Slot → ℕ
slot_rank ranks (Rank rank) = rank
slot_rank ranks (Variable place) = get_or ranks place 0

-- a number with one more digit behind it
abbrev pub with_digit : ℕ → List ℕ → ℕ → Slot → ℕ
with_digit size ranks number slot = capped (capped (number * size) + slot_rank ranks slot)

-- an atom's number: that of its predicate's first atom with the ranks of its arguments as digits
abbrev pub number_at : ℕ → List ℕ → AtomTemplate → ℕ
number_at size ranks a = capped (a.first + fold (with_digit size ranks) 0 a.slots)

-- whether a comparison is true
abbrev pub is_true : List ℕ → Comparison → Bool
is_true ranks c = op_holds c.op (nat_cmp (slot_rank ranks c.left) (slot_rank ranks c.right))

-- the ground rule of a template under ranks of its variables: nothing where a comparison is false
abbrev pub instance_at : ℕ → Template → List ℕ → List GroundRule
instance_at size t ranks =
    if list_all (is_true ranks) t.comparisons
    then record {
      choice = t.choice;
      head = map (number_at size ranks) t.heads;
      pos = map (number_at size ranks) t.pos;
      neg = map (number_at size ranks) t.neg;
    } ∷ []
    else []

-- the ground rules of a template where each variable runs through ranks of its own, the last one fastest
abbrev pub instances_over : ℕ → Template → List (List ℕ) → List GroundRule
instances_over size t domains = flat_map (instance_at size t) (product domains)
