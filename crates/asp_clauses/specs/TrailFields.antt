-- What the fields of a trail say.
use Rattle.std.specs.Prelude.{◌≡◌, ◌+◌, ◌*◌, ◌≤◌, List, length, take}
use Rattle.asp_clauses.specs.Literal.{most_atoms}
use Rattle.asp_clauses.specs.declared.trail.Step.{Step}
use Rattle.asp_clauses.specs.declared.trail.Mark.{Mark}
use Rattle.asp_clauses.specs.declared.trail.Trail.TheInside.{Inside}
use Rattle.asp_clauses.specs.Trail.{TrailState}
use Rattle.asp_clauses.specs.Tables.{AreTables, AreMarks}

abbrev pub steps_of : Inside → List Step
steps_of t = take t.len t.steps

abbrev pub marks_of : Inside → List Mark
marks_of t = take t.decisions t.marks.items

abbrev pub state_of : Inside → TrailState
state_of t = record {
  atoms = t.atoms;
  budget = t.budget;
  count = t.count;
  steps = steps_of t;
  marks = marks_of t;
  head = t.head;
}

pub record IsSound (t : Inside) : Type 0 where
  pub few_atoms : t.atoms ≤ most_atoms
  pub steps_size : length t.steps ≡ t.atoms
  pub values_size : length t.values.items ≡ 2 * t.atoms + 1
  pub positions_size : length t.positions.items ≡ t.atoms + 1
  pub levels_size : length t.levels.items ≡ t.atoms
  pub marks_size : length t.marks.items ≡ t.atoms
  pub len : t.len ≤ t.atoms
  pub decided : t.decisions ≤ t.len
  pub affordable : t.count ≤ t.budget
  pub tables : AreTables t.atoms (steps_of t) t.values.items t.positions.items t.levels.items
  pub marks : AreMarks (steps_of t) (marks_of t) t.head
