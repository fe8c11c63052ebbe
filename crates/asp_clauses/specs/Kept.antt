-- Which clauses are kept where others are removed, and what number each gets.
use Rattle.std.specs.Prelude.{◌≡◌, ℕ, ◌<◌, ◌≤◌, ◌==◌, ◌⊎◌, not, Bool, true, false, List, [], ◌∷◌, ◌++◌, length, map, take, drop, replicate, Some, option_map, slice_index, slice_index_or, if◌then◌else◌}
use Rattle.std.specs.List.{count_by}
use Rattle.asp_clauses.specs.declared.kind.Kind.{Kind}
use Rattle.asp_clauses.specs.declared.trail.Step.{Step}
use Rattle.asp_clauses.specs.declared.watches.Watches.{Watches}
use Rattle.asp_clauses.specs.Records.{row_at, literals_of, end}
use Rattle.asp_clauses.specs.Trail.{step_at}
use Rattle.asp_clauses.specs.Watches.{IsStore}

-- the items whose mark is true
unfoldable pub kept : {A : Type 0} → List Bool → List A → List A
kept [] items = []
kept (mark ∷ marks) [] = []
kept (mark ∷ marks) (item ∷ items) = if mark then item ∷ kept marks items else kept marks items

abbrev pub itself : Bool → Bool
itself mark = mark

-- the number of an item among the kept ones
abbrev pub new_number : List Bool → ℕ → ℕ
new_number marks number = count_by itself (take number marks)

abbrev pub mark_of : List Bool → ℕ → Bool
mark_of marks number = slice_index_or marks number false

-- the marks, with all before a number true
abbrev pub from_on : ℕ → List Bool → List Bool
from_on from marks = replicate from true ++ drop from marks

abbrev pub no_kind : Kind
no_kind = record { learned = false; loose = false; score = 0 }

abbrev pub kind_at : List Kind → ℕ → Kind
kind_at kinds number = slice_index_or kinds number no_kind

abbrev pub is_firm : Kind → Bool
is_firm kind = not kind.loose

-- the first clauses, as many as this, are firm
abbrev pub AreFirmBelow : List Kind → ℕ → Type 0
AreFirmBelow kinds firm = (clause : ℕ) → clause < firm → is_firm (kind_at kinds clause) ≡ true

-- the clause is the reason of a placed literal
abbrev pub IsReason : List Step → ℕ → Type 0
IsReason steps clause = (place : ℕ) × (place < length steps) × ((step_at steps place).reason ≡ Some clause)

-- the step, with another number for its reason
abbrev pub renamed : (ℕ → ℕ) → Step → Step
renamed name step = record { literal = step.literal; reason = option_map name step.reason }

-- the step, with the new number of its reason
abbrev pub renumbered : List Bool → Step → Step
renumbered marks = renamed (new_number marks)

-- the number that stands in a record that is in no list
abbrev pub number_in : List (List ℕ) → ℕ → ℕ
number_in rows clause = slice_index (row_at rows clause) 1

-- the step, with the number that stands in the record of its reason
abbrev pub relabelled : List (List ℕ) → Step → Step
relabelled rows = renamed (number_in rows)

-- the new number of a clause that is kept, or else none
abbrev pub label : List Bool → ℕ → ℕ
label marks clause = if mark_of marks clause then new_number marks clause else end

-- whether a record has a new number
abbrev pub is_kept : List ℕ → Bool
is_kept row = not (slice_index row 1 == end)

-- the records from `from` up to `done` have their new numbers in place of links, and those before are as they were
pub record AreNumbered (old new : Watches) (marks : List Bool) (from done : ℕ) : Type 0 where
  pub same : new ≡ record old { records = new.records }
  pub store : IsStore new
  pub as_many : length new.records ≡ length old.records
  pub clauses : map literals_of new.records ≡ map literals_of old.records
  pub before : (clause : ℕ) → clause < from → row_at new.records clause ≡ row_at old.records clause
  pub numbers : (clause : ℕ) → from ≤ clause → clause < done → number_in new.records clause ≡ label marks clause

-- the marks of reasons are true now, and no other mark has changed
pub record MarksReasons (steps : List Step) (done : ℕ) (old new : List Bool) : Type 0 where
  pub as_many : length new ≡ length old
  pub stays : (clause : ℕ) → mark_of old clause ≡ true → mark_of new clause ≡ true
  pub reasons : (place clause : ℕ) → place < done → (step_at steps place).reason ≡ Some clause → mark_of new clause ≡ true
  pub only : (clause : ℕ) → mark_of new clause ≡ true → mark_of old clause ≡ true ⊎ IsReason steps clause
