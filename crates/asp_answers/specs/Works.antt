-- What contracts say of the work on one question.
use Rattle.std.specs.Prelude.{ℕ, ◌++◌, ◌≡◌, ◌≢◌, ◌+◌, ◌*◌, ◌^◌, ◌<◌, ◌≤◌, ◌⊎◌, Bool, true, false, List, [], length, get_or, IsTrue, Result, Ok, Err, Option, None, Some, IfSome}
use Rattle.std.specs.List.{Contains}
use Rattle.asp_bits.specs.Places.{true_places}
use Rattle.asp_defs.specs.declared.faults.Give.{Give}
use Rattle.asp_defs.specs.declared.faults.Give.TheVariants as give
use Rattle.asp_defs.specs.declared.faults.Kind.{Kind}
use Rattle.asp_defs.specs.declared.faults.Kind.TheVariants as kind
use Rattle.asp_defs.specs.declared.faults.Unknown.{Unknown}
use Rattle.asp_defs.specs.declared.ground.Lit.{Lit}
use Rattle.asp_defs.specs.Interpretations.{holds}
use Rattle.asp_search.specs.declared.stage.Stage.TheVariants.{New}
use Rattle.asp_search.specs.Found.{assignment_of}
use Rattle.asp_search.specs.declared.fault.SearchFault.{SearchFault}
use Rattle.asp_search.specs.declared.fault.SearchFault.TheVariants as faults
use Rattle.asp_search.specs.declared.outcome.Outcome.{Outcome}
use Rattle.asp_search.specs.declared.outcome.Outcome.TheVariants as outcomes
use Rattle.asp_search.specs.Cores.{IsCore as IsSearchCore}
use Rattle.asp_search.specs.Meaning.{SameMeaning}
use Rattle.asp_search.specs.State.{SearchState, HasFound, IsFound as IsSearchFound}
use Rattle.asp_game.specs.State.{MovesState, Last, Unasked, FoundMove, FoundCore, Gave}
use Rattle.asp_game.specs.State.{Asked as NotAnswered}
use Rattle.asp_game.specs.declared.step.Step.{Step}
use Rattle.asp_game.specs.declared.step.Step.TheVariants.{Found, Core}
use Rattle.asp_game.specs.Questions.{is_outer, is_region}
use Rattle.asp_completion.specs.declared.level.Level.{Level}
use Rattle.asp_answers.specs.declared.work.Answered.{Answered}
use Rattle.asp_answers.specs.declared.work.Answered.TheVariants as answered
use Rattle.asp_answers.specs.declared.work.Work.{Work}
use Rattle.asp_completion.specs.Codes.{codes}
use Rattle.asp_answers.specs.Assumptions.{assumed_literals}
use Rattle.asp_completion.specs.Levels.{game_at, upper, lower, rules_at}
use Rattle.asp_completion.specs.Meanings.{Means}

-- a search that has the clauses of the level's rules, under an outer move and the literals of a region; nothing was
-- placed
pub record IsPrepared (l : Level) (budget : ℕ) (kept : List (List Lit)) (search : SearchState) (move : List Bool) (cube : List Lit) : Type 0 where
  pub atoms : search.atoms ≡ length (upper l)
  pub budget_is : search.budget ≡ budget
  pub begun : search.stage ≢ New
  pub unordered : search.ordered ≡ None
  pub assumed : search.assumed ≡ codes (upper l) (assumed_literals (lower l) (true_places move) cube)
  pub means : Means (game_at l) l.number (rules_at l) kept search.clauses
  pub firm : Means (game_at l) l.number (rules_at l) kept search.firm
  pub count : search.count ≡ 0
  pub trail : search.trail ≡ []

-- a search whose firm clauses serve every question for the level's moves
pub record Serves (l : Level) (budget : ℕ) (kept : List (List Lit)) (search : SearchState) : Type 0 where
  pub atoms : search.atoms ≡ length (upper l)
  pub budget_is : search.budget ≡ budget
  pub firm : Means (game_at l) l.number (rules_at l) kept search.firm

-- a search for the moves that are asked for, with what its clauses and assumptions say, and the last candidate
pub record Asked (l : Level) (budget : ℕ) (search : SearchState) (move : List Bool) (cube : List Lit) (order : Bool)
    (kept cubes : List (List Lit)) (set : List Bool) : Type 0 where
  pub atoms : search.atoms ≡ length (upper l)
  pub budget_is : search.budget ≡ budget
  pub begun : search.stage ≢ New
  pub same_order : IfSome search.ordered (λ was. was ≡ order)
  pub assumed : search.assumed ≡ codes (upper l) (assumed_literals (lower l) (true_places move) cube)
  pub places : length move ≡ length (game_at l).bases.atoms
  pub outer : IsTrue (is_outer (game_at l) l.number (true_places move))
  pub region : IsTrue (is_region (game_at l) l.number cube)
  pub means : Means (game_at l) l.number (rules_at l) (kept ++ cubes) search.clauses
  pub firm : Means (game_at l) l.number (rules_at l) kept search.firm
  pub set_places : length set ≡ length (game_at l).bases.atoms
  pub set_inside : (a : ℕ) → get_or set a false ≡ true → holds (upper l) a ≡ true

abbrev pub IsAsked : Level → ℕ → Work → Type 0
IsAsked l budget w = Asked l budget w.search w.outer w.region w.ordered w.kept.items w.blocked w.set

-- the question and what was answered stay
pub record Stays {A B C D : Type 0} (outer new_outer : A) (region new_region : B) (order new_order : Bool) (kept new_kept blocked new_blocked : C)
    (last new_last : D) : Type 0 where
  pub same_outer : new_outer ≡ outer
  pub same_region : new_region ≡ region
  pub same_order : new_order ≡ order
  pub same_kept : new_kept ≡ kept
  pub same_blocked : new_blocked ≡ blocked
  pub same_last : new_last ≡ last

abbrev pub KeepsQuestion : Work → Work → Type 0
KeepsQuestion old new =
    Stays old.outer new.outer old.region new.region old.ordered new.ordered old.kept.items new.kept.items old.blocked new.blocked old.last new.last

-- truth values of all atoms that have the assignment of a search on a base, and are false elsewhere
pub record IsRead (B : List ℕ) (atoms : ℕ) (trail : List ℕ) (set : List Bool) : Type 0 where
  pub places : length set ≡ atoms
  pub inside : (a : ℕ) → get_or set a false ≡ true → holds B a ≡ true
  pub values : (k : ℕ) → k < length B → get_or set (get_or B k 0) false ≡ assignment_of trail k

-- the candidate is what the search has found
pub record Candidate (l : Level) (search : SearchState) (set : List Bool) : Type 0 where
  pub found : IsSearchFound search
  pub read : IsRead (upper l) (length (game_at l).bases.atoms) search.trail set

abbrev pub IsCandidate : Level → Work → Type 0
IsCandidate l w = Candidate l w.search w.set

-- the open answer of a spent budget
abbrev pub unknown_of : Level → ℕ → Kind → Unknown
unknown_of l budget k = record { kind = k; level = l.number; budget = budget }

-- the last answer, as the trait has it
abbrev pub last_with : Level → ℕ → List Bool → Answered → Last
last_with l budget set answered.Unasked = Unasked
last_with l budget set answered.Nothing = NotAnswered
last_with l budget set answered.Found = FoundMove (true_places set)
last_with l budget set answered.Core = FoundCore
last_with l budget set (answered.Spent k) = Gave (give.Spent (unknown_of l budget k))
last_with l budget set answered.NoMemory = Gave give.NoMemory

abbrev pub last_of : Level → ℕ → Work → Last
last_of l budget w = last_with l budget w.set w.last

-- the question alone, as the trait has it
abbrev pub question_of : Level → ℕ → Work → MovesState
question_of l budget w = record {
  game = game_at l;
  level = l.number;
  budget = budget;
  kept = w.kept.items;
  outer = true_places w.outer;
  region = w.region;
  ordered = w.ordered;
  blocked = w.blocked;
  last = NotAnswered;
  searches = 0;
  checks = 0;
}

-- each atom has a value
abbrev pub IsTotal : ℕ → List ℕ → Type 0
IsTotal atoms trail = (a : ℕ) → a < atoms → Contains trail (2 * a + 1) ⊎ Contains trail (2 * a)

-- which trail has spent the budget: that of the search, or that of the check of a candidate
abbrev pub IsCause : Kind → Level → ℕ → SearchState → SearchState → Type 0
IsCause kind.Search l budget search check = search.count ≡ budget
IsCause kind.Minimal l budget search check = IsTotal (length (upper l)) search.trail × (check.count ≡ budget)
IsCause kind.Store l budget search check = ⊥

-- a search of the level has spent the budget, which isn't enough for all of them
pub record Spends (l : Level) (budget : ℕ) (search check : SearchState) (unknown : Unknown) : Type 0 where
  pub is : unknown ≡ unknown_of l budget unknown.kind
  pub few : budget < 3 ^ length (upper l)
  pub cause : IsCause unknown.kind l budget search check

abbrev pub HasSpent : Level → ℕ → Work → Unknown → Type 0
HasSpent l budget w unknown = Spends l budget w.search w.check unknown

-- between two calls: the search serves further questions; before the first one and after want of memory nothing else is known of
-- it, and a spent budget has its cause
pub record Settled (l : Level) (budget : ℕ) (search check : SearchState) (move : List Bool) (cube : List Lit) (order : Bool)
    (kept cubes : List (List Lit)) (set : List Bool) (last : Answered) : Type 0 where
  pub serves : Serves l budget kept search
  pub asked : last ≢ answered.Unasked → last ≢ answered.NoMemory → Asked l budget search move cube order kept cubes set
  pub spent : (k : Kind) → last ≡ answered.Spent k → Spends l budget search check (unknown_of l budget k)

abbrev pub IsSettled : Level → ℕ → Work → Type 0
IsSettled l budget w =
    Settled l budget w.search w.check w.outer w.region w.ordered w.kept.items w.blocked w.set w.last

-- what a run of the search says: an assignment, a core, or that the budget is spent; and no placement is forgotten
pub record HasRun (old new : SearchState) (outcome : Result Outcome SearchFault) : Type 0 where
  pub same : SameMeaning old.clauses new.clauses
  pub found : outcome ≡ Ok outcomes.Found → IsSearchFound new × HasFound new
  pub core : (core : List ℕ) → outcome ≡ Ok (outcomes.Core core) → IsSearchCore old.clauses old.assumed core
  pub spent : outcome ≡ Err faults.Spent → (new.count ≡ new.budget) × (new.count < 3 ^ new.atoms)
  pub count : old.count ≤ new.count

-- the last answer after an answer
abbrev pub answered_by : Result Step Give → Answered
answered_by (Ok (Found set)) = answered.Found
answered_by (Ok (Core core)) = answered.Core
answered_by (Err (give.Spent unknown)) = answered.Spent unknown.kind
answered_by (Err give.NoMemory) = answered.NoMemory

-- the fault that was answered last
abbrev pub fault_of : ℕ → ℕ → Answered → Option Give
fault_of level budget answered.Unasked = None
fault_of level budget answered.Nothing = None
fault_of level budget answered.Found = None
fault_of level budget answered.Core = None
fault_of level budget (answered.Spent k) = Some (give.Spent (record { kind = k; level = level; budget = budget }))
fault_of level budget answered.NoMemory = Some give.NoMemory

-- the last answer, once memory was refused for a cube that is to be left out of every question
abbrev pub refused_by : Answered → Answered
refused_by answered.Unasked = answered.Unasked
refused_by answered.Nothing = answered.NoMemory
refused_by answered.Found = answered.NoMemory
refused_by answered.Core = answered.NoMemory
refused_by (answered.Spent k) = answered.NoMemory
refused_by answered.NoMemory = answered.NoMemory
