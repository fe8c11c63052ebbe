-- What contracts say of the nogoods that were recorded.
use Rattle.std.specs.Prelude.{ℕ, ◌≡◌, ◌≢◌, ◌<◌, ◌≤◌, Bool, List, [], length, get_or}
use Rattle.asp_defs.specs.declared.ground.Game.{Game}
use Rattle.asp_defs.specs.declared.ground.Lit.{Lit}
use Rattle.asp_defs.specs.Lists.{IsIn}
use Rattle.asp_defs.specs.Games.{base}
use Rattle.asp_search.specs.Meaning.{Satisfies, SatisfiesAll}
use Rattle.asp_search.specs.State.{SearchState}
use Rattle.asp_completion.specs.declared.level.Level.{Level}
use Rattle.asp_completion.specs.Codes.{codes}
use Rattle.asp_completion.specs.Levels.{game_at}
use Rattle.asp_completion.specs.Meanings.{IsSoundClause}
use Rattle.asp_answers.specs.declared.work.Work.{Work}

-- no clause stands twice
abbrev pub AreDifferent : List (List Lit) → Type 0
AreDifferent clauses = (i j : ℕ) → i < j → j < length clauses → get_or clauses i [] ≢ get_or clauses j []

-- the later clauses begin with the earlier ones
pub record Grows (old new : List (List Lit)) : Type 0 where
  pub longer : length old ≤ length new
  pub same : (k : ℕ) → k < length old → get_or new k [] ≡ get_or old k []

-- each of the clauses follows from those of a search
abbrev pub AreImplied : List ℕ → List (List Lit) → List (List ℕ) → Type 0
AreImplied B nogoods clauses =
    (clause : List Lit) → IsIn clause nogoods → (v : ℕ → Bool) → SatisfiesAll v clauses → Satisfies v (codes B clause)

-- the nogoods hold in every move after every outer move, none stands twice, and the search knows each of them, for this
-- question and for further ones
pub record HasRecorded (g : Game) (i : ℕ) (search : SearchState) (nogoods : List (List Lit)) : Type 0 where
  pub sound : (clause : List Lit) → IsIn clause nogoods → IsSoundClause g i [] clause
  pub different : AreDifferent nogoods
  pub firm : AreImplied (base g i) nogoods search.firm
  pub now : AreImplied (base g i) nogoods search.clauses

abbrev pub IsRecorded : Level → Work → Type 0
IsRecorded l w = HasRecorded (game_at l) l.number w.search w.nogoods

-- what was recorded stays, and so does what is known of it
pub record Learned (l : Level) (old new : SearchState) (nogoods more : List (List Lit)) : Type 0 where
  pub recorded : HasRecorded (game_at l) l.number old nogoods → HasRecorded (game_at l) l.number new more
  pub grows : Grows nogoods more

abbrev pub Learns : Level → Work → Work → Type 0
Learns l old new = Learned l old.search new.search old.nogoods new.nogoods
