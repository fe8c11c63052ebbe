-- What contracts see of the moves of a level that a search finds.
use Rattle.std.specs.Prelude.{ℕ, false, List, []}
use Rattle.asp_bits.specs.Places.{true_places}
use Rattle.asp_defs.specs.declared.ground.Game.{Game}
use Rattle.asp_defs.specs.declared.ground.Lit.{Lit}
use Rattle.asp_game.specs.State.{MovesState, Unasked}
use Rattle.asp_completion.specs.declared.level.Level.{Level}
use Rattle.asp_answers.specs.declared.work.Work.{Work}
use Rattle.asp_completion.specs.Levels.{game_at}
use Rattle.asp_answers.specs.Works.{last_of}

-- the state of the trait; the literals of the search's trail, in the order in which they were placed; how many literals
-- the search has placed since the question was put; how many the search of the last check has placed, or 0 before
-- the first; and the nogoods that were recorded
pub record AnswersState : Type 0 where
  pub moves : MovesState
  pub trail : List ℕ
  pub placed : ℕ
  pub checked : ℕ
  pub nogoods : List (List Lit)

-- the question, what was left out and what was answered
abbrev pub moves_at : Level → ℕ → ℕ → ℕ → Work → MovesState
moves_at l budget searches checks w = record {
  game = game_at l;
  level = l.number;
  budget = budget;
  kept = w.kept.items;
  outer = true_places w.outer;
  region = w.region;
  ordered = w.ordered;
  blocked = w.blocked;
  last = last_of l budget w;
  searches = searches;
  checks = checks;
}

abbrev pub state_at : Level → ℕ → ℕ → ℕ → Work → AnswersState
state_at l budget searches checks w = record {
  moves = moves_at l budget searches checks w;
  trail = w.search.trail;
  placed = w.search.count;
  checked = w.check.count;
  nogoods = w.nogoods;
}

-- before the first question
abbrev pub unasked : Game → ℕ → ℕ → MovesState
unasked game level budget = record {
  game = game;
  level = level;
  budget = budget;
  kept = [];
  outer = [];
  region = [];
  ordered = false;
  blocked = [];
  last = Unasked;
  searches = 0;
  checks = 0;
}
