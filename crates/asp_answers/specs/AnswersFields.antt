-- What the fields of the moves of a level say.
use Rattle.asp_answers.specs.declared.answers.Answers.TheInside.{Inside}
use Rattle.asp_answers.specs.AnswersState.{AnswersState, state_at}
use Rattle.asp_completion.specs.Levels.{IsLevel}
use Rattle.asp_answers.specs.Works.{IsSettled}
use Rattle.asp_answers.specs.Recorded.{IsRecorded}

abbrev pub state_of : Inside → AnswersState
state_of a = state_at a.level a.budget a.searches a.checks a.work

pub record IsSound (a : Inside) : Type 0 where
  pub level : IsLevel a.level
  pub settled : IsSettled a.level a.budget a.work
  pub recorded : IsRecorded a.level a.work
