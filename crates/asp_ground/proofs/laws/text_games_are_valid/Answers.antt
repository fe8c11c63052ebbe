use Rattle.asp_ground.proofs.Valid.{text_game_is_valid}
use Rattle.asp_ground.proofs.laws.text_games_are_valid.Goals as goal

pub returns : goal.returns
returns c = text_game_is_valid
