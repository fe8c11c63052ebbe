use Rattle.asp_core.proofs.Runs as runs
use Rattle.asp_core.proofs.laws.runs_stay_sound.Goals as goal

pub returns : goal.returns
returns c = runs.runs_stay_sound
