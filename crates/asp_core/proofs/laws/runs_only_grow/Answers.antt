use Rattle.asp_core.proofs.Runs as runs
use Rattle.asp_core.proofs.laws.runs_only_grow.Goals as goal

pub returns : goal.returns
returns c = runs.runs_only_grow
