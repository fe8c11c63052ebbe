use Rattle.asp_core.proofs.Runs.{reached-orderly, reached-sound}
use Rattle.asp_core.proofs.machine.Machine.step.Goals as goal

pub returns-in-Look-clause-orderly : goal.returns-in-Look-clause-orderly
returns-in-Look-clause-orderly c = reached-orderly c.look.new.self c.look.ensures.kept.reached

pub returns-in-Look-clause-sound : goal.returns-in-Look-clause-sound
returns-in-Look-clause-sound c = reached-sound c.look.new.self c.look.ensures.kept.reached

pub returns-in-Add-clause-orderly : goal.returns-in-Add-clause-orderly
returns-in-Add-clause-orderly c = reached-orderly c.add.new.self c.add.ensures.kept.reached

pub returns-in-Add-clause-sound : goal.returns-in-Add-clause-sound
returns-in-Add-clause-sound c = reached-sound c.add.new.self c.add.ensures.kept.reached

pub returns-in_ok-fork-in-Fork-clause-orderly : goal.returns-in_ok-fork-in-Fork-clause-orderly
returns-in_ok-fork-in-Fork-clause-orderly c = reached-orderly c.fork.new.self c.fork.ensures.kept.reached

pub returns-in_ok-fork-in-Fork-clause-sound : goal.returns-in_ok-fork-in-Fork-clause-sound
returns-in_ok-fork-in-Fork-clause-sound c = reached-sound c.fork.new.self c.fork.ensures.kept.reached

pub returns-in_err-fork-in-Fork-clause-orderly : goal.returns-in_err-fork-in-Fork-clause-orderly
returns-in_err-fork-in-Fork-clause-orderly c = reached-orderly c.fork.new.self c.fork.ensures.kept.reached

pub returns-in_err-fork-in-Fork-clause-sound : goal.returns-in_err-fork-in-Fork-clause-sound
returns-in_err-fork-in-Fork-clause-sound c = reached-sound c.fork.new.self c.fork.ensures.kept.reached

pub returns-in-End-clause-orderly : goal.returns-in-End-clause-orderly
returns-in-End-clause-orderly c = reached-orderly c.end.new.self c.end.ensures.kept.reached

pub returns-in-End-clause-sound : goal.returns-in-End-clause-sound
returns-in-End-clause-sound c = reached-sound c.end.new.self c.end.ensures.kept.reached
