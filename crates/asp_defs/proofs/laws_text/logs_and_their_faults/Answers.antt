use Rattle.asp_defs.proofs.LogReadings as logs
use Rattle.asp_defs.proofs.laws_text.logs_and_their_faults.Goals as goal

pub returns-clause-log : goal.returns-clause-log
returns-clause-log c = logs.a_log

pub returns-clause-unended : goal.returns-clause-unended
returns-clause-unended c = logs.unended

pub returns-clause-bad_line : goal.returns-clause-bad_line
returns-clause-bad_line c = logs.bad_line

pub returns-clause-version : goal.returns-clause-version
returns-clause-version c = logs.other_version
