use Rattle.asp_defs.proofs.TextFaults as texts
use Rattle.asp_defs.proofs.laws_text.refused_texts.Goals as goal

pub returns-clause-no_level : goal.returns-clause-no_level
returns-clause-no_level c = texts.no_level

pub returns-clause-unfinished : goal.returns-clause-unfinished
returns-clause-unfinished c = texts.unfinished

pub returns-clause-unknown_directive : goal.returns-clause-unknown_directive
returns-clause-unknown_directive c = texts.unknown_directive

pub returns-clause-before_level : goal.returns-clause-before_level
returns-clause-before_level c = texts.before_level

pub returns-clause-after_constraint : goal.returns-clause-after_constraint
returns-clause-after_constraint c = texts.after_constraint

pub returns-clause-unexpected : goal.returns-clause-unexpected
returns-clause-unexpected c = texts.unexpected
