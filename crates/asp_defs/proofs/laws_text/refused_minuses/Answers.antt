use Rattle.asp_defs.proofs.TextFaults as texts
use Rattle.asp_defs.proofs.laws_text.refused_minuses.Goals as goal

pub returns-clause-number : goal.returns-clause-number
returns-clause-number c = texts.minus_number

pub returns-clause-variable : goal.returns-clause-variable
returns-clause-variable c = texts.minus_variable

pub returns-clause-parenthesis : goal.returns-clause-parenthesis
returns-clause-parenthesis c = texts.minus_parenthesis

pub returns-clause-minus : goal.returns-clause-minus
returns-clause-minus c = texts.two_minuses
