use Rattle.asp_defs.proofs.TextFaults as texts
use Rattle.asp_defs.proofs.laws_text.refused_bounds.Goals as goal

pub returns-clause-without_choice : goal.returns-clause-without_choice
returns-clause-without_choice c = texts.bound_without_choice

pub returns-clause-negative : goal.returns-clause-negative
returns-clause-negative c = texts.negative_bound

pub returns-clause-two : goal.returns-clause-two
returns-clause-two c = texts.two_bounds

pub returns-clause-named : goal.returns-clause-named
returns-clause-named c = texts.named_bound
