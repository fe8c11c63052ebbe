use Rattle.asp_search.proofs.Clauses.{stand_after_add, SameMeaning-then}
use Rattle.asp_search.proofs.Stepping.{IsCore-before}
use Rattle.asp_search.proofs.laws.kept_clauses_stand_for_the_added.Goals as goal

pub returns-clause-after_add : goal.returns-clause-after_add
returns-clause-after_add c = stand_after_add

pub returns-clause-after_search : goal.returns-clause-after_search
returns-clause-after_search c = SameMeaning-then

pub returns-clause-found : goal.returns-clause-found
returns-clause-found c = λ added kept v same sat. same.back v sat

pub returns-clause-cores : goal.returns-clause-cores
returns-clause-cores c = IsCore-before
