use Rattle.asp_clauses.specs.Records.{row_at}
use Rattle.asp_clauses.proofs.ChoiceLemmas.{IsBest}
use Rattle.asp_clauses.proofs.examine.choose.Given as goal

abbrev pub invariant-loop-other : goal.invariant-loop-other
invariant-loop-other l = IsBest l.trail (row_at l.watches.records l.clause) l.index l.other l.best
