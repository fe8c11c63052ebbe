use Rattle.asp_clauses.proofs.TableLemmas.{ClearedTo}
use Rattle.asp_clauses.proofs.trail.clear_values.Given as goal

abbrev pub invariant-loop-place : goal.invariant-loop-place
invariant-loop-place l = ClearedTo l.steps l.fn.values l.values l.from l.place
