use Rattle.asp_clauses.specs.Kept.{number_in}
use Rattle.asp_clauses.proofs.RenamedLemmas.{IsRelabelling}
use Rattle.asp_clauses.proofs.trail.relabel.Given as goal

abbrev pub invariant-loop-place : goal.invariant-loop-place
invariant-loop-place l = IsRelabelling (number_in l.records) l.fn.steps l.steps l.place
