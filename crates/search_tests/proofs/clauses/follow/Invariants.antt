use Rattle.std.proofs.Common.{◌≡◌}
use Rattle.asp_clauses.specs.Book.{Goes}
use Rattle.search_tests.proofs.clauses.follow.Given as goal

abbrev pub invariant-loop-name : goal.invariant-loop-name
invariant-loop-name l = record { goes : Goes l.book l.trail; four : l.book.atoms ≡ 4 }
