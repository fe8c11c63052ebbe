use Rattle.std.proofs.Common.{[], subst, sym}
use Rattle.asp_clauses.specs.Book.{BookState, Goes}
use Rattle.asp_clauses.specs.Watches.{book_of}
use Rattle.asp_clauses.proofs.BookLemmas.{Goes-kinds}
use Rattle.asp_clauses.proofs.RunLemmas.{IsFixpoint-from}
use Rattle.asp_clauses.proofs.propagation.propagate.Goals as goal

pub returns-clause-fixpoint : goal.returns-clause-fixpoint
returns-clause-fixpoint c = λ e. let p = c.run.ensures.propagates in IsFixpoint-from c.run.new.watches c.run.new.trail p.watches p.goes (c.run.ensures.watched e) (c.run.ensures.visited e)

pub run-requires-clause-goes : goal.run-requires-clause-goes
run-requires-clause-goes c =
    let i = c.book.inside in
    Goes-kinds (book_of i.watches) i.kinds.items [] c.args.trail.now (subst (λ (b : BookState). Goes b c.args.trail.now) (sym c.book.view_is) c.requires.goes)
