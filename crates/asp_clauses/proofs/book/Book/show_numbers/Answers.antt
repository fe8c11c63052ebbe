use Rattle.asp_clauses.proofs.BookLemmas.{numbers_small}
use Rattle.asp_clauses.proofs.book.Book.show_numbers.Goals as goal

pub returns : goal.returns
returns c = numbers_small c.self.inside.watches c.self.inside.kinds.items c.args.self.now c.self.view_is c.self.invariant.0.store.few
