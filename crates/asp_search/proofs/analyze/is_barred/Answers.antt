use Rattle.std.proofs.Common.{ap, sym, refl, ◌∙◌}
use Rattle.asp_clauses.specs.declared.kind.Kind.{Kind}
use Rattle.asp_search.proofs.Basing.{has_any}
use Rattle.asp_search.proofs.analyze.is_barred.Goals as goal

pub returns-then-loose : goal.returns-then-loose
returns-then-loose c = λ _. rw c.if-loose.true (c.args.clause, c.requires, refl)

pub returns : goal.returns
returns c = λ firm.
    has_any c.args.book.now c.args.loose c.args.clause c.requires c.kind.ensures.as_many (λ _. ap (λ (k : Kind). k.loose) (sym c.kind.ensures.value) ∙ firm)
