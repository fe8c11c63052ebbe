use Rattle.std.proofs.Common.{ap, sym, refl, ◌∙◌}
use Rattle.asp_clauses.specs.declared.kind.Kind.{Kind}
use Rattle.asp_search.proofs.Basing.{has_any}
use Rattle.asp_search.proofs.analyze.loosened_by.Goals as goal

pub returns-then-loose-clause-based : goal.returns-then-loose-clause-based
returns-then-loose-clause-based c = (c.args.clause, c.requires, refl)

pub returns-clause-based : goal.returns-clause-based
returns-clause-based c =
    has_any c.args.book.now c.kind.result.loose c.args.clause c.requires c.kind.ensures.as_many
    (λ firm. ap (λ (k : Kind). k.loose) (sym c.kind.ensures.value) ∙ firm)
