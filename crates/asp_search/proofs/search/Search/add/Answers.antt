use Rattle.std.proofs.Common.{ap, ◌∙◌, sym}
use Rattle.asp_clauses.specs.Trail.{TrailState}
use Rattle.asp_search.proofs.Finding.{IsSatisfied-kept}
use Rattle.asp_search.proofs.search.Search.add.Goals as goal

pub invariant_of-self : goal.invariant_of-self
invariant_of-self c =
    let keeps = c.add_clause.ensures.keeps in
    record {
      ready = keeps.ready;
      budget = c.self.invariant.budget ∙ ap (λ (t : TrailState). t.budget) (sym keeps.trail);
      found = λ e. IsSatisfied-kept c.self.inside.solver c.add_clause.new.solver c.in_err-add_clause.ensures.unchanged keeps.trail keeps.assumed (c.self.invariant.found e);
      spent = λ e. rw keeps.trail (c.self.invariant.spent e);
      asked = c.self.invariant.asked;
      order = keeps.in_order ∙ c.self.invariant.order;
    }
