use Rattle.asp_search.proofs.search.Search.set_interval.Goals as goal

pub invariant_of-self : goal.invariant_of-self
invariant_of-self c =
    let i = c.self.invariant in
    let r = i.ready in
    record {
      ready = record { fitted = r.fitted; ranges = r.ranges; learned = r.learned; ground = r.ground; unmarked = r.unmarked; assumptions = r.assumptions; assumed = r.assumed; cursor = r.cursor; order = r.order };
      budget = i.budget;
      found = λ e. let f = i.found e in record { total = f.total; clauses = f.clauses; assumed = f.assumed };
      spent = i.spent;
      asked = i.asked;
      order = i.order;
    }
