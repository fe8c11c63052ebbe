use Rattle.std.proofs.Common.{◌≡◌, Bool, Some, IfSome, sym, ◌∙◌, subst}
use Rattle.asp_search.specs.declared.search.Search.TheInside.{Inside}
use Rattle.asp_search.specs.State.{SearchState, IsFound, IsLeast}
use Rattle.asp_search.proofs.Finding.{IsFound-view, IsLeast-view}
use Rattle.asp_search.proofs.Ordering.{was_in_order}
use Rattle.asp_search.proofs.search.Search.next.Goals as goal

pub returns-in-Found-clause-found : goal.returns-in-Found-clause-found
returns-in-Found-clause-found c = λ _.
    subst (λ (s : SearchState). IsFound s) c.self.view_is (IsFound-view c.self.inside (c.self.invariant.found c.in-Found.is))

pub returns-in-New-clause-found : goal.returns-in-New-clause-found
returns-in-New-clause-found c = λ e.
    let after : Inside = record { solver = c.run-outcome.new.solver; budget = c.self.inside.budget; ordered = Some c.args.ordered; stage = c.stage_after-self-inside.result } in
    IsFound-view after (c.run-outcome.ensures.found e)

pub returns-in-Found-clause-least : goal.returns-in-Found-clause-least
returns-in-Found-clause-least c = λ _ ordered.
    let inside = c.self.inside in
    let same : IfSome inside.ordered (λ (was : Bool). was ≡ c.args.ordered) = subst (λ (s : SearchState). IfSome s.ordered (λ (was : Bool). was ≡ c.args.ordered)) (sym c.self.view_is) c.requires.same in
    subst (λ (s : SearchState). IsLeast s) c.self.view_is
    (IsLeast-view inside c.self.invariant.ready (c.self.invariant.order ∙ was_in_order inside.ordered c.args.ordered same ordered))

pub returns-in-New-clause-least : goal.returns-in-New-clause-least
returns-in-New-clause-least c = λ e ordered.
    let after : Inside = record { solver = c.run-outcome.new.solver; budget = c.self.inside.budget; ordered = Some c.args.ordered; stage = c.stage_after-self-inside.result } in
    IsLeast-view after c.run-outcome.ensures.stays.ready (c.run-outcome.ensures.stays.in_order ∙ ordered)

pub run-outcome-requires : goal.run-outcome-requires
run-outcome-requires c =
    let inside = c.self.inside in
    let r = c.self.invariant.ready in
    let same : IfSome inside.ordered (λ (was : Bool). was ≡ c.args.ordered) = subst (λ (s : SearchState). IfSome s.ordered (λ (was : Bool). was ≡ c.args.ordered)) (sym c.self.view_is) c.requires.same in
    record {
      fitted = r.fitted;
      ranges = r.ranges;
      learned = r.learned;
      ground = r.ground;
      unmarked = r.unmarked;
      assumptions = r.assumptions;
      assumed = r.assumed;
      cursor = r.cursor;
      order = record {
        valued = r.order.valued;
        decides = λ ordered. r.order.decides (c.self.invariant.order ∙ was_in_order inside.ordered c.args.ordered same ordered);
      };
    }
