-- What the fields of a search say.
use Rattle.std.specs.Prelude.{◌≡◌, ◌≢◌, Bool, true, Option, Some, None}
use Rattle.asp_search.specs.declared.stage.Stage.TheVariants.{New, Begun, Found, Spent}
use Rattle.asp_search.specs.declared.search.Search.TheInside.{Inside}
use Rattle.asp_search.specs.Learned.{firm_of}
use Rattle.asp_search.specs.Solver.{IsReady}
use Rattle.asp_search.specs.Found.{literals_of, IsSatisfied}
use Rattle.asp_search.specs.State.{SearchState}

abbrev pub state_of : Inside → SearchState
state_of s = record {
  atoms = s.solver.trail.atoms;
  budget = s.solver.trail.budget;
  count = s.solver.trail.count;
  clauses = s.solver.book.clauses;
  firm = firm_of s.solver.book;
  assumed = s.solver.assumed.items;
  trail = literals_of s.solver.trail.steps;
  ordered = s.ordered;
  stage = s.stage;
  decisions = s.solver.decided;
  conflicts = s.solver.activity.total;
  interval = s.solver.activity.interval;
}

-- whether choices are in order: as `next` was asked, and before its first call they are
abbrev pub in_order_of : Option Bool → Bool
in_order_of None = true
in_order_of (Some ordered) = ordered

pub record IsSound (s : Inside) : Type 0 where
  pub ready : IsReady s.solver
  pub budget : s.budget ≡ s.solver.trail.budget
  pub found : s.stage ≡ Found → IsSatisfied s.solver
  pub spent : s.stage ≡ Spent → s.solver.trail.count ≡ s.solver.trail.budget
  pub asked : s.stage ≢ New → s.stage ≢ Begun → s.ordered ≢ None
  pub order : s.solver.in_order ≡ in_order_of s.ordered
