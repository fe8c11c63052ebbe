-- lemmas on what a search found, as its callers see it
use Rattle.std.proofs.Common.{◌≡◌, ℕ, Bool, true, false, None, [], IsTrue, ◌↔◌, refl, sym}
use Rattle.std.proofs.lemmas.Bool.{false≢true}
use Rattle.asp_clauses.specs.declared.trail.Step.{Step}
use Rattle.std.proofs.Common.{List}
use Rattle.asp_clauses.specs.Trail.{IsPlaced}
use Rattle.asp_search.specs.declared.search.Search.TheInside.{Inside}
use Rattle.asp_search.specs.declared.solver.Solver.{Solver}
use Rattle.asp_search.specs.Analysis.{is_member}
use Rattle.asp_search.specs.Solver.{IsReady}
use Rattle.asp_search.specs.Found.{literals_of, IsSatisfied}
use Rattle.asp_search.specs.State.{IsFound, IsLeast}
use Rattle.asp_search.specs.declared.stage.Stage.TheVariants.{Begun}
use Rattle.asp_search.specs.Learned.{firm_of}
use Rattle.asp_search.specs.SearchFields.{state_of}
use Rattle.asp_search.proofs.Counting.{member-Contains, not_member}
use Rattle.asp_search.proofs.Deciding.{Contains-literals, placed_from}
use Rattle.asp_search.proofs.Ordering.{is_least}

pub IsFound-view : (s : Inside) → IsSatisfied s.solver → IsFound (state_of s)
IsFound-view s h = record { total = h.total; clauses = h.clauses; assumed = h.assumed }

pub IsLeast-view : (s : Inside) → IsReady s.solver → s.solver.in_order ≡ true → IsLeast (state_of s)
IsLeast-view s ready ordered v sat all atom low agrees found =
    is_least s.solver.trail.atoms s.solver.book.clauses s.solver.trail.steps ready.fitted.goes.lawful s.solver.assumed.items (ready.order.decides ordered) v sat all atom agrees found

pub IsSatisfied-kept : (old new : Solver) → new.book ≡ old.book → new.trail ≡ old.trail → new.assumed ≡ old.assumed → IsSatisfied old → IsSatisfied new
IsSatisfied-kept old new book trail assumed h = record {
  total = rw trail h.total;
  clauses = rw (trail, book) h.clauses;
  assumed = rw (trail, assumed) h.assumed;
}

-- a test of the trail is a test of its literals
pub test_is_member : (steps : List Step) (literal : ℕ) (result : Bool) → IsTrue result ↔ IsPlaced steps literal → result ≡ is_member (literals_of steps) literal
test_is_member steps literal true tells =
    sym (member-Contains (literals_of steps) literal (Contains-literals steps literal (tells.0 refl)))
test_is_member steps literal false tells =
    sym (not_member (literals_of steps) literal (λ c. false≢true (tells.1 (placed_from steps literal c))))

-- a search that has begun, as its callers see it
pub begun_view : (old new : Inside) (assumed : List ℕ) → new.solver.trail.atoms ≡ old.solver.trail.atoms → new.solver.trail.budget ≡ old.solver.trail.budget → new.solver.trail.count ≡ 0 → new.solver.trail.steps ≡ []
    → new.solver.book.clauses ≡ firm_of old.solver.book → firm_of new.solver.book ≡ firm_of old.solver.book → new.solver.assumed.items ≡ assumed → new.ordered ≡ None → new.stage ≡ Begun → new.solver.decided ≡ old.solver.decided → new.solver.activity ≡ old.solver.activity
    → state_of new ≡ record (state_of old) { count = 0; clauses = firm_of old.solver.book; assumed = assumed; trail = []; ordered = None; stage = Begun }
begun_view old new assumed atoms budget count steps clauses firm assumptions ordered stage decided activity =
    rw (atoms, budget, count, steps, firm, clauses, assumptions, ordered, stage, decided, activity) refl
