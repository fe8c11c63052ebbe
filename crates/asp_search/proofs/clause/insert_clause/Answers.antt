use Rattle.std.proofs.Common.{◌≡◌, ◌*◌, ℕ, false, List, ◌∙◌, sym, subst, refl, arith}
use Rattle.asp_clauses.specs.Book.{IsClause}
use Rattle.asp_search.specs.Seen.{AreCodes}
use Rattle.asp_search.specs.Clause.{Collects}
use Rattle.asp_clauses.proofs.LiteralLemmas.{negated-lt}
use Rattle.asp_search.proofs.Stepping.{AreInRange-push}
use Rattle.asp_search.specs.Learned.{firm_of}
use Rattle.asp_search.proofs.Grounding.{IsGround-push}
use Rattle.asp_search.proofs.LearnedClauses.{AreLearned-added}
use Rattle.asp_search.proofs.Adding.{IsClause-collected, AddsClause-collected, AddsFirm-collected, AddsFirm-tautology, AddsClause-tautology}
use Rattle.asp_search.proofs.clause.insert_clause.Goals as goal
use Rattle.asp_search.proofs.clause.insert_clause.Goals.{After-as_slice}

pub collect-requires-clause-even : goal.collect-requires-clause-even
collect-requires-clause-even c = λ code low.
    omega (arith, c.requires.ready.fitted.codes, negated-lt code c.args.solver.now.trail.atoms (omega (arith, low, c.requires.ready.fitted.codes)))

pub returns-then-branch-clause-added : goal.returns-then-branch-clause-added
returns-then-branch-clause-added c =
    AddsClause-tautology c.args.solver.now.book.clauses c.args.clause.now (c.in_ok-collect.ensures.collected c.if-branch.true)

collects : (c : After-as_slice) → Collects c.args.clause.now c.as_slice.result.now
collects c =
    subst (λ (l : List ℕ). Collects c.args.clause.now l) (sym c.as_slice.ensures.marked) (c.in_ok-collect.ensures.marked c.if-branch.false)

is_clause : (c : After-as_slice) → IsClause c.args.solver.now.trail.atoms c.as_slice.result.now
is_clause c =
    let limit : c.collect.new.seen.codes ≡ 2 * c.args.solver.now.trail.atoms = c.collect.ensures.codes ∙ c.requires.ready.fitted.codes in
    IsClause-collected c.args.solver.now.trail.atoms c.args.clause.now c.as_slice.result.now (subst (λ (n : ℕ). AreCodes n c.as_slice.result.now) limit c.as_slice.ensures.codes) c.as_slice.ensures.distinct (collects c)

pub add_to-requires : goal.add_to-requires
add_to-requires c =
    subst (λ (n : ℕ). IsClause n c.as_slice.result.now) (sym c.requires.ready.fitted.goes.same_atoms) (is_clause (goal.at.add_to-requires c).After-as_slice)

pub returns-then-branch-clause-firm : goal.returns-then-branch-clause-firm
returns-then-branch-clause-firm c =
    AddsFirm-tautology c.args.loose (firm_of c.args.solver.now.book) c.args.clause.now (c.in_ok-collect.ensures.collected c.if-branch.true)

pub returns-in-Ok-clause-keeps : goal.returns-in-Ok-clause-keeps
returns-in-Ok-clause-keeps c =
    let d = (goal.at.returns-in-Ok-clause-keeps c).After-as_slice in
    let old = c.args.solver.now in
    let ready = c.requires.ready in
    record {
      goes = c.in-Ok.ensures.goes old.trail ready.fitted.goes;
      ranges = rw c.in-Ok.ensures.added (AreInRange-push old.trail.atoms old.book.clauses c.as_slice.result.now (is_clause d) ready.ranges);
      learned = rw (c.in-Ok.ensures.added, c.in-Ok.ensures.kinds) (AreLearned-added old.book.kinds old.book.clauses (record { learned = false; loose = c.args.loose; score = 0 }) c.as_slice.result.now refl ready.learned);
      ground = rw c.in-Ok.ensures.kinds (IsGround-push old.trail.atoms old.book.clauses old.book.kinds (record { learned = false; loose = c.args.loose; score = 0 }) old.trail.steps old.looked old.ground_loose ready.fitted.goes.lawful ready.learned.as_many ready.ground);
      trail = refl;
      assumed = refl;
      cursor = refl;
      held = refl;
      front = refl;
      in_order = refl;
      looked = refl;
      ground_loose = refl;
      codes = c.collect.ensures.codes;
      heap = refl;
      decided = refl;
      activity = refl;
    }

pub returns-in-Ok-clause-added : goal.returns-in-Ok-clause-added
returns-in-Ok-clause-added c =
    let d = (goal.at.returns-in-Ok-clause-added c).After-as_slice in
    rw c.in-Ok.ensures.added (AddsClause-collected c.args.solver.now.book.clauses c.args.clause.now c.as_slice.result.now (collects d))

pub returns-in-Ok-clause-firm : goal.returns-in-Ok-clause-firm
returns-in-Ok-clause-firm c =
    let d = (goal.at.returns-in-Ok-clause-firm c).After-as_slice in
    let old = c.args.solver.now in
    rw (c.in-Ok.ensures.added, c.in-Ok.ensures.kinds) (AddsFirm-collected c.args.loose old.book.kinds old.book.clauses c.args.clause.now c.as_slice.result.now c.requires.ready.learned.as_many (collects d))

pub returns-in-Err-clause-keeps : goal.returns-in-Err-clause-keeps
returns-in-Err-clause-keeps c =
    let same = c.in-Err.ensures.unchanged in
    let ready = c.requires.ready in
    record {
      goes = rw same ready.fitted.goes;
      ranges = rw same ready.ranges;
      learned = rw same ready.learned;
      ground = rw same ready.ground;
      trail = refl;
      assumed = refl;
      cursor = refl;
      held = refl;
      front = refl;
      in_order = refl;
      looked = refl;
      ground_loose = refl;
      codes = c.collect.ensures.codes;
      heap = refl;
      decided = refl;
      activity = refl;
    }
