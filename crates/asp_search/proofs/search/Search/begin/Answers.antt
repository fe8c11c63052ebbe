use Rattle.std.proofs.Common.{◌≡◌, ◌*◌, ℕ, [], None, true, false, ap, ◌∙◌, sym, subst, refl, arith}
use Rattle.asp_search.specs.Seen.{AreCodes}
use Rattle.asp_search.specs.Solver.{DecidesAssumed, IsCursor}
use Rattle.asp_search.specs.State.{SearchState}
use Rattle.asp_search.specs.declared.stage.Stage.TheVariants.{Begun}
use Rattle.asp_search.specs.declared.solver.Solver.{Solver}
use Rattle.asp_search.specs.declared.search.Search.TheInside.{Inside}
use Rattle.asp_search.specs.SearchFields.{state_of}
use Rattle.asp_search.specs.Learned.{firm_of}
use Rattle.asp_search.proofs.Finding.{begun_view}
use Rattle.asp_search.proofs.LearnedClauses.{AreInRange-firm, AreLearned-firm, firm_is_firm}
use Rattle.asp_search.proofs.Grounding.{IsGround-none}
use Rattle.asp_search.proofs.Stepping.{IsOrderly-none}
use Rattle.asp_search.proofs.search.Search.begin.Goals as goal

pub invariant_of-self : goal.invariant_of-self
invariant_of-self c =
    let s = c.self.inside.solver in
    let ready = c.self.invariant.ready in
    let assumed = c.in_ok-assumed.assumed.items in
    let items : assumed ≡ c.args.assume.now = c.in_ok-assumed.ensures.items in
    let atoms : c.args.self.now.atoms ≡ s.trail.atoms = ap (λ (t : SearchState). t.atoms) (sym c.self.view_is) in
    let codes : AreCodes (2 * s.trail.atoms) c.args.assume.now = subst (λ (n : ℕ). AreCodes (2 * n) c.args.assume.now) atoms c.requires.codes in
    let decides : DecidesAssumed assumed [] = λ place within is. absurd (omega (arith, within)) in
    let cursor : IsCursor assumed [] 0 0 = record { within = omega arith; placed = λ i h. absurd (omega (arith, h)); decided = λ h. omega arith } in
    record {
      ready = record {
        fitted = record {
          goes = c.drop_loose.ensures.goes;
          few = rw c.reset.ensures.atoms ready.fitted.few;
          codes = rw c.reset.ensures.atoms ready.fitted.codes;
          heap_atoms = rw c.reset.ensures.atoms (c.unwind.ensures.heap ∙ ready.fitted.heap_atoms);
        };
        ranges = rw (c.reset.ensures.atoms, c.drop_loose.ensures.clauses) (AreInRange-firm s.trail.atoms s.book.kinds s.book.clauses ready.learned.as_many ready.learned ready.ranges);
        learned = rw (c.drop_loose.ensures.clauses, c.drop_loose.ensures.kinds) (AreLearned-firm s.book.kinds s.book.clauses ready.learned);
        ground = IsGround-none _ _ _;
        unmarked = ready.unmarked;
        assumptions = rw (c.reset.ensures.atoms, items) (record { codes = codes; distinct = c.requires.different });
        assumed = rw c.reset.ensures.empty decides;
        cursor = rw c.reset.ensures.empty cursor;
        order = rw c.reset.ensures.empty (IsOrderly-none assumed true);
      };
      budget = rw c.reset.ensures.budget c.self.invariant.budget;
      found = λ e. cc;
      spent = λ e. cc;
      asked = λ new begun. absurd (begun refl);
      order = refl;
    }

pub drop_loose-requires-clause-goes : goal.drop_loose-requires-clause-goes
drop_loose-requires-clause-goes c =
    c.reset.ensures.goes c.self.inside.solver.book c.self.invariant.ready.fitted.goes.same_atoms

pub returns-clause-begun : goal.returns-clause-begun
returns-clause-begun c =
    let old = c.self.inside in
    let s = old.solver in
    let solver : Solver = record s {
      book = c.drop_loose.new.book;
      trail = c.reset.new.self;
      heap = c.unwind.new.heap;
      assumed = c.in_ok-assumed.assumed;
      cursor = 0;
      held = 0;
      front = 0;
      in_order = true;
      looked = 0;
      ground_loose = false;
      activity = c.keep_firm.new.self;
    } in
    let new : Inside = record old { solver = solver; ordered = None; stage = Begun } in
    let same : firm_of solver.book ≡ firm_of s.book = rw (c.drop_loose.ensures.clauses, c.drop_loose.ensures.kinds) (firm_is_firm s.book.kinds s.book.clauses) in
    subst (λ (before : SearchState). state_of new ≡ record before { count = 0; clauses = before.firm; assumed = c.args.assume.now; trail = []; ordered = None; stage = Begun }) c.self.view_is
    (begun_view old new c.args.assume.now c.reset.ensures.atoms c.reset.ensures.budget c.reset.ensures.count c.reset.ensures.empty c.drop_loose.ensures.clauses same c.in_ok-assumed.ensures.items refl refl refl c.keep_firm.ensures)
