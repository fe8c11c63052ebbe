use Rattle.std.proofs.Common.{◌∙◌, sym, [], map, true, refl, arith}
use Rattle.asp_clauses.specs.Kept.{is_firm}
use Rattle.asp_clauses.proofs.KeptLemmas.{kept-none}
use Rattle.asp_search.specs.Solver.{AreAssumptions, AreInRange, DecidesAssumed, IsCursor}
use Rattle.asp_search.proofs.LearnedClauses.{AreLearned-none}
use Rattle.asp_search.proofs.Grounding.{IsGround-none}
use Rattle.asp_search.proofs.Stepping.{IsOrderly-none}
use Rattle.asp_search.proofs.search.Search.new.Goals as goal

pub invariant_of-result : goal.invariant_of-result
invariant_of-result c =
    let trail = c.in_ok-trail.trail in
    let ranges : AreInRange trail.atoms [] = λ number literal within has. absurd (omega (arith, within)) in
    let assumptions : AreAssumptions trail.atoms [] = record {
      codes = λ i within. absurd (omega (arith, within));
      distinct = λ i j below within. absurd (omega (arith, within));
    } in
    let decides : DecidesAssumed [] [] = λ place within is. absurd (omega (arith, within)) in
    let cursor : IsCursor [] [] 0 0 = record {
      within = omega arith;
      placed = λ i within. absurd (omega (arith, within));
      decided = λ within. omega arith;
    } in
    record {
      ready = record {
        fitted = record {
          goes = c.in_ok-trail.ensures.goes c.in_ok-book.book c.in_ok-book.ensures.atoms;
          few = rw c.in_ok-trail.ensures.atoms c.requires;
          codes = rw c.in_ok-trail.ensures.atoms c.in_ok-seen.ensures.codes;
          heap_atoms = c.in_ok-heap.ensures.atoms ∙ sym c.in_ok-trail.ensures.atoms;
        };
        ranges = rw c.in_ok-book.ensures.empty ranges;
        learned = rw (c.in_ok-book.ensures.empty, c.in_ok-book.ensures.no_kinds) AreLearned-none;
        ground = IsGround-none _ _ _;
        unmarked = c.in_ok-seen.ensures.none;
        assumptions = rw c.new-8.ensures.items assumptions;
        assumed = rw (c.new-8.ensures.items, c.in_ok-trail.ensures.empty) decides;
        cursor = rw (c.new-8.ensures.items, c.in_ok-trail.ensures.empty) cursor;
        order = rw (c.new-8.ensures.items, c.in_ok-trail.ensures.empty) (IsOrderly-none [] true);
      };
      budget = sym c.in_ok-trail.ensures.budget;
      found = λ e. cc;
      spent = λ e. cc;
      asked = λ new begun. absurd (new refl);
      order = refl;
    }

pub returns : goal.returns
returns c = record {
  atoms_are = c.in_ok-trail.ensures.atoms;
  few = rw c.in_ok-trail.ensures.atoms c.requires;
  budget_is = c.in_ok-trail.ensures.budget;
  count = c.in_ok-trail.ensures.count;
  clauses = c.in_ok-book.ensures.empty;
  firm = rw c.in_ok-book.ensures.empty (kept-none (map is_firm c.in_ok-book.book.kinds));
  assumed = c.new-8.ensures.items;
  trail = rw c.in_ok-trail.ensures.empty refl;
  ordered = refl;
  stage = refl;
  decisions = refl;
  conflicts = c.new-6.ensures;
}
