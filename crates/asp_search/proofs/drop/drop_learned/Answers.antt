use Rattle.std.proofs.Common.{◌≡◌, ◌<◌, ℕ, List, Bool, true, false, length, refl, sym, ap, ◌∙◌, ⊎_elim, arith}
use Rattle.asp_clauses.specs.Trail.{TrailState}
use Rattle.asp_clauses.specs.Kept.{mark_of, kind_at, IsReason}
use Rattle.std.proofs.lemmas.Bool.{cases_Bool}
use Rattle.asp_search.proofs.LearnedClauses.{SameMeaning-kept, SameMeaning-firm_kept, AreLearned-kept, AreInRange-kept}
use Rattle.asp_search.proofs.Grounding.{IsGround-renumbered}
use Rattle.asp_search.proofs.Dropping.{DecidesAssumed-renumbered, IsCursor-renumbered, IsOrderly-renumbered}
use Rattle.asp_search.proofs.drop.drop_learned.Goals as goal
use Rattle.asp_search.proofs.drop.drop_learned.Goals.{After-remove}

-- reasons stay
stays_reason : (c : After-remove) → (clause : ℕ) → IsReason c.args.solver.now.trail.steps clause → mark_of c.remove.new.stays clause ≡ true
stays_reason c clause is =
    let old = c.args.solver.now in
    let within = (c.requires.ready.fitted.goes.lawful.reasoned is.0 is.1 clause is.2).0 in
    ⊎_elim
    (λ (h : mark_of c.remove.new.stays clause ≡ true). h)
    (λ (h : mark_of c.remove.new.stays clause ≡ false). absurd ((c.remove.ensures.only clause within h).2 is))
    (cases_Bool (mark_of c.remove.new.stays clause))

pub returns-clause-stays : goal.returns-clause-stays
returns-clause-stays c =
    let old = c.args.solver.now in
    let ready = c.requires.ready in
    let marks = c.remove.new.stays in
    let as_many : length marks ≡ length old.book.clauses = c.remove.ensures.as_many ∙ (ap (λ (l : List Bool). length l) c.as_mut_slice.ensures.value ∙ c.in-Ok.ensures) in
    let only : (n : ℕ) → n < length old.book.clauses → mark_of marks n ≡ false → (kind_at old.book.kinds n).learned ≡ true = λ n within is. (c.remove.ensures.only n within is).1 in
    record {
      ready = record {
        fitted = record {
          goes = c.remove.ensures.goes;
          few = rw c.remove.ensures.trail ready.fitted.few;
          codes = rw c.remove.ensures.trail ready.fitted.codes;
          heap_atoms = rw c.remove.ensures.trail ready.fitted.heap_atoms;
        };
        ranges = rw (c.remove.ensures.trail, c.remove.ensures.clauses) (AreInRange-kept old.book.kinds old.book.clauses marks as_many ready.learned old.trail.atoms ready.ranges);
        learned = rw (c.remove.ensures.clauses, c.remove.ensures.kinds) (AreLearned-kept old.book.kinds old.book.clauses marks as_many ready.learned only);
        ground = rw (c.remove.ensures.trail, c.remove.ensures.kinds) (IsGround-renumbered old.book.kinds old.trail.steps marks old.looked old.ground_loose (as_many ∙ sym ready.learned.as_many) (stays_reason (goal.at.returns-clause-stays c).After-remove) ready.ground);
        unmarked = ready.unmarked;
        assumptions = rw c.remove.ensures.trail ready.assumptions;
        assumed = rw c.remove.ensures.trail (DecidesAssumed-renumbered old.assumed.items old.trail.steps marks ready.assumed);
        cursor = rw c.remove.ensures.trail (IsCursor-renumbered old.assumed.items old.trail.steps marks old.cursor old.held ready.cursor);
        order = rw c.remove.ensures.trail (IsOrderly-renumbered old.assumed.items old.trail.steps marks old.front old.in_order ready.order);
      };
      firm = rw (c.remove.ensures.clauses, c.remove.ensures.kinds) (SameMeaning-firm_kept old.book.kinds old.book.clauses marks as_many ready.learned only);
      meaning = rw c.remove.ensures.clauses (SameMeaning-kept old.book.kinds old.book.clauses marks as_many ready.learned only);
      atoms = ap (λ (t : TrailState). t.atoms) c.remove.ensures.trail;
      budget = ap (λ (t : TrailState). t.budget) c.remove.ensures.trail;
      assumptions = refl {A = List ℕ};
      in_order = refl;
      count = let same = ap (λ (t : TrailState). t.count) c.remove.ensures.trail in omega (arith, same);
      decided = omega arith;
      activity = rw c.compact.ensures c.is_due.ensures;
    }
