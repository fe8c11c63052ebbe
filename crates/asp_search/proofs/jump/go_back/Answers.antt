use Rattle.std.proofs.Common.{ℕ, ◌<◌, List, ap, ◌∙◌, refl, arith}
use Rattle.asp_clauses.specs.declared.trail.Step.{Step}
use Rattle.asp_clauses.specs.Trail.{TrailState, level_at, decisions}
use Rattle.asp_search.specs.Meaning.{SameMeaning}
use Rattle.asp_search.specs.Solver.{AreInRange}
use Rattle.asp_search.specs.Learned.{AreLearned, IsGround, firm_of}
use Rattle.asp_search.proofs.LearnedClauses.{AreLearned-learned, SameMeaning-all_learned, SameMeaning-firm_learned}
use Rattle.asp_search.proofs.Grounding.{IsGround-push}
use Rattle.asp_search.proofs.Trails.{level_at-le-decisions}
use Rattle.asp_search.proofs.Stepping.{IsGround-back, IsCursor-rewound, DecidesAssumed-back, IsOrderly-back, IsOrderly-lower, AreInRange-push, IsLater-same, Stays-kept}
use Rattle.asp_search.proofs.jump.go_back.Goals as goal
use Rattle.asp_search.proofs.jump.go_back.Goals.{In-Ok}

lower : (target : ℕ) (steps : List Step) (place : ℕ) → target < level_at steps place → target < decisions steps
lower target steps place below = omega (arith, below, level_at-le-decisions steps place)

pub jump-requires-clause-level : goal.jump-requires-clause-level
jump-requires-clause-level c = lower c.args.target c.args.solver.now.trail.steps c.args.place c.requires.derives.learned.lower

-- the learned clause adds nothing
same_meaning : (c : In-Ok) → SameMeaning c.args.solver.now.book.clauses c.add_learned-added.new.self.clauses
same_meaning c =
    rw (c.in-Ok.ensures.added, c.as_slice.ensures.value)
    (SameMeaning-all_learned c.args.solver.now.book c.args.solver.now.loose c.args.solver.now.learned.items c.requires.derives.learned.follows c.requires.derives.learned.mentions)

-- nor to the firm ones
same_firm : (c : In-Ok) → SameMeaning (firm_of c.args.solver.now.book) (firm_of c.add_learned-added.new.self)
same_firm c =
    rw (c.in-Ok.ensures.added, c.in-Ok.ensures.kinds, c.as_slice.ensures.value)
    (SameMeaning-firm_learned c.args.solver.now.book _ c.args.solver.now.learned.items c.requires.ready.learned.as_many c.requires.derives.learned.follows c.requires.derives.learned.mentions)

-- reasons keep their kinds
ground : (c : In-Ok) → IsGround c.add_learned-added.new.self.kinds c.args.solver.now.trail.steps c.args.solver.now.looked c.args.solver.now.ground_loose
ground c =
    let s = c.args.solver.now in
    rw c.in-Ok.ensures.kinds (IsGround-push s.trail.atoms s.book.clauses s.book.kinds _ s.trail.steps s.looked s.ground_loose c.requires.ready.fitted.goes.lawful c.requires.ready.learned.as_many c.requires.ready.ground)

ranges : (c : In-Ok) → AreInRange c.args.solver.now.trail.atoms c.add_learned-added.new.self.clauses
ranges c =
    rw (c.in-Ok.ensures.added, c.as_slice.ensures.value)
    (AreInRange-push c.args.solver.now.trail.atoms c.args.solver.now.book.clauses c.args.solver.now.learned.items c.requires.derives.learned.clause c.requires.ready.ranges)

learned : (c : In-Ok) → AreLearned c.add_learned-added.new.self.kinds c.add_learned-added.new.self.clauses
learned c =
    rw (c.in-Ok.ensures.added, c.in-Ok.ensures.kinds, c.as_slice.ensures.value)
    (AreLearned-learned c.args.solver.now.book _ c.args.solver.now.learned.items c.requires.derives.learned.follows c.requires.ready.learned)

pub returns-in-Err-jump-clause-stays : goal.returns-in-Err-jump-clause-stays
returns-in-Err-jump-clause-stays c =
    let same = c.in-Err-jump.ensures.unchanged in
    let ready = c.requires.ready in
    let old = c.args.solver.now in
    record {
      ready = record {
        fitted = record {
          goes = c.in-Err-jump.ensures.goes;
          few = rw same ready.fitted.few;
          codes = rw same ready.fitted.codes;
          heap_atoms = rw same (c.unwind.ensures.heap ∙ ready.fitted.heap_atoms);
        };
        ranges = rw same (ranges (goal.at.returns-in-Err-jump-clause-stays c).In-Ok);
        learned = learned (goal.at.returns-in-Err-jump-clause-stays c).In-Ok;
        ground = rw same (ground (goal.at.returns-in-Err-jump-clause-stays c).In-Ok);
        unmarked = ready.unmarked;
        assumptions = rw same ready.assumptions;
        assumed = rw same ready.assumed;
        cursor = rw same ready.cursor;
        order = rw same (IsOrderly-lower old.assumed.items old.trail.steps old.front c.unwind.new.front old.in_order c.unwind.ensures.front.no_further ready.order);
      };
      meaning = same_meaning (goal.at.returns-in-Err-jump-clause-stays c).In-Ok;
      firm = same_firm (goal.at.returns-in-Err-jump-clause-stays c).In-Ok;
      atoms = ap (λ (t : TrailState). t.atoms) same;
      budget = ap (λ (t : TrailState). t.budget) same;
      assumptions = refl {A = List ℕ};
      in_order = refl;
      count = let still = ap (λ (t : TrailState). t.count) same in omega (arith, still);
      decided = omega arith;
      activity = IsLater-same _ _ refl;
    }

pub returns-in-Ok-jump-clause-stays : goal.returns-in-Ok-jump-clause-stays
returns-in-Ok-jump-clause-stays c =
    let placed = c.in-Ok-jump.ensures.placed in
    let ready = c.requires.ready in
    let old = c.args.solver.now in
    record {
      ready = record {
        fitted = record {
          goes = c.in-Ok-jump.ensures.goes;
          few = rw placed.atoms ready.fitted.few;
          codes = rw placed.atoms ready.fitted.codes;
          heap_atoms = rw placed.atoms (c.decay.ensures.atoms ∙ (c.unwind.ensures.heap ∙ ready.fitted.heap_atoms));
        };
        ranges = rw placed.atoms (ranges (goal.at.returns-in-Ok-jump-clause-stays c).In-Ok);
        learned = learned (goal.at.returns-in-Ok-jump-clause-stays c).In-Ok;
        ground = rw placed.steps (IsGround-back _ old.trail.steps _ c.args.target old.looked old.ground_loose (ground (goal.at.returns-in-Ok-jump-clause-stays c).In-Ok));
        unmarked = ready.unmarked;
        assumptions = rw placed.atoms ready.assumptions;
        assumed = rw placed.steps (DecidesAssumed-back old.assumed.items old.trail.steps _ c.args.target refl ready.assumed);
        cursor = rw placed.steps
            (IsCursor-rewound old.assumed.items old.trail.steps _ old.cursor old.held c.args.target _ _ refl (lower c.args.target old.trail.steps c.args.place c.requires.derives.learned.lower) c.rewind.ensures ready.cursor);
        order = rw placed.steps
            (IsOrderly-back old.assumed.items old.trail.steps _ c.args.target c.saturating_add.result old.front c.unwind.new.front old.in_order refl (omega (arith, c.saturating_add.ensures)) c.unwind.ensures.front ready.order);
      };
      meaning = same_meaning (goal.at.returns-in-Ok-jump-clause-stays c).In-Ok;
      firm = same_firm (goal.at.returns-in-Ok-jump-clause-stays c).In-Ok;
      atoms = placed.atoms;
      budget = placed.budget;
      assumptions = refl {A = List ℕ};
      in_order = refl;
      count = let more = placed.count in omega (arith, more);
      decided = omega arith;
      activity = c.list.ensures;
    }

pub returns-in-Err-clause-stays : goal.returns-in-Err-clause-stays
returns-in-Err-clause-stays c =
    Stays-kept c.args.solver.now _ c.requires.ready c.in-Err.ensures.unchanged refl refl refl refl refl refl refl refl refl c.requires.ready.unmarked refl refl refl
