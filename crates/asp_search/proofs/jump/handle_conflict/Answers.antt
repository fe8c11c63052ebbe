use Rattle.asp_search.proofs.Stepping.{refuted_at_zero}
use Rattle.asp_search.proofs.jump.handle_conflict.Goals as goal

pub returns-then-level-eq0-clause-refuted : goal.returns-then-level-eq0-clause-refuted
returns-then-level-eq0-clause-refuted c = λ _.
    refuted_at_zero c.args.solver.now.trail.atoms c.args.solver.now.book.clauses c.args.solver.now.trail.steps c.requires.ready.fitted.goes.lawful c.args.conflict c.conflict_level-level.result c.requires.conflict.0 c.requires.conflict.1 c.conflict_level-level.ensures c.if-level-eq0.true

pub learn_from-requires-clause-ready : goal.learn_from-requires-clause-ready
learn_from-requires-clause-ready c =
    let ready = c.requires.ready in
    record {
      fitted = ready.fitted;
      ranges = ready.ranges;
      learned = ready.learned;
      ground = c.look_at_ground.ensures.ground;
      unmarked = ready.unmarked;
      assumptions = ready.assumptions;
      assumed = ready.assumed;
      cursor = ready.cursor;
      order = ready.order;
    }

pub returns-clause-stays : goal.returns-clause-stays
returns-clause-stays c =
    let s = c.in_ok-learn_from.ensures.stays in
    record { ready = s.ready; meaning = s.meaning; firm = s.firm; atoms = s.atoms; budget = s.budget; assumptions = s.assumptions; in_order = s.in_order; count = s.count; decided = s.decided; activity = s.activity }

pub returns-in_err-learn_from-clause-stays : goal.returns-in_err-learn_from-clause-stays
returns-in_err-learn_from-clause-stays c =
    let s = c.learn_from.ensures.stays in
    record { ready = s.ready; meaning = s.meaning; firm = s.firm; atoms = s.atoms; budget = s.budget; assumptions = s.assumptions; in_order = s.in_order; count = s.count; decided = s.decided; activity = s.activity }
