use Rattle.asp_search.proofs.Clauses.{SameMeaning-refl}
use Rattle.std.proofs.Common.{ap, ◌∙◌, refl, arith}
use Rattle.asp_clauses.specs.Trail.{TrailState}
use Rattle.asp_search.specs.Learned.{firm_of}
use Rattle.asp_search.proofs.Stepping.{IsLater-same, IsReady-kept, Stays-kept, Stays-then}
use Rattle.asp_search.proofs.jump.learn_from.Goals as goal

pub jump_level-level-requires-clause-ready : goal.jump_level-level-requires-clause-ready
jump_level-level-requires-clause-ready c =
    let k = c.derive-derived.ensures.keeps in
    IsReady-kept c.args.solver.now _ c.requires.ready k.book k.trail k.assumed k.cursor k.held k.front k.in_order k.looked k.ground_loose (c.clear.ensures.codes ∙ k.codes) c.clear.ensures.none k.heap

pub go_back-requires-clause-ready : goal.go_back-requires-clause-ready
go_back-requires-clause-ready c =
    let k = c.derive-derived.ensures.keeps in
    IsReady-kept c.args.solver.now _ c.requires.ready k.book k.trail k.assumed k.cursor k.held k.front k.in_order k.looked k.ground_loose (c.clear.ensures.codes ∙ k.codes) c.clear.ensures.none k.heap

pub returns-in-Err-clause-stays : goal.returns-in-Err-clause-stays
returns-in-Err-clause-stays c =
    let k = c.derive-derived.ensures.keeps in
    record {
      ready = IsReady-kept c.args.solver.now _ c.requires.ready k.book k.trail k.assumed k.cursor k.held k.front k.in_order k.looked k.ground_loose (c.clear.ensures.codes ∙ k.codes) c.clear.ensures.none k.heap;
      meaning = rw k.book (SameMeaning-refl c.args.solver.now.book.clauses);
      firm = rw k.book (SameMeaning-refl (firm_of c.args.solver.now.book));
      atoms = ap (λ (t : TrailState). t.atoms) k.trail;
      budget = ap (λ (t : TrailState). t.budget) k.trail;
      assumptions = rw k.assumed refl;
      in_order = k.in_order;
      count = let still = ap (λ (t : TrailState). t.count) k.trail in omega (arith, still);
      decided = omega (arith, k.decided);
      activity = IsLater-same _ _ k.activity;
    }

pub returns-in_ok-go_back-in-Ok-clause-stays : goal.returns-in_ok-go_back-in-Ok-clause-stays
returns-in_ok-go_back-in-Ok-clause-stays c =
    let k = c.derive-derived.ensures.keeps in
    Stays-then c.args.solver.now c.go_back.new.solver c.drop_learned.new.solver
    (Stays-then c.args.solver.now _ c.go_back.new.solver
    (Stays-kept c.args.solver.now _ c.requires.ready k.book k.trail k.assumed k.cursor k.held k.front k.in_order k.looked k.ground_loose (c.clear.ensures.codes ∙ k.codes) c.clear.ensures.none k.heap k.decided k.activity)
    c.in_ok-go_back-in-Ok.ensures.stays)
    c.drop_learned.ensures.stays
