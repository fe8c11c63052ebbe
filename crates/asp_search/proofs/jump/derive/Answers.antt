use Rattle.asp_search.specs.Learned.{base_of}
use Rattle.asp_search.proofs.Minimizing.{IsCut-more}
use Rattle.asp_search.proofs.jump.derive.Goals as goal

pub learn-requires-clause-cut : goal.learn-requires-clause-cut
learn-requires-clause-cut c =
    let s = c.args.solver.now in
    IsCut-more (base_of s.book c.resolve_conflict.new.loose) s.trail.steps c.args.level s.trail.atoms s.book.clauses c.requires.ready.fitted.goes.lawful c.resolve_conflict.new.seen.marked c.mark_implied.new.seen.marked c.in_ok-place.place c.in_ok-place.ensures.cut c.in_ok-mark_implied.ensures.marks
