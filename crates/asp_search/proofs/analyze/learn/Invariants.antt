use Rattle.asp_search.specs.Learned.{base_of}
use Rattle.asp_search.specs.Analysis.{IsLearning}
use Rattle.asp_search.proofs.analyze.learn.Given as goal

abbrev pub invariant-loop-literal : goal.invariant-loop-literal
invariant-loop-literal l =
    IsLearning (base_of l.book l.loose) l.book.clauses l.trail.steps l.seen.marked l.level l.place l.learned.items l.literal-index l.target
