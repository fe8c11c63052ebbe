use Rattle.std.proofs.Common.{◌/◌, ℕ, ap, ◌∙◌, arith}
use Rattle.asp_search.specs.Learned.{base_of}
use Rattle.asp_search.proofs.Minimizing.{MarksBelow-none, MarksBelow-cut}
use Rattle.asp_search.proofs.minimize.mark_cone.Goals as goal

pub level-requires : goal.level-requires
level-requires c =
    let m = c.requires.marked in
    (m.place, (m.within, ap (λ (l : ℕ). l / 2) m.is))

pub mark_causes-requires-clause-below : goal.mark_causes-requires-clause-below
mark_causes-requires-clause-below c =
    let m = c.requires.marked in
    record {
      place = m.place;
      within = m.within;
      is = m.is;
      above = m.above;
      below = omega (arith, c.level.ensures m.place (m.within, ap (λ (l : ℕ). l / 2) m.is), c.if-level-levels.false);
      mentioned = c.requires.mentioned;
    }

pub returns-clause-marks : goal.returns-clause-marks
returns-clause-marks c =
    let base = base_of c.args.book.now c.args.levels.now.loose in
    let steps = c.args.trail.now.steps in
    let old = c.args.seen.now.marked in
    MarksBelow-none base steps c.args.levels.now.top old c.truncate.new.self.marked
    (c.truncate.ensures.marked ∙ MarksBelow-cut base steps c.args.levels.now.top old c.mark_causes.new.seen.marked c.len-count.result c.len-count.ensures c.in_ok-mark_causes.ensures.marks)
