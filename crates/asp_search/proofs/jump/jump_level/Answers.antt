use Rattle.std.proofs.Common.{◌≡◌, ◌-◌, ◌/◌, ◌<◌, ◌≤◌, ℕ, ap, sym, arith}
use Rattle.asp_clauses.specs.Trail.{level_at}
use Rattle.asp_search.specs.Learned.{base_of}
use Rattle.asp_search.specs.Deriving.{Derives}
use Rattle.asp_search.proofs.Learning.{IsLearned-higher}
use Rattle.asp_search.proofs.jump.jump_level.Goals as goal
use Rattle.asp_search.proofs.jump.jump_level.Goals.{After-level-level}

pub level-level-requires : goal.level-level-requires
level-level-requires c =
    (c.args.place, (c.requires.derives.within, ap (λ (l : ℕ). l / 2) (sym c.at.ensures.literal)))

level_is : (c : After-level-level) → c.level-level.result ≡ level_at c.args.solver.now.trail.steps c.args.place
level_is c =
    c.level-level.ensures c.args.place (c.requires.derives.within, ap (λ (l : ℕ). l / 2) (sym c.at.ensures.literal))

higher : (c : After-level-level) (level : ℕ) → c.args.target ≤ level → level < c.level-level.result → Derives c.args.solver.now c.args.place level
higher c level up below =
    let s = c.args.solver.now in
    record {
      within = c.requires.derives.within;
      learned = IsLearned-higher s.trail.atoms (base_of s.book s.loose) s.book.clauses s.trail.steps c.requires.ready.fitted.goes.lawful s.learned.items c.args.place c.args.target level c.requires.derives.within up (omega (arith, below, level_is c)) c.requires.derives.learned;
    }

pub returns-then-solver-level : goal.returns-then-solver-level
returns-then-solver-level c =
    higher (goal.at.returns-then-solver-level c).After-level-level c.args.solver.now.held (omega (arith, c.if-solver-target.false)) c.if-solver-level.true

pub overflow_sub-result : goal.overflow_sub-result
overflow_sub-result c =
    omega (arith, level_is (goal.at.overflow_sub-result c).After-level-level, c.requires.derives.learned.lower)

pub returns : goal.returns
returns c =
    let d = (goal.at.returns c).After-level-level in
    higher d (c.level-level.result - 1) (omega (arith, level_is d, c.requires.derives.learned.lower)) (omega (arith, level_is d, c.requires.derives.learned.lower))
