use Rattle.std.proofs.Common.{◌≤◌, ℕ, List, length, ap, arith}
use Rattle.asp_completion.specs.Levels.{upper}
use Rattle.asp_completion.proofs.LevelFacts.{upper-few}
use Rattle.asp_completion.proofs.level.Level.size.Goals as goal

pub overflow_cast-result : goal.overflow_cast-result
overflow_cast-result c =
    let few : length (upper c.args.self.now) ≤ 262144 = upper-few c.args.self.now c.requires in
    let e = ap (λ (xs : List ℕ). length xs) c.upper-base.ensures in
    omega (arith, e)

pub returns-clause-few : goal.returns-clause-few
returns-clause-few c =
    let few : length (upper c.args.self.now) ≤ 262144 = upper-few c.args.self.now c.requires in
    let e = ap (λ (xs : List ℕ). length xs) c.upper-base.ensures in
    omega (arith, e)
