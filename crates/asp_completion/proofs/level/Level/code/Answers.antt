use Rattle.std.proofs.Common.{◌≡◌, ◌<◌, length, arith}
use Rattle.asp_completion.specs.Codes.{rank}
use Rattle.asp_completion.specs.Levels.{game_at, upper}
use Rattle.asp_completion.proofs.LevelFacts.{below, rank-few, rank-read, code-true, code-false}
use Rattle.asp_completion.proofs.level.Level.code.Goals as goal
use Rattle.asp_completion.proofs.level.Level.code.Goals.{After-index-rank}

pub index-rank-requires : goal.index-rank-requires
index-rank-requires c =
    let h : c.args.literal.atom < length (game_at c.args.self.now).bases.atoms =
    below c.args.self.now c.requires.ready c.args.literal.atom c.requires.inside in
    let size = c.requires.ready.ranks.size in
    let ok = c.args.self.now.ranks.ok in
    omega (arith, ok)

-- what was read is the atom's place
read : (c : After-index-rank) → c.index-rank.result.now ≡ rank (upper c.args.self.now) c.args.literal.atom
read c =
    rank-read c.args.self.now c.requires.ready c.args.literal.atom c.index-rank.result.now c.requires.inside c.index-rank.ensures

pub overflow_mul-result : goal.overflow_mul-result
overflow_mul-result c =
    let e = read (goal.at.overflow_mul-result c).After-index-rank in
    let few : rank (upper c.args.self.now) c.args.literal.atom < 262144 =
    rank-few c.args.self.now c.requires.ready c.args.literal.atom c.requires.inside in
    omega (arith, e)

pub overflow_add-result : goal.overflow_add-result
overflow_add-result c =
    let e = read (goal.at.overflow_add-result c).After-index-rank in
    let few : rank (upper c.args.self.now) c.args.literal.atom < 262144 =
    rank-few c.args.self.now c.requires.ready c.args.literal.atom c.requires.inside in
    omega (arith, e)

pub overflow_mul-result-else-literal : goal.overflow_mul-result-else-literal
overflow_mul-result-else-literal c =
    let e = read (goal.at.overflow_mul-result-else-literal c).After-index-rank in
    let few : rank (upper c.args.self.now) c.args.literal.atom < 262144 =
    rank-few c.args.self.now c.requires.ready c.args.literal.atom c.requires.inside in
    omega (arith, e)

pub returns-then-literal : goal.returns-then-literal
returns-then-literal c =
    code-true (upper c.args.self.now) c.args.literal c.index-rank.result.now
    (read (goal.at.returns-then-literal c).After-index-rank) c.if-literal.true

pub returns-else-literal : goal.returns-else-literal
returns-else-literal c =
    code-false (upper c.args.self.now) c.args.literal c.index-rank.result.now
    (read (goal.at.returns-else-literal c).After-index-rank) c.if-literal.false
