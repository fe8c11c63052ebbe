use Rattle.std.proofs.Common.{arith}
use Rattle.asp_completion.specs.Chains.{rules_along}
use Rattle.asp_completion.proofs.Chaining.{count-along, few-one, few-ways, many-rules, many-ways}
use Rattle.asp_completion.proofs.bodies.is_few.Goals as goal

pub returns-then-chain-le1-clause-few : goal.returns-then-chain-le1-clause-few
returns-then-chain-le1-clause-few c = λ _.
    few-one (rules_along c.args.level.now c.args.heads.now c.args.chain) c.args.chain.count
    (count-along c.args.level.now c.args.heads.now c.args.chain) c.if-chain-le1.true

pub returns-then-chain-gt-MOST_RULES-clause-many : goal.returns-then-chain-gt-MOST_RULES-clause-many
returns-then-chain-gt-MOST_RULES-clause-many c = λ _.
    many-rules (rules_along c.args.level.now c.args.heads.now c.args.chain) c.args.chain.count
    (count-along c.args.level.now c.args.heads.now c.args.chain) c.if-chain-gt-MOST_RULES.true

pub returns-then-ways-eq0-clause-many : goal.returns-then-ways-eq0-clause-many
returns-then-ways-eq0-clause-many c =
    let none = c.if-ways-eq0.true in
    λ _.
    many-ways (rules_along c.args.level.now c.args.heads.now c.args.chain) c.args.chain.count c.ways-ways.result
    (count-along c.args.level.now c.args.heads.now c.args.chain) c.ways-ways.ensures (omega arith)
    (λ h. let some = h.0 in absurd (omega (arith, none, some)))

pub returns-then-ways-gt-MOST_CLAUSES-clause-many : goal.returns-then-ways-gt-MOST_CLAUSES-clause-many
returns-then-ways-gt-MOST_CLAUSES-clause-many c =
    let many = c.if-ways-gt-MOST_CLAUSES.true in
    λ _.
    many-ways (rules_along c.args.level.now c.args.heads.now c.args.chain) c.args.chain.count c.ways-ways.result
    (count-along c.args.level.now c.args.heads.now c.args.chain) c.ways-ways.ensures (omega arith)
    (λ h. let few = h.1 in absurd (omega (arith, many, few)))

pub returns-clause-few : goal.returns-clause-few
returns-clause-few c = λ _.
    few-ways (rules_along c.args.level.now c.args.heads.now c.args.chain) c.args.chain.count c.ways-ways.result
    (count-along c.args.level.now c.args.heads.now c.args.chain) c.ways-ways.ensures (omega arith) (omega arith) (omega arith)
